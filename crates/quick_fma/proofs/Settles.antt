-- The two tests of the code: where the ends are one number, it is `fma`; and where nothing of t + e is lost, s - (t + e) is. Assumes nothing.
use mathlib.Core.Path.{◌≡◌, refl, sym, ap, ◌∙◌, subst}
use mathlib.Core.Logic.{◌⊎◌, inl, inr}
use mathlib.Core.Bool.{Bool, true, false, ◌||◌}
use Prim.Native.Nat.{ℕ, ◌+◌, ◌≤◌}
use native.Mathlib.Omega.{arith}
use lib.Dec.{T}
use lib.Ieee.{Float, binary64, fits, of_bits, unlike, add, sub, mul, eq}
use lib.Ieee.Fits.{add-fits, sub-fits, mul-fits}
use lib.Ieee.Scale.{finite}
use Rattle.exact.specs.Doubles.{nought, zero_of}
use Rattle.exact.specs.Value.{sign_of, units_of}
use Rattle.exact.proofs.Value.{units-are}
use Rattle.exact.proofs.Compare.{none}
use Rattle.exact.proofs.Zeros.{none-times}
use Rattle.exact.proofs.Valued.{add-finite, sub-finite, mul-finite}
use Rattle.fma.specs.Fused.{fma}
use Rattle.roundoff.specs.declared.Enclosure.{Enclosure}
use Rattle.roundoff.specs.Roundoff.{sum_off, product_off, ABOVE}
use Rattle.roundoff.proofs.Settled.{far-finite, sum-finite, settled, settled-exactly}
use Rattle.roundoff.proofs.Product.{Halved}
use Rattle.quick_fma.specs.Quick.{roomy_of, upper_of, trial_of}
use Rattle.quick_fma.proofs.Parting.{upper_halves}
use Rattle.quick_fma.proofs.Answer.{fused}

-- +0 times 1 + 2 ^ -50
nought-above : mul binary64 (zero_of false) ABOVE ≡ zero_of false
nought-above = none-times false ABOVE above-finite ∙ ap zero_of plus
  where
    above-finite : T (finite ABOVE)
    above-finite = unfold of_bits in tt

    plus : unlike false (sign_of ABOVE) ≡ false
    plus = unfold of_bits in refl

module _ (a x c : Float) (fa : T (fits binary64 a)) (fx : T (fits binary64 x)) (fc : T (fits binary64 c)) (ra : roomy_of a ≡ true) (rx : roomy_of x ≡ true) where
  abbrev h : Float
  h = upper_of a

  abbrev l : Float
  l = sub binary64 a h

  abbrev g : Float
  g = upper_of x

  abbrev m : Float
  m = sub binary64 x g

  abbrev p : Float
  p = mul binary64 a x

  abbrev s : Float
  s = add binary64 p c

  abbrev t : Float
  t = sum_off p c

  abbrev e : Float
  e = product_off a h l x g m

  abbrev v : Float
  v = add binary64 t e

  -- s less some y that is rounded so
  module _ (vt : T (finite v)) where
    lm : T (finite l) × T (finite m)
    lm = mul-finite binary64 l m (sub-finite binary64 _ (mul binary64 l m) (add-finite binary64 t e vt).1).1

    abbrev A : (i : ℕ) × Halved a h l i × (537 ≤ i)
    A = upper_halves a fa ra lm.0

    abbrev X : (j : ℕ) × Halved x g m j × (537 ≤ j)
    X = upper_halves x fx rx lm.1

    room : 1074 ≤ A.0 + X.0
    room = by A.0 X.0 A.2 X.2
      where
        by : (i j : ℕ) → 537 ≤ i → 537 ≤ j → 1074 ≤ i + j
        by i j h k = omega arith

  pub settled_is : eq (trial_of a h l x g m c).off nought ≡ true → (trial_of a h l x g m c).far ≡ fma binary64 a x c
  settled_is z =
      let ft = add-fits binary64 _ _ in
      let fe = sub-fits binary64 _ _ in
      let vt = sum-finite s t e (add-fits binary64 p c) ft fe z in
      fused a h l x g m c (A vt).0 (X vt).0 (A vt).1 (X vt).1 (room vt) fc vt
      (mul binary64 v ABOVE) (mul-fits binary64 v ABOVE) (far-finite s t e (add-fits binary64 p c) ft fe z) (settled s t e (add-fits binary64 p c) ft fe z)
      (λ n. ap (λ (b : Float). mul binary64 b ABOVE) n ∙ nought-above)

  pub exact-is : (eq t nought || eq e nought) ≡ true → finite (sub binary64 s v) ≡ true → sub binary64 s v ≡ fma binary64 a x c
  exact-is z k =
      let ft = add-fits binary64 _ _ in
      let fe = sub-fits binary64 _ _ in
      let o = subst T (sym k) tt in
      let vt = (sub-finite binary64 s v o).1 in
      fused a h l x g m c (A vt).0 (X vt).0 (A vt).1 (X vt).1 (room vt) fc vt
      v (add-fits binary64 t e) o (settled-exactly s t e (add-fits binary64 p c) ft fe o (either (eq t nought) (eq e nought) z refl refl)) (λ n. n)
    where
      either : (b d : Bool) → (b || d) ≡ true → eq t nought ≡ b → eq e nought ≡ d → (units_of t ≡ 0) ⊎ (units_of e ≡ 0)
      either true d z i j = inl (units-are t (sign_of t) 0 (none t i))
      either false d z i j = inr (units-are e (sign_of e) 0 (none e (j ∙ z)))

  -- ---- with the parts as the code has them
  pub tried : (h l g m : Float) (w : Enclosure) → h ≡ upper_of a → l ≡ sub binary64 a h → g ≡ upper_of x → m ≡ sub binary64 x g → w ≡ trial_of a h l x g m c → eq w.off nought ≡ true → w.far ≡ fma binary64 a x c
  tried h l g m w hi li gi mi wi z =
      let W : w ≡ trial_of a (upper_of a) (sub binary64 a (upper_of a)) x (upper_of x) (sub binary64 x (upper_of x)) c =
      wi ∙ (λ i. trial_of a (hi i) ((li ∙ (λ j. sub binary64 a (hi j))) i) x (gi i) ((mi ∙ (λ j. sub binary64 x (gi j))) i) c) in
      ap (λ (r : Enclosure). r.far) W ∙ settled_is (sym (ap (λ (r : Enclosure). eq r.off nought) W) ∙ z)

  pub exactly-tried : (h g t e : Float) → h ≡ upper_of a → g ≡ upper_of x → t ≡ sum_off p c → e ≡ product_off a h (sub binary64 a h) x g (sub binary64 x g) → (eq t nought || eq e nought) ≡ true
      → finite (sub binary64 s (add binary64 t e)) ≡ true → sub binary64 s (add binary64 t e) ≡ fma binary64 a x c
  exactly-tried h g t e hi gi ti ei z k =
      let E : e ≡ product_off a (upper_of a) (sub binary64 a (upper_of a)) x (upper_of x) (sub binary64 x (upper_of x)) = ei ∙ (λ i. product_off a (hi i) (sub binary64 a (hi i)) x (gi i) (sub binary64 x (gi i))) in
      (λ i. sub binary64 s (add binary64 (ti i) (E i))) ∙ exact-is (sym (λ i. eq (ti i) nought || eq (E i) nought) ∙ z) (sym (λ i. finite (sub binary64 s (add binary64 (ti i) (E i)))) ∙ k)
