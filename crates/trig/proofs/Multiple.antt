-- THE REDUCTION IS EXACT: of a finite double x it is x less a whole multiple of TAU, and at most PI in size. By the division with rest
-- of the sizes in units, x = (x / TAU) TAU + x % TAU; where the rest is above PI, one TAU more goes off. With the zeros, the infinities
-- and NaN. Assumes nothing.
use mathlib.Core.Path.{◌≡◌, refl, sym, ◌∙◌}
use mathlib.Core.Logic.{◌⊎◌, inl, inr}
use mathlib.Core.Bool.{Bool, true, false, not, cond}
use Prim.Native.Nat.{ℕ, suc, ◌+◌, ◌-◌, ◌*◌, ◌/◌, ◌%◌, ◌≤◌, ◌<◌}
use native.Mathlib.Nat.{mod-lt, div-add-mod}
use native.Mathlib.Omega.{arith}
use lib.Dec.{T, leb, leb→le, nleb→lt}
use lib.IntN.{pos}
use lib.Ieee.{Float, nan, inf, fin, binary64, of_bits, rem, sub, add, neg, lt, fits}
use lib.Ieee.Fits.{rem-fits, sub-fits, add-fits, cond-fits}
use lib.Ieee.Scale.{finite}
use Rattle.exact.specs.Value.{Units, sign_of, units_of, value_of}
use Rattle.exact.specs.Signed.{Signed, Same, signed, times, plus_s}
use Rattle.exact.proofs.Value.{units-are, sign-is}
use Rattle.exact.proofs.Few.{few-of, few_mod, value-finite}
use Rattle.trig.specs.Reduce.{TAU, PI, wrapped, reduced, Reduction}
use Rattle.trig.proofs.Reducing.{tau_fits, tau_finite, tau_some, tau_doubles, rem_value, wrapped-near, wrapped-far}

-- ---- in whole numbers: the size a of the angle, and t of TAU
near-sum : (s : Bool) (a t : ℕ) → Same (plus_s (signed s (a % t)) (times t (signed s (a / t)))) (signed s a)
near-sum s a t = by s (a % t) (a / t) (div-add-mod a t)
  where
    by : (s : Bool) (n k : ℕ) → t * k + n ≡ a → Same (plus_s (signed s n) (times t (signed s k))) (signed s a)
    by true n k e = omega arith
    by false n k e = omega arith

far-sum : (s : Bool) (a t : ℕ) → 0 < t → Same (plus_s (signed (not s) (t - a % t)) (times t (signed s (suc (a / t))))) (signed s a)
far-sum s a t h = by s (a % t) (a / t) (div-add-mod a t) (mod-lt a h)
  where
    by : (s : Bool) (n k : ℕ) → t * k + n ≡ a → n < t → Same (plus_s (signed (not s) (t - n)) (times t (signed s (suc k)))) (signed s a)
    by true n k e l = omega arith
    by false n k e l = omega arith

-- ---- a reduction, by the sign and the size of the answer
reduction : (x r : Float) (s : Bool) (n : ℕ) (k : Signed) → T (fits binary64 r) → Units r s n → n ≤ units_of PI
    → Same (plus_s (signed s n) (times (units_of TAU) k)) (value_of x) → Reduction x r
reduction x r s n k f v h e =
    record {
      fit = f;
      known = value-finite r s n v;
      small = rw (units-are r s n v) h;
      k = k;
      exact = rw (sign-is r s n v, units-are r s n v) e;
    }

pub reduced-fits : (x : Float) → T (fits binary64 x) → T (fits binary64 (reduced x))
unfolding reduced wrapped
reduced-fits x f =
    let r = rem binary64 x TAU in
    cond-fits binary64 (lt PI r) (sub binary64 r TAU) (cond (lt r (neg PI)) (add binary64 r TAU) r) (sub-fits binary64 r TAU)
    (cond-fits binary64 (lt r (neg PI)) (add binary64 r TAU) r (add-fits binary64 r TAU) (rem-fits binary64 x TAU f))

-- what the division leaves
abbrev rest_of : Float → ℕ
rest_of x = units_of x % units_of TAU

module _ (x : Float) (f : T (fits binary64 x)) (t : T (finite x)) where
  near-value : rest_of x ≤ units_of PI → Units (reduced x) (sign_of x) (rest_of x)
  unfolding reduced
  near-value h =
      rw (wrapped-near (rem binary64 x TAU) (sign_of x) (rest_of x) (rem_value x f t) h) (rem_value x f t)

  far-value : units_of PI < rest_of x → Units (reduced x) (not (sign_of x)) (units_of TAU - rest_of x)
  unfolding reduced
  far-value h =
      wrapped-far (rem binary64 x TAU) (rest_of x) (few_mod (units_of x) (units_of TAU) (few-of x f t) (few-of TAU tau_fits tau_finite) tau_some) h
      (mod-lt (units_of x) tau_some) (sign_of x) (rem_value x f t)

  which : (rest_of x ≤ units_of PI) ⊎ (units_of PI < rest_of x)
  which = by (leb (rest_of x) (units_of PI)) (leb→le (rest_of x) (units_of PI)) (nleb→lt (rest_of x) (units_of PI))
    where
      by : (b : Bool) → (T b → rest_of x ≤ units_of PI) → (T (not b) → units_of PI < rest_of x) → (rest_of x ≤ units_of PI) ⊎ (units_of PI < rest_of x)
      by true h _ = inl (h tt)
      by false _ h = inr (h tt)

  -- THE LAW
  pub reduces : Reduction x (reduced x)
  reduces =
      let s = sign_of x in
      let a = units_of x in
      elim which [
        | inl h ↦
            reduction x (reduced x) s (rest_of x) (signed s (a / units_of TAU)) (reduced-fits x f) (near-value h) h
            (near-sum s a (units_of TAU))
        | inr h ↦
            reduction x (reduced x) (not s) (units_of TAU - rest_of x) (signed s (suc (a / units_of TAU))) (reduced-fits x f) (far-value h)
            (at_most (rest_of x) (units_of TAU) (units_of PI) tau_doubles h) (far-sum s a (units_of TAU) tau_some)
      ]
    where
      at_most : (n t h : ℕ) → t ≡ h * 2 → h < n → t - n ≤ h
      at_most n t h e l = omega arith

  -- an answer that is a zero has the sign of x: it is the remainder, since nothing that was wrapped is a zero
  pub zero-sign : units_of (reduced x) ≡ 0 → sign_of (reduced x) ≡ sign_of x
  zero-sign z =
      let s = sign_of x in
      let n = units_of TAU - rest_of x in
      elim which [
        | inl h ↦ sign-is (reduced x) s (rest_of x) (near-value h)
        | inr h ↦
            absurd (never (rest_of x) (units_of TAU) (mod-lt (units_of x) tau_some) (sym (units-are (reduced x) (not s) n (far-value h)) ∙ z))
      ]
    where
      never : (n t : ℕ) → n < t → t - n ≡ 0 → ⊥
      never n t h e = omega arith

-- ---- the zeros, and what is not finite
pub reduced-zero : (s : Bool) → reduced (fin s 0 (pos 0)) ≡ fin s 0 (pos 0)
unfolding reduced wrapped rem lt neg of_bits
reduced-zero true = refl
reduced-zero false = refl

pub reduced-nan : reduced nan ≡ nan
unfolding reduced wrapped rem lt of_bits
reduced-nan = refl

pub reduced-inf : (s : Bool) → reduced (inf s) ≡ nan
unfolding reduced wrapped rem lt of_bits
reduced-inf s = refl
