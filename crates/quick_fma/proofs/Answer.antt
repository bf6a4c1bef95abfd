-- What doubles settle is the fused sum. p - e is a x and s - t is p + c, exactly, so that s - (t + e) is a x + c; and what that rounds to is `fma`. Where it is 0, the sum has
-- the sign that is asked for: s is -0 only where p and c are, and then t + e is +0. Assumes nothing.
use mathlib.Core.Path.{◌≡◌, refl, sym, ap, ◌∙◌, subst}
use mathlib.Core.Logic.{inl, inr}
use mathlib.Core.Bool.{Bool, true, false, not, ◌&&◌}
use Prim.Native.Nat.{ℕ, ◌+◌, ◌-◌, ◌*◌, ◌^◌, ◌≤◌}
use native.Mathlib.Nat.{eq-zero-or-pos, lt_of_le_of_lt, le_of_eq, mul-pos, mul_assoc}
use native.Mathlib.Omega.{arith}
use lib.Dec.{T}
use lib.IntN.{pos}
use lib.Pow.{pow_pos}
use lib.Ieee.{Float, binary64, fits, unlike, round, sum, neg, add, sub, mul}
use lib.Ieee.Fits.{add-fits, sub-fits, mul-fits}
use lib.Ieee.Scale.{finite}
use Rattle.exact.specs.Doubles.{zero_of}
use Rattle.exact.specs.Value.{Units, sign_of, units_of, value_of}
use Rattle.exact.specs.Signed.{Signed, Same, signed, plus_s, less_s, dist, mag}
use Rattle.exact.specs.Rounds.{Rounds}
use Rattle.exact.proofs.Value.{own, zero_is}
use Rattle.exact.proofs.Few.{Few, few-of, few-value, units-below}
use Rattle.exact.proofs.Sum.{sum_same}
use Rattle.exact.proofs.Operation.{add_rounds}
use Rattle.exact.proofs.Zeros.{round-zero, two-zeros, minus-only}
use Rattle.exact.proofs.Rounds.{rounds-same, rounds-none}
use Rattle.exact.proofs.Valued.{Result, result_as, result-is, sum-result, add-finite, sub-finite, sub-value, product-scaled, product-same, mul_is}
use Rattle.fma.specs.Fused.{fma}
use Rattle.fma.proofs.Fusing.{fma-at}
use Rattle.roundoff.specs.Roundoff.{sum_off, product_off}
use Rattle.roundoff.proofs.TwoSum.{two-sum-exact}
use Rattle.roundoff.proofs.Product.{Halved, scale, exact_product, product-off}

-- ---- two zeros
less-zeros : (s t : Bool) → sub binary64 (zero_of s) (zero_of t) ≡ zero_of (s && not t)
unfolding sub neg
less-zeros s t = two-zeros s (not t) (pos 0)

-- two-sum of -0 and -0
minus-off : sum_off (zero_of true) (zero_of true) ≡ zero_of false
unfolding add sub neg sum round
minus-off = refl

module _ (a h l x g m c : Float) (i j : ℕ) (u : Halved a h l i) (w : Halved x g m j) (room : 1074 ≤ i + j) (f : T (fits binary64 c)) where
  abbrev p : Float
  p = mul binary64 a x

  abbrev s : Float
  s = add binary64 p c

  abbrev t : Float
  t = sum_off p c

  abbrev e : Float
  e = product_off a h l x g m

  abbrev v : Float
  v = add binary64 t e

  abbrev P : Signed
  P = exact_product a h l x g m i j u w room

  abbrev shift : ℕ
  shift = i + j - 1074

  abbrev sign : Bool
  sign = unlike (sign_of a) (sign_of x)

  -- the product, rounded
  p-is : p ≡ round binary64 sign (mag P) (2 ^ 1074)
  p-is = mul_is a x i j shift (plus_s u.H u.L) (plus_s w.H w.L) u.x-is w.x-is (scale a h l x g m i j u w room)

  P-same : Same (signed sign (mag P)) P
  P-same = product-same a x i j shift (plus_s u.H u.L) (plus_s w.H w.L) u.x-is w.x-is (scale a h l x g m i j u w room)

  module _ (vt : T (finite v)) where
    te : T (finite t) × T (finite e)
    te = add-finite binary64 t e vt

    -- s - (t + e) is the exact sum
    lossless : Same (less_s (value_of s) (plus_s (value_of t) (value_of e))) (plus_s P (value_of c))
    lossless = by (value_of s) (value_of t) (value_of e) (value_of p) (value_of c) P (two-sum-exact p c (mul-fits binary64 a x) f te.0) (product-off a h l x g m i j u w room te.1)
      where
        by : (s t o p c q : Signed) → Same (less_s s t) (plus_s p c) → Same o (less_s p q) → Same (less_s s (plus_s t o)) (plus_s q c)
        by s t o p c q h k = omega arith

    ct : T (finite c)
    ct = (sub-finite binary64 (sub binary64 s p) c (add-finite binary64 (sub binary64 (sub binary64 s (sub binary64 s p)) p) (sub binary64 (sub binary64 s p) c) te.0).1).1

    pt : T (finite p)
    pt = (sub-finite binary64 (sub binary64 s (sub binary64 s p)) p (add-finite binary64 (sub binary64 (sub binary64 s (sub binary64 s p)) p) (sub binary64 (sub binary64 s p) c) te.0).0).1

    -- and `fma` is that, rounded
    fma-sum : fma binary64 a x c ≡ sum binary64 sign (mag P) (sign_of c) (units_of c) (2 ^ 1074)
    fma-sum =
        let q = 2 ^ 1074 in
        let o = pow_pos 1074 in
        fma-at a x c (sign_of a) (sign_of x) (sign_of c) (units_of a) (units_of x) (units_of c) q o (own a u.x-is.fit u.x-is.here) (own x w.x-is.fit w.x-is.here) (own c f ct)
        ∙ sum_same binary64 sign (sign_of c) (units_of a * units_of x) (units_of c * q) (q * q) (mag P) (units_of c) q (mul-pos o o) o
        (product-scaled a x i j shift (plus_s u.H u.L) (plus_s w.H w.L) u.x-is w.x-is (scale a h l x g m i j u w room)) (mul_assoc (units_of c) q q)

    answer : Result (fma binary64 a x c) (plus_s P (value_of c))
    answer =
        let r = sum-result (mag P) (units_of c) sign (sign_of c) in
        result_as (fma binary64 a x c) (plus_s (signed sign (mag P)) (value_of c)) (plus_s P (value_of c)) (by (signed sign (mag P)) P (value_of c) P-same)
        record { sign = r.sign; size = r.size; is = fma-sum ∙ r.is; same = r.same }
      where
        by : (x y c : Signed) → Same x y → Same (plus_s x c) (plus_s y c)
        by x y c h = omega arith

    -- ---- s less some y is it, where it is so rounded, and where y is +0 with t + e
    module _ (y : Float) (fy : T (fits binary64 y)) (yt : T (finite (sub binary64 s y))) (r : Rounds (less_s (value_of s) (plus_s (value_of t) (value_of e))) (value_of (sub binary64 s y)))
        (plain : v ≡ zero_of false → y ≡ zero_of false) where
      exactly : Rounds (plus_s P (value_of c)) (value_of (sub binary64 s y))
      exactly = rounds-same (less_s (value_of s) (plus_s (value_of t) (value_of e))) (value_of (sub binary64 s y)) (plus_s P (value_of c)) (value_of (sub binary64 s y)) lossless refl r

      zero : units_of (sub binary64 s y) ≡ 0 → sub binary64 s y ≡ fma binary64 a x c
      zero z =
          let o = sub-finite binary64 s y yt in
          let n = rounds-none (plus_s P (value_of c)) (value_of (sub binary64 s y)) exactly (mag-value (sign_of (sub binary64 s y)) (units_of (sub binary64 s y)) z) in
          let k : mag P ≡ units_of c = level P (sign_of c) (units_of c) n in
          -- the product is exact, so s is the answer
          let q : Units p sign (mag P) =
          subst (λ (b : Float). Units b sign (mag P)) (sym p-is) (few-value sign (mag P) (subst Few (sym k) (few-of c f ct)) (lt_of_le_of_lt (le_of_eq k) (units-below c f ct))) in
          let s-is : s ≡ fma binary64 a x c = add_rounds binary64 p c sign (sign_of c) (mag P) (units_of c) (2 ^ 1074) (pow_pos 1074) q (own c f ct) ∙ sym fma-sum in
          -- and a zero
          let i : answer.size ≡ 0 = size_none answer.sign answer.size (plus_s P (value_of c)) answer.same n in
          let s-zero : s ≡ zero_of answer.sign = s-is ∙ answer.is ∙ ap (λ (b : ℕ). round binary64 answer.sign b (2 ^ 1074)) i ∙ round-zero answer.sign (2 ^ 1074) (pow_pos 1074) in
          let y-zero : y ≡ zero_of (sign_of y) = zero_is y fy o.1 (other (value_of s) (sign_of y) (units_of y) (s-none s-zero) (rounds-none (less_s (value_of s) (value_of y)) (value_of (sub binary64 s y)) (sub-value s y (add-fits binary64 p c) fy yt) (mag-value (sign_of (sub binary64 s y)) (units_of (sub binary64 s y)) z))) in
          signs answer.sign (sign_of y) s-zero y-zero s-is
        where
          mag-value : (b : Bool) (k : ℕ) → k ≡ 0 → mag (signed b k) ≡ 0
          mag-value true k z = omega arith
          mag-value false k z = omega arith

          level : (P : Signed) (b : Bool) (k : ℕ) → mag (plus_s P (signed b k)) ≡ 0 → mag P ≡ k
          level P b k h = by P.plus P.less b h
            where
              by : (x y : ℕ) (b : Bool) → dist (x + (signed b k).plus) (y + (signed b k).less) ≡ 0 → dist x y ≡ k
              by x y true h = omega arith
              by x y false h = omega arith

          size_none : (b : Bool) (k : ℕ) (z : Signed) → Same (signed b k) z → mag z ≡ 0 → k ≡ 0
          size_none b k z h e = by z.plus z.less b h e
            where
              by : (x y : ℕ) (b : Bool) → (signed b k).plus + y ≡ x + (signed b k).less → dist x y ≡ 0 → k ≡ 0
              by x y true h e = omega arith
              by x y false h e = omega arith

          s-none : s ≡ zero_of answer.sign → mag (value_of s) ≡ 0
          s-none i = mag-value (sign_of s) (units_of s) (ap units_of i)

          other : (S : Signed) (b : Bool) (k : ℕ) → mag S ≡ 0 → mag (less_s S (signed b k)) ≡ 0 → k ≡ 0
          other S b k h e = by S.plus S.less b h e
            where
              by : (x y : ℕ) (b : Bool) → dist x y ≡ 0 → dist (x + (signed b k).less) (y + (signed b k).plus) ≡ 0 → k ≡ 0
              by x y true h e = omega arith
              by x y false h e = omega arith

          -- of -0 and -0 t is +0, and so is t + e; else s is +0
          signs : (i j : Bool) → s ≡ zero_of i → y ≡ zero_of j → s ≡ fma binary64 a x c → sub binary64 s y ≡ fma binary64 a x c
          signs false j d k o = ap (λ (b : Float). sub binary64 b y) d ∙ ap (sub binary64 (zero_of false)) k ∙ less-zeros false j ∙ sym d ∙ o
          signs true j d k o = ap (λ (b : Float). sub binary64 b y) d ∙ ap (sub binary64 (zero_of true)) (plain v-zero) ∙ less-zeros true false ∙ sym d ∙ o
            where
              both : (p ≡ zero_of true) × (c ≡ zero_of true)
              both = minus-only p c (mul-fits binary64 a x) pt f ct d

              t-zero : t ≡ zero_of false
              t-zero = ap (λ (b : Float). sum_off b c) both.0 ∙ ap (sum_off (zero_of true)) both.1 ∙ minus-off

              e-zero : e ≡ zero_of (sign_of e)
              e-zero = zero_is e (sub-fits binary64 _ _) te.1 (last (value_of s) (value_of t) (value_of c) P (sign_of e) (units_of e) lossless (mag-value (sign_of s) (units_of s) (ap units_of d)) (mag-value (sign_of t) (units_of t) (ap units_of t-zero)) (rounds-none (plus_s P (value_of c)) (value_of (sub binary64 s y)) exactly (mag-value (sign_of (sub binary64 s y)) (units_of (sub binary64 s y)) z)))
                where
                  last : (s t c q : Signed) (b : Bool) (k : ℕ) → Same (less_s s (plus_s t (signed b k))) (plus_s q c) → mag s ≡ 0 → mag t ≡ 0 → mag (plus_s q c) ≡ 0 → k ≡ 0
                  last s t c q b k h i j o = by s.plus s.less t.plus t.less (q.plus + c.plus) (q.less + c.less) b h i j o
                    where
                      by : (x y p q m n : ℕ) (b : Bool) → x + (q + (signed b k).less) + n ≡ m + (y + (p + (signed b k).plus)) → dist x y ≡ 0 → dist p q ≡ 0 → dist m n ≡ 0 → k ≡ 0
                      by x y p q m n true h i j o = omega arith
                      by x y p q m n false h i j o = omega arith

              v-zero : v ≡ zero_of false
              v-zero = ap (λ (b : Float). add binary64 b e) t-zero ∙ ap (add binary64 (zero_of false)) e-zero ∙ two-zeros false (sign_of e) (pos 0)

      pub fused : sub binary64 s y ≡ fma binary64 a x c
      fused = elim (eq-zero-or-pos (units_of (sub binary64 s y))) [ inl z ↦ zero z | inr k ↦ result-is (sub binary64 s y) (fma binary64 a x c) (plus_s P (value_of c)) (sub-fits binary64 s y) yt exactly k answer ]
