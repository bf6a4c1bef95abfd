-- The order of finite doubles as that of signed whole numbers over one denominator; and where lo <= x <= hi, that x - lo and hi - lo are finite and
-- the first is no larger: the exact differences stand so, and rounding keeps their order. x need not be a double that fits. Assumes nothing.
use Rattle.std.proofs.Common.{◌≡◌, ℕ, ◌+◌, ◌*◌, ◌^◌, ◌<◌, ◌≤◌, Bool, true, false, not, T, ltb, sym, refl, ◌∙◌, subst, le_trans, mul-le-mul_right, le_of_mul-le-mul_right, arith, lit<, ltb-false, le-ltb}
use mathlib.Core.Bool.{false≢true}
use lib.Ieee.{Float, nan, inf, fin, binary64, round, sub, lt, le, eq}
use lib.Ieee.Fits.{round-fits}
use lib.Ieee.Exact.{HasValue}
use lib.Ieee.Scale.{finite}
use Rattle.exact.specs.Value.{AtMost, units_of}
use Rattle.exact.specs.Signed.{Signed, signed}
use Rattle.exact.proofs.Finite.{smaller-finite, smaller-units}
use Rattle.exact.proofs.Operation.{sub-rounds}
use Rattle.exact.proofs.Compare.{lt-is}
use Rattle.ieee.proofs.Comparing.{AtMost as Fraction, fractions-of-le}
use Rattle.spline.proofs.Places.{NotMore, on, not-below-says}
use Rattle.spline.proofs.StepSizes.{gap, sum_size, sum-round, sum-size, round-most, twice}

-- ---- a is at most b
scaled : (s t : Bool) (a b c : ℕ) → 0 < c → Fraction s (a * c) t (b * c) → NotMore (signed s a) (signed t b)
scaled false false a b c C h = let l : a ≤ b = le_of_mul-le-mul_right h C in omega arith
scaled false true a b c C h = le_of_mul-le-mul_right {k = c} (let e = h.0 in let g = h.1 in omega arith) C
scaled true false a b c C h = omega arith
scaled true true a b c C h = let l : b ≤ a = le_of_mul-le-mul_right h C in omega arith

module _ (x y : Float) (s t : Bool) (a b c : ℕ) (C : 0 < c) (v : HasValue x s a c) (w : HasValue y t b c) where
  pub upto : lt y x ≡ false → NotMore (signed s a) (signed t b)
  upto e = not-below-says t s b a (sym (lt-is y x t s b a c C w v) ∙ e)

  pub upto_le : le x y ≡ true → NotMore (signed s a) (signed t b)
  upto_le e = scaled s t a b c C (fractions-of-le x y s t a c b c C C v w (subst T (sym e) tt))

-- between two finite doubles, ends taken in
pub from-to : (a x b : Float) → T (finite a) → T (finite b) → le a x ≡ true → le x b ≡ true → T (finite x)
unfolding le lt eq
from-to nan x b p q g h = absurd p
from-to (inf s) x b p q g h = absurd p
from-to (fin s m e) x nan p q g h = absurd q
from-to (fin s m e) x (inf t) p q g h = absurd q
from-to (fin s m e) nan (fin t n d) p q g h = absurd (false≢true g)
from-to (fin s m e) (inf true) (fin t n d) p q g h = absurd (false≢true g)
from-to (fin s m e) (inf false) (fin t n d) p q g h = absurd (false≢true h)
from-to (fin s m e) (fin u k c) (fin t n d) p q g h = tt

-- ---- the size of a difference that is not negative
size_is : (s t : Bool) (a b : ℕ) → NotMore (signed t b) (signed s a)
    → sum_size s a (not t) b + ((signed t b).plus + (signed s a).less) ≡ (signed s a).plus + (signed t b).less
size_is false false a b h = rw (le-ltb a b (omega arith)) (omega arith)
size_is false true a b h = omega arith
size_is true false a b h = omega arith
size_is true true a b h = by (ltb a b) refl
  where
    by : (l : Bool) → ltb a b ≡ l → gap l a b + (0 + a) ≡ 0 + b
    by true e = omega arith
    by false e = omega (arith, ltb-false a b e)

pub record Differences (x lo hi : Float) : Type 0 where
  pub from : AtMost (2 ^ 2075) (sub binary64 x lo)
  pub wide : AtMost (2 ^ 2075) (sub binary64 hi lo)
  pub order : units_of (sub binary64 x lo) ≤ units_of (sub binary64 hi lo)

module _ (x lo hi : Float) (s t u : Bool) (a b d c : ℕ) (C : 0 < c) (v : HasValue x s a c) (l : HasValue lo t b c) (h : HasValue hi u d c) where
  pub differences : b * 2 ^ 1074 ≤ 2 ^ 2074 * c → d * 2 ^ 1074 ≤ 2 ^ 2074 * c → NotMore (signed t b) (signed s a) → NotMore (signed s a) (signed u d)
      → Differences x lo hi
  differences small great low high =
      let m = sum_size s a (not t) b in
      let n = sum_size u d (not t) b in
      let f = sum-round s a (not t) b c in
      let w = sum-round u d (not t) b c in
      let from_is : sub binary64 x lo ≡ round binary64 f.0 m c = sub-rounds binary64 x lo s t a b c C v l ∙ f.1 in
      let wide_is : sub binary64 hi lo ≡ round binary64 w.0 n c = sub-rounds binary64 hi lo u t d b c C h l ∙ w.1 in
      let most =
      round-most w.0 n c 2075 C (lit< tt) (room n b d c (2 ^ 1074) (2 ^ 2074) (2 ^ 2075) (sum-size u d (not t) b) small great (twice 2074)) in
      let less : m ≤ n =
      smaller m n (signed s a) (signed t b) (signed u d) (size_is s t a b low)
      (size_is u t d b (on (signed t b) (signed s a) (signed u d) low high)) high in
      let order = smaller-units f.0 w.0 m n c C less most.known in
      record {
        from = subst (AtMost (2 ^ 2075)) (sym from_is)
            (record {
              fit = round-fits binary64 f.0 m c;
              known = smaller-finite f.0 w.0 m n c C less most.known;
              small = le_trans order most.small;
            });
        wide = subst (AtMost (2 ^ 2075)) (sym wide_is) most;
        order = rw (from_is, wide_is) order;
      }
    where
      room : (n b d c q m k : ℕ) → n ≤ d + b → b * q ≤ m * c → d * q ≤ m * c → k ≡ 2 * m → n * q ≤ k * c
      room n b d c q m k h g e f = let most : n * q ≤ (d + b) * q = mul-le-mul_right q h in rw f (omega arith)

      smaller : (m n : ℕ) (x l h : Signed) → m + (l.plus + x.less) ≡ x.plus + l.less → n + (l.plus + h.less) ≡ h.plus + l.less → NotMore x h
          → m ≤ n
      smaller m n x l h p q o = omega arith
