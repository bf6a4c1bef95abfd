-- What `start` gives for a start x below 2 ^ -36 in size that is not 0. near = x + M - M is an even number of steps of 2 ^ -87, at most one step from x. Where it is
-- not x, one step from it towards x is an odd number of steps, less than one step from x; so it has x's sign, and stands for x. Assumes nothing.
use Rattle.std.proofs.Common.{◌≡◌, ℕ, ◌+◌, ◌*◌, ◌%◌, ◌^◌, ◌<◌, ◌≤◌, Bool, true, false, T, sym, refl, ◌∙◌, subst, inl, inr, le_trans, lt_of_le_of_lt, le_of_lt, mul-le-mul_right, lt_of_mul-lt-mul_right, le_of_mul-le-mul_right, arith, lit≤, pow_pos, ltb-false, ltb-true}
use mathlib.Core.Bool.{false≢true}
use lib.Ieee.{Float, binary64, of_bits, fits, below, lt, eq, neg, add, sub}
use lib.Ieee.Scale.{finite}
use Rattle.exact.specs.Doubles.{nought}
use Rattle.exact.specs.Value.{Units, sign_of, units_of}
use Rattle.exact.specs.Signed.{Signed, Same, signed, times, plus_s, less_s}
use Rattle.exact.proofs.Value.{own}
use Rattle.exact.proofs.Signed.{same-times, sizes}
use Rattle.exact.proofs.Compare.{lt-is, between, inside, some}
use Rattle.exact.proofs.Grid.{On, add-on, sub-on}
use Rattle.exact.proofs.Steps.{finer}
use Rattle.exact.proofs.Upper.{Upper, upper_of, top}
use Rattle.fma.specs.Sticky.{Sticky}
use Rattle.points.specs.Grid.{StandsFor}
use Rattle.points.proofs.Stepping.{LEAST, least-value}

-- 3 * 2 ^ -35 and 2 ^ -87
abbrev M : Float
M = of_bits binary64 0x3DD8000000000000

abbrev STEP : Float
STEP = of_bits binary64 0x3A80000000000000

m-value : Units M false (3 * 2 ^ 52 * 2 ^ 987)
unfolding of_bits
m-value = (refl, refl)

step-on : On 987 STEP (signed false 1)
unfolding of_bits
step-on = record { sign = false; steps = 1; value = (refl, refl); same = refl }

-- ---- signed whole numbers by the tests
abbrev Less : Signed → Signed → Type 0
Less x y = x.plus + y.less < y.plus + x.less

less : (s t : Bool) (a b : ℕ) → below s a t b ≡ true → Less (signed s a) (signed t b)
less false false a b h = let l = ltb-true a b h in omega arith
less false true a b h = absurd (false≢true h)
less true false a b h = let l = ltb-true 0 (a + b) h in omega arith
less true true a b h = let l = ltb-true b a h in omega arith

not-less : (s t : Bool) (a b : ℕ) → below s a t b ≡ false → (signed t b).plus + (signed s a).less ≤ (signed s a).plus + (signed t b).less
not-less false false a b h = let l = ltb-false a b h in omega arith
not-less false true a b h = omega arith
not-less true false a b h = let l = ltb-false 0 (a + b) h in omega arith
not-less true true a b h = let l = ltb-false b a h in omega arith

-- q steps of p are less than one step from k
abbrev Within : ℕ → Signed → Signed → Type 0
Within p k q = ((times p q).plus + k.less < k.plus + (times p q).less + p) × (k.plus + (times p q).less < (times p q).plus + k.less + p)

-- ---- u units, not 0, and steps of 2 ^ j units
module _ (j u : ℕ) (some : 0 < u) where
  abbrev p : ℕ
  p = 2 ^ j

  -- an odd number of steps, less than one step away
  odd-stands : (s t : Bool) (w : ℕ) (k : Signed) → Same (signed t w) k → (k.plus + k.less) % 2 ≡ 1 → Within p (signed s u) k → (t ≡ s) × Sticky w j u
  odd-stands s t w k e o a = by s t (same-times t w p k e) (odd t e) (mul-le-mul_right p (first w (odd t e))) a.0 a.1
    where
      odd : (t : Bool) → Same (signed t w) k → w % 2 ≡ 1
      odd true e = omega arith
      odd false e = omega arith

      first : (w : ℕ) → w % 2 ≡ 1 → 1 ≤ w
      first w o = omega arith

      by : (s t : Bool) → Same (signed t (w * p)) (times p k) → w % 2 ≡ 1 → 1 * p ≤ w * p
          → (times p k).plus + (signed s u).less < (signed s u).plus + (times p k).less + p → (signed s u).plus + (times p k).less < (times p k).plus + (signed s u).less + p
          → (t ≡ s) × Sticky w j u
      by false false e o l a b = (refl, inr (o, omega arith, omega arith))
      by true true e o l a b = (refl, inr (o, omega arith, omega arith))
      by false true e o l a b = absurd (omega arith)
      by true false e o l a b = absurd (omega arith)

  -- u units themselves
  same-stands : (s t : Bool) (w : ℕ) → (signed s u).plus + (signed t (w * p)).less ≤ (signed t (w * p)).plus + (signed s u).less
      → (signed t (w * p)).plus + (signed s u).less ≤ (signed s u).plus + (signed t (w * p)).less → (t ≡ s) × Sticky w j u
  same-stands false false w a b = (refl, inl (omega arith))
  same-stands true true w a b = (refl, inl (omega arith))
  same-stands false true w a b = absurd (omega arith)
  same-stands true false w a b = absurd (omega arith)

few : (j u w : ℕ) → u < 2 ^ 51 * 2 ^ j → Sticky w j u → w ≤ 2 ^ 52
few j u w h v = le_trans (le_of_lt (lt_of_mul-lt-mul_right (2 ^ j) (by v))) (lit≤ tt)
  where
    by : Sticky w j u → w * 2 ^ j < (2 ^ 51 + 1) * 2 ^ j
    by (inl e) = omega (arith, pow_pos j)
    by (inr e) = omega arith

-- near is v pairs of steps less 3 2 ^ 51 of them; with one step more or less there is room for it
near-under : (v p : ℕ) (k : Signed) → 0 < p → (k.plus < 2 ^ 51 * p) × (k.less < 2 ^ 51 * p)
    → v * (2 * p) + k.less ≤ 3 * 2 ^ 52 * p + k.plus + p → 3 * 2 ^ 52 * p + k.plus ≤ v * (2 * p) + k.less + p
    → (v * 2 ≤ 3 * 2 ^ 52 + 2 ^ 52) × (3 * 2 ^ 52 ≤ v * 2 + 2 ^ 52)
near-under v p k P f o l = (le_of_mul-le-mul_right {k = p} (omega (arith, f.0)) P, le_of_mul-le-mul_right {k = p} (omega (arith, f.1)) P)

-- one step on from near towards k, which is at most one step from it
step-up : (v p : ℕ) (k n : Signed) → 0 < p → Same n (times p (times 2 (top v))) → Less n k → 3 * 2 ^ 52 * p + k.plus ≤ v * (2 * p) + k.less + p
    → Within p k (plus_s (times 2 (top v)) (signed false 1))
step-up v p k n P e b l = (omega arith, omega arith)

step_down : (v p : ℕ) (k n : Signed) → 0 < p → Same n (times p (times 2 (top v))) → Less k n → v * (2 * p) + k.less ≤ 3 * 2 ^ 52 * p + k.plus + p
    → Within p k (less_s (times 2 (top v)) (signed false 1))
step_down v p k n P e b l = (omega arith, omega arith)

-- ---- x is above -2 ^ -36, below 2 ^ -36, and not 0
module _ (x : Float) (f : T (fits binary64 x)) (h : lt x LEAST ≡ true) (l : lt (neg LEAST) x ≡ true) (z : eq x nought ≡ false) where
  known : T (finite x)
  unfolding of_bits neg
  known = between (neg LEAST) x LEAST tt tt l h

  abbrev kx : Signed
  kx = signed (sign_of x) (units_of x)

  value : Units x (sign_of x) (units_of x)
  value = own x f known

  small : units_of x < 2 ^ 51 * 2 ^ 987
  small = inside x LEAST (2 ^ 51 * 2 ^ 987) f known least-value h l

  nonzero : 0 < units_of x
  nonzero = some x f known z

  abbrev near : Float
  near = sub binary64 (add binary64 x M) M

  upper : Upper 987 x M kx
  upper = upper_of 987 M m-value (lit≤ tt) x (sign_of x) (units_of x) (le_trans (le_of_lt small) (lit≤ tt)) value

  abbrev pairs : Signed
  pairs = times 2 (top upper.v)

  near_on : On 987 near pairs
  near_on = finer 1 987 near (top upper.v) upper.high.on

  room : (upper.v * 2 ≤ 3 * 2 ^ 52 + 2 ^ 52) × (3 * 2 ^ 52 ≤ upper.v * 2 + 2 ^ 52)
  room =
      let z = sizes (sign_of x) (units_of x) in
      near-under upper.v (2 ^ 987) kx (pow_pos 987) (lt_of_le_of_lt z.0 small, lt_of_le_of_lt z.1 small) upper.over upper.under

  sticks : (t : Float) (k : Signed) (o : On 987 t k) → (o.sign ≡ sign_of x) × Sticky o.steps 987 (units_of x) → StandsFor x t
  sticks t k o r =
      inr
      (record {
        sign = sign_of x;
        units = units_of x;
        steps = o.steps;
        of-x = value;
        of-t = subst (λ (s : Bool). Units t s (o.steps * 2 ^ 987)) r.0 o.value;
        sticky = r.1;
        small = few 987 (units_of x) o.steps small r.1;
      })

  near-is : lt near x ≡ below near_on.sign (near_on.steps * 2 ^ 987) (sign_of x) (units_of x)
  near-is = lt-is near x near_on.sign (sign_of x) (near_on.steps * 2 ^ 987) (units_of x) (2 ^ 1074) (pow_pos 1074) near_on.value value

  is-near : lt x near ≡ below (sign_of x) (units_of x) near_on.sign (near_on.steps * 2 ^ 987)
  is-near = lt-is x near (sign_of x) near_on.sign (units_of x) (near_on.steps * 2 ^ 987) (2 ^ 1074) (pow_pos 1074) value near_on.value

  near-steps : Same (signed near_on.sign (near_on.steps * 2 ^ 987)) (times (2 ^ 987) pairs)
  near-steps = same-times near_on.sign near_on.steps (2 ^ 987) pairs near_on.same

  odd-sticks : (t : Float) (k : Signed) → On 987 t k → (k.plus + k.less) % 2 ≡ 1 → Within (2 ^ 987) kx k → StandsFor x t
  odd-sticks t k o e w = sticks t k o (odd-stands 987 (units_of x) nonzero (sign_of x) o.sign o.steps k o.same e w)

  pub start-above : lt near x ≡ true → StandsFor x (add binary64 near STEP)
  start-above g =
      odd-sticks (add binary64 near STEP) (plus_s pairs (signed false 1))
      (add-on 987 (lit≤ tt) near STEP pairs (signed false 1) near_on step-on (record { over = omega (arith, room.0); under = omega (arith, room.1) })) (omega arith)
      (step-up upper.v (2 ^ 987) kx (signed near_on.sign (near_on.steps * 2 ^ 987)) (pow_pos 987) near-steps
      (less near_on.sign (sign_of x) (near_on.steps * 2 ^ 987) (units_of x) (sym near-is ∙ g)) upper.under)

  pub start-below : lt x near ≡ true → StandsFor x (sub binary64 near STEP)
  start-below g =
      odd-sticks (sub binary64 near STEP) (less_s pairs (signed false 1))
      (sub-on 987 (lit≤ tt) near STEP pairs (signed false 1) near_on step-on (record { over = omega (arith, room.0); under = omega (arith, room.1) })) (omega arith)
      (step_down upper.v (2 ^ 987) kx (signed near_on.sign (near_on.steps * 2 ^ 987)) (pow_pos 987) near-steps
      (less (sign_of x) near_on.sign (units_of x) (near_on.steps * 2 ^ 987) (sym is-near ∙ g)) upper.over)

  pub start-at : lt near x ≡ false → lt x near ≡ false → StandsFor x near
  start-at g m =
      sticks near pairs near_on
      (same-stands 987 (units_of x) nonzero (sign_of x) near_on.sign near_on.steps
      (not-less near_on.sign (sign_of x) (near_on.steps * 2 ^ 987) (units_of x) (sym near-is ∙ g))
      (not-less (sign_of x) near_on.sign (units_of x) (near_on.steps * 2 ^ 987) (sym is-near ∙ m)))
