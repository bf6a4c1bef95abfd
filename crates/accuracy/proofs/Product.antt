-- One complex product of the port, `times_c`, against the exact one: finite, and the square of its error bounded by the squares of its factors.
-- Assumes nothing.
use mathlib.Core.Path.{◌≡◌, refl, sym, ◌∙◌, subst}
use mathlib.Core.Bool.{Bool, true, false, not}
use Prim.Native.Nat.{ℕ, suc, ◌+◌, ◌-◌, ◌*◌, ◌^◌, ◌≤◌, ◌<◌}
use native.Mathlib.Nat.{le_trans, le_of_suc-le-suc, lt_of_not-le, not-le_of_lt, le-add_left, le-add_right, mul-le-mul}
use native.Mathlib.Omega.{arith}
use lib.Dec.{lit≤}
use lib.Ieee.{Float, binary64, unlike, mul}
use Rattle.exact.specs.Value.{Units, sign_of, units_of, value_of}
use Rattle.exact.specs.Signed.{Signed, Apart, signed, times, plus_s, less_s, times_s, mag}
use Rattle.exact.proofs.Value.{units-are, sign-is, own}
use Rattle.exact.proofs.Sizes.{mag-signed}
use Rattle.exact.proofs.Valued.{value-is}
use Rattle.quant.specs.declared.complex.Complex.{Complex}
use Rattle.quant.specs.Complex.{times_c}
use Rattle.accuracy.specs.Exact.{Held, times_g, exactly, squares}
use Rattle.accuracy.proofs.Operations.{mul-near, add-near, sub-near}
use Rattle.accuracy.proofs.Products.{Part, joined, sum-most}
use Rattle.accuracy.proofs.Step.{step-square}
use Rattle.accuracy.proofs.Error.{sq_g, error}

-- both parts are whole numbers of units, so finite
pub record Whole (z : Complex) : Type 0 where
  pub re : Units z.re (sign_of z.re) (units_of z.re)
  pub im : Units z.im (sign_of z.im) (units_of z.im)

pub held_whole : (z : Complex) → Held z → Whole z
held_whole z h = record { re = own z.re h.re-fits h.re-finite; im = own z.im h.im-fits h.im-finite }

its_own : (x : Float) (s : Bool) (n : ℕ) → Units x s n → Units x (sign_of x) (units_of x)
its_own x s n h = subst (λ (t : Bool). Units x t (units_of x)) (sym (sign-is x s n h)) (subst (λ (b : ℕ). Units x s b) (sym (units-are x s n h)) h)

-- ---- squares of parts

pub squares-are : (z : Complex) → sq_g (exactly z) ≡ squares z
squares-are z =
    let re = mag-signed (sign_of z.re) (units_of z.re) in
    let im = mag-signed (sign_of z.im) (units_of z.im) in
    λ i. re i * re i + im i * im i

pub root : (a b : ℕ) → a * a ≤ b * b → a ≤ b
root a b h = le_of_suc-le-suc (lt_of_not-le (λ (g : suc b ≤ a). not-le_of_lt (less b) (le_trans (mul-le-mul g g) h)))
  where
    less : (b : ℕ) → b * b < suc b * suc b
    less b = omega arith

-- each part is at most b where the squares' sum is at most b²
pub re-most : (z : Complex) (b : ℕ) → squares z ≤ b * b → units_of z.re ≤ b
re-most z b h = root (units_of z.re) b (le_trans (le-add_right (units_of z.re * units_of z.re) (units_of z.im * units_of z.im)) h)

pub im-most : (z : Complex) (b : ℕ) → squares z ≤ b * b → units_of z.im ≤ b
im-most z b h = root (units_of z.im) b (le_trans (le-add_left (units_of z.im * units_of z.im) (units_of z.re * units_of z.re)) h)

-- ---- the product

-- what is lost where a part is too small to be a normal double, times 2 ^ 106
abbrev pub lost : ℕ
lost = 4 * (2 ^ 1074 * 2 ^ 54 * (2 ^ 1074 * 2 ^ 54))

pub record Product (x y : Complex) : Type 0 where
  pub whole : Whole (times_c x y)
  pub near : sq_g (error (2 ^ 1074) (exactly (times_c x y)) (times_g (exactly x) (exactly y))) * 2 ^ 106 ≤ 36 * (squares x * squares y) + lost

-- ---- the exact parts, as sums of signed products
signed-times : (s t : Bool) (a b : ℕ) → signed (unlike s t) (a * b) ≡ times_s (signed s a) (signed t b)
signed-times s t a b = λ i. record { plus = plus s t i; less = less s t i }
  where
    plus : (s t : Bool) → (signed (unlike s t) (a * b)).plus ≡ (times_s (signed s a) (signed t b)).plus
    plus true true = omega arith
    plus true false = omega arith
    plus false true = omega arith
    plus false false = omega arith

    less : (s t : Bool) → (signed (unlike s t) (a * b)).less ≡ (times_s (signed s a) (signed t b)).less
    less true true = omega arith
    less true false = omega arith
    less false true = omega arith
    less false false = omega arith

less-turned : (x : Signed) (s : Bool) (n : ℕ) → plus_s x (signed (not s) n) ≡ less_s x (signed s n)
less-turned x true n = refl
less-turned x false n = refl

as_mag : (d e : ℕ) (v x : Signed) → Apart (times d (times (2 ^ 53) v)) (times (2 ^ 53) x) e → mag (less_s (times d v) x) * 2 ^ 53 ≤ e
as_mag d e v x h = by v.plus v.less x.plus x.less h.over h.under
  where
    by : (a b p q : ℕ) → d * (2 ^ 53 * a) + 2 ^ 53 * q ≤ 2 ^ 53 * p + d * (2 ^ 53 * b) + e → 2 ^ 53 * p + d * (2 ^ 53 * b) ≤ d * (2 ^ 53 * a) + 2 ^ 53 * q + e
        → (d * a + q - (d * b + p) + (d * b + p - (d * a + q))) * 2 ^ 53 ≤ e
    by a b p q h k = omega arith

-- one part of the product, x off by e / 2 ^ 53 at most
part_off : (r : Float) (x y : Signed) (e : ℕ) → x ≡ y → Part r x e → mag (less_s (times (2 ^ 1074) (value_of r)) y) * 2 ^ 53 ≤ e
part_off r x y e same p =
    subst (λ (z : Signed). mag (less_s (times (2 ^ 1074) z) y) * 2 ^ 53 ≤ e) (sym (value-is r p.sign p.size p.value))
    (as_mag (2 ^ 1074) e (signed p.sign p.size) y (subst (λ (z : Signed). Apart (times (2 ^ 1074) (times (2 ^ 53) (signed p.sign p.size))) (times (2 ^ 53) z) e) same p.apart))

-- ---- both parts, of factors below 2 ^ 201
module _ (x y : Complex) (v : Whole x) (w : Whole y) (h : squares x ≤ 2 ^ 1275 * 2 ^ 1275) (k : squares y ≤ 2 ^ 1275 * 2 ^ 1275) where
  abbrev a : ℕ
  a = units_of x.re

  abbrev b : ℕ
  b = units_of x.im

  abbrev c : ℕ
  c = units_of y.re

  abbrev d : ℕ
  d = units_of y.im

  abbrev s : Bool
  s = sign_of x.re

  abbrev t : Bool
  t = sign_of x.im

  abbrev p : Bool
  p = sign_of y.re

  abbrev q : Bool
  q = sign_of y.im

  most : {a b : ℕ} → a ≤ 2 ^ 1275 → b ≤ 2 ^ 1275 → a * b ≤ 2 ^ 2080 * 2 ^ 1074
  most h k = le_trans (mul-le-mul h k) (lit≤ tt)

  ac : a * c ≤ 2 ^ 2080 * 2 ^ 1074
  ac = most (re-most x (2 ^ 1275) h) (re-most y (2 ^ 1275) k)

  bd : b * d ≤ 2 ^ 2080 * 2 ^ 1074
  bd = most (im-most x (2 ^ 1275) h) (im-most y (2 ^ 1275) k)

  ad : a * d ≤ 2 ^ 2080 * 2 ^ 1074
  ad = most (re-most x (2 ^ 1275) h) (im-most y (2 ^ 1275) k)

  bc : b * c ≤ 2 ^ 2080 * 2 ^ 1074
  bc = most (im-most x (2 ^ 1275) h) (re-most y (2 ^ 1275) k)

  real-part : Part (times_c x y).re (plus_s (signed (unlike s p) (a * c)) (signed (not (unlike t q)) (b * d))) (3 * (a * c + b * d) + 2 ^ 1074 * 2 ^ 54)
  real-part =
      let f = mul binary64 x.re y.re in
      let g = mul binary64 x.im y.im in
      let m = mul-near x.re y.re s p a c v.re w.re ac in
      let n = mul-near x.im y.im t q b d v.im w.im bd in
      joined (unlike s p) (unlike t q) (a * c) (b * d) f g m n ac bd (times_c x y).re (not (unlike t q))
      (sub-near m.size n.size (sum-most (unlike s p) (unlike t q) (a * c) (b * d) f g m n ac bd) f g (unlike s p) (unlike t q) m.value n.value)

  imaginary-part : Part (times_c x y).im (plus_s (signed (unlike s q) (a * d)) (signed (unlike t p) (b * c))) (3 * (a * d + b * c) + 2 ^ 1074 * 2 ^ 54)
  imaginary-part =
      let f = mul binary64 x.re y.im in
      let g = mul binary64 x.im y.re in
      let m = mul-near x.re y.im s q a d v.re w.im ad in
      let n = mul-near x.im y.re t p b c v.im w.re bc in
      joined (unlike s q) (unlike t p) (a * d) (b * c) f g m n ad bc (times_c x y).im (unlike t p)
      (add-near m.size n.size (sum-most (unlike s q) (unlike t p) (a * d) (b * c) f g m n ad bc) f g (unlike s q) (unlike t p) m.value n.value)

  real-is : plus_s (signed (unlike s p) (a * c)) (signed (not (unlike t q)) (b * d)) ≡ (times_g (exactly x) (exactly y)).re
  real-is = less-turned (signed (unlike s p) (a * c)) (unlike t q) (b * d) ∙ (λ i. less_s (signed-times s p a c i) (signed-times t q b d i))

  imaginary-is : plus_s (signed (unlike s q) (a * d)) (signed (unlike t p) (b * c)) ≡ (times_g (exactly x) (exactly y)).im
  imaginary-is = λ i. plus_s (signed-times s q a d i) (signed-times t p b c i)

  pub product : Product x y
  product =
      let z = times_c x y in
      let w = times_g (exactly x) (exactly y) in
      let off = error (2 ^ 1074) (exactly z) w in
      record {
        whole =
            record {
              re = its_own z.re real-part.sign real-part.size real-part.value;
              im = its_own z.im imaginary-part.sign imaginary-part.size imaginary-part.value;
            };
        near =
            step-square (mag off.re) (mag off.im) a b c d (2 ^ 1074)
            (part_off z.re (plus_s (signed (unlike s p) (a * c)) (signed (not (unlike t q)) (b * d))) w.re (3 * (a * c + b * d) + 2 ^ 1074 * 2 ^ 54) real-is real-part)
            (part_off z.im (plus_s (signed (unlike s q) (a * d)) (signed (unlike t p) (b * c))) w.im (3 * (a * d + b * c) + 2 ^ 1074 * 2 ^ 54) imaginary-is imaginary-part);
      }
