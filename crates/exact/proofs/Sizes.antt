-- The size of a signed whole number, one for all the pairs that stand for it; sums, differences and products of equal numbers are equal. Assumes nothing.
use mathlib.Core.Path.{◌≡◌, sym, ap, ◌∙◌}
use mathlib.Core.Logic.{inl, inr}
use mathlib.Core.Bool.{Bool, true, false, cond}
use Prim.Native.Nat.{ℕ, ◌+◌, ◌-◌, ◌*◌, ◌≤◌, ◌<◌}
use native.Mathlib.Nat.{mul-add, mul-sub, eq_of_mul-eq-mul_right}
use native.Mathlib.Omega.{arith}
use lib.Ieee.{unlike}
use Rattle.exact.specs.Signed.{Signed, Same, Apart, signed, times, plus_s, less_s, times_s, dist, mag}
use Rattle.exact.proofs.Naturals.{below_or}

pub mag_same : (x y : Signed) → Same x y → mag x ≡ mag y
mag_same x y e = by x.plus x.less y.plus y.less e
  where
    by : (a b c d : ℕ) → a + d ≡ c + b → dist a b ≡ dist c d
    by a b c d e = omega arith

pub mag-signed : (s : Bool) (n : ℕ) → mag (signed s n) ≡ n
mag-signed true n = omega arith
mag-signed false n = omega arith

pub mag-add : (x y : Signed) → mag (plus_s x y) ≤ mag x + mag y
mag-add x y = by x.plus x.less y.plus y.less
  where
    by : (a b c d : ℕ) → dist (a + c) (b + d) ≤ dist a b + dist c d
    by a b c d = omega arith

pub mag-by : (k : ℕ) (x : Signed) → mag (times k x) ≡ k * mag x
mag-by k x =
    let over = mul-sub k x.plus x.less in
    let under = mul-sub k x.less x.plus in
    (λ i. sym over i + sym under i) ∙ sym (mul-add k (x.plus - x.less) (x.less - x.plus))

-- a number is its size with a sign
pub signed_is : (x : Signed) → (s : Bool) × Same x (signed s (mag x))
signed_is x = by x.plus x.less
  where
    by : (a b : ℕ) → (s : Bool) × (a + cond s (dist a b) 0 ≡ cond s 0 (dist a b) + b)
    by a b = elim (below_or a b) [ inl l ↦ (true, omega arith) | inr l ↦ (false, omega arith) ]

-- ---- a size, as two bounds
pub mag-over : (x : Signed) → x.plus ≤ x.less + mag x
mag-over x = by x.plus x.less
  where
    by : (a b : ℕ) → a ≤ b + dist a b
    by a b = omega arith

pub mag-under : (x : Signed) → x.less ≤ x.plus + mag x
mag-under x = by x.plus x.less
  where
    by : (a b : ℕ) → b ≤ a + dist a b
    by a b = omega arith

pub mag-le : (x : Signed) (e : ℕ) → x.plus ≤ x.less + e → x.less ≤ x.plus + e → mag x ≤ e
mag-le x e h k = by x.plus x.less h k
  where
    by : (a b : ℕ) → a ≤ b + e → b ≤ a + e → dist a b ≤ e
    by a b h k = omega arith

-- how far two numbers are apart is the size of their difference
pub apart-mag : (x y : Signed) (e : ℕ) → Apart x y e → mag (less_s x y) ≤ e
apart-mag x y e h = by x.plus x.less y.plus y.less h.over h.under
  where
    by : (a b c d : ℕ) → a + d ≤ c + b + e → c + b ≤ a + d + e → dist (a + d) (b + c) ≤ e
    by a b c d h k = omega arith

-- ---- equal numbers have equal sums, differences and products
pub same-via : (x y z : Signed) → Same x y → Same y z → Same x z
same-via x y z h k = omega arith

pub same-plus : (x y u v : Signed) → Same x u → Same y v → Same (plus_s x y) (plus_s u v)
same-plus x y u v h k = omega arith

pub same-less : (x y u v : Signed) → Same x u → Same y v → Same (less_s x y) (less_s u v)
same-less x y u v h k = omega arith

pub same-product : (x y u v : Signed) → Same x u → Same y v → Same (times_s x y) (times_s u v)
same-product x y u v h k =
    both x.plus x.less u.plus u.less y.plus y.less v.plus v.less (left x.plus x.less u.plus u.less y.plus y.less h)
    (right u.plus u.less y.plus y.less v.plus v.less k)
  where
    left : (a b c d e f : ℕ) → a + d ≡ c + b → a * e + b * f + (c * f + d * e) ≡ c * e + d * f + (a * f + b * e)
    left a b c d e f h =
        let p : (a + d) * e ≡ (c + b) * e = ap (λ (z : ℕ). z * e) h in
        let q : (a + d) * f ≡ (c + b) * f = ap (λ (z : ℕ). z * f) h in
        omega arith

    right : (a b e f g i : ℕ) → e + i ≡ g + f → a * e + b * f + (a * i + b * g) ≡ a * g + b * i + (a * f + b * e)
    right a b e f g i h =
        let p : a * (e + i) ≡ a * (g + f) = ap (λ (z : ℕ). a * z) h in
        let q : b * (e + i) ≡ b * (g + f) = ap (λ (z : ℕ). b * z) h in
        omega arith

    both : (a b c d e f g i : ℕ) → a * e + b * f + (c * f + d * e) ≡ c * e + d * f + (a * f + b * e) → c * e + d * f + (c * i + d * g) ≡ c * g + d * i + (c * f + d * e)
        → a * e + b * f + (c * i + d * g) ≡ c * g + d * i + (a * f + b * e)
    both a b c d e f g i h k = omega arith

-- ---- products
pub signed_product : (s t : Bool) (m n : ℕ) → Same (times_s (signed s m) (signed t n)) (signed (unlike s t) (m * n))
signed_product true true m n = omega arith
signed_product true false m n = omega arith
signed_product false true m n = omega arith
signed_product false false m n = omega arith

pub mag-product : (x y : Signed) → mag (times_s x y) ≡ mag x * mag y
mag-product x y =
    let s = signed_is x in
    let t = signed_is y in
    mag_same (times_s x y) (times_s (signed s.0 (mag x)) (signed t.0 (mag y))) (same-product x y (signed s.0 (mag x)) (signed t.0 (mag y)) s.1 t.1)
    ∙ mag_same (times_s (signed s.0 (mag x)) (signed t.0 (mag y))) (signed (unlike s.0 t.0) (mag x * mag y)) (signed_product s.0 t.0 (mag x) (mag y))
    ∙ mag-signed (unlike s.0 t.0) (mag x * mag y)

pub factors-out : (c d : ℕ) (x y : Signed) → Same (times_s (times c x) (times d y)) (times (c * d) (times_s x y))
factors-out c d x y = by x.plus x.less y.plus y.less
  where
    by : (p q r s : ℕ) → c * p * (d * r) + c * q * (d * s) + c * d * (p * s + q * r) ≡ c * d * (p * r + q * s) + (c * p * (d * s) + c * q * (d * r))
    by p q r s = omega arith

pub factor-off : (c : ℕ) (x y : Signed) → 0 < c → Same (times c x) (times c y) → Same x y
factor-off c x y p h = eq_of_mul-eq-mul_right c p (x.plus + y.less) (y.plus + x.less) (by x.plus x.less y.plus y.less h)
  where
    by : (e f g i : ℕ) → c * e + c * i ≡ c * g + c * f → (e + i) * c ≡ (g + f) * c
    by e f g i h = omega arith
