-- One step of Horner's rule, c - y p, in whole numbers: what the errors of y, p and c and the two roundings make of the answer's error.
-- Nothing here is about floats. Numbers are counted in units of 1 / q; `Off v n c e` says that v is within e of n / c. Assumes nothing.
use mathlib.Core.Path.{◌≡◌, ap}
use Prim.Native.Nat.{ℕ, ◌+◌, ◌*◌, ◌≤◌}
use native.Mathlib.Nat.{mul-le-mul_left, mul-le-mul_right}
use native.Mathlib.Omega.{arith}
use Rattle.exact.specs.Near.{Off}

-- ---- the product t of y and p. y stands for x x / q and is off by d, p for q l / w and is off by e, and the rounding is off by i.
-- y's error makes g of the product's, and p's makes f of it
module _ (q x y p l w t d e m i g f : ℕ) (Y : Off y (x * x) q d) (P : Off p (q * l) w e) (R : Off t (y * p) q i)
    (p-le : p ≤ m) (g-le : d * m ≤ g * q) (f-le : x * x * e ≤ f * (q * q)) where
  from-y : q * d * (p * w) ≤ g * (q * q * w)
  from-y =
      let a : d * p * (q * w) ≤ d * m * (q * w) = mul-le-mul_right (q * w) (mul-le-mul_left d p-le) in
      let b : d * m * (q * w) ≤ g * q * (q * w) = mul-le-mul_right (q * w) g-le in
      omega arith

  from-p : x * x * (w * e) ≤ f * (q * q * w)
  from-p =
      let a : x * x * e * w ≤ f * (q * q) * w = mul-le-mul_right w f-le in
      omega arith

  pub product : Off t (x * x * (q * l)) (q * q * w) (i + g + f)
  product =
      record {
        over =
            let a : t * q * (q * w) ≤ (y * p + q * i) * (q * w) = mul-le-mul_right (q * w) R.over in
            let b : y * q * (p * w) ≤ (x * x + q * d) * (p * w) = mul-le-mul_right (p * w) Y.over in
            let c : x * x * (p * w) ≤ x * x * (q * l + w * e) = mul-le-mul_left (x * x) P.over in
            omega (arith, from-y, from-p);
        under =
            let a : y * p * (q * w) ≤ (t * q + q * i) * (q * w) = mul-le-mul_right (q * w) R.under in
            let b : x * x * (p * w) ≤ (y * q + q * d) * (p * w) = mul-le-mul_right (p * w) Y.under in
            let c : x * x * (q * l) ≤ x * x * (p * w + w * e) = mul-le-mul_left (x * x) P.under in
            omega (arith, from-y, from-p);
      }

-- ---- the difference v of c and t. c stands for q / n and is off by a, t for q m / (n k) and is off by e, and the rounding is off by j;
-- l is k less m
pub difference : (q c t v l m n k a e j : ℕ) → Off c q n a → Off t (q * m) (n * k) e → v + t ≤ c + j → c ≤ v + t + j → l + m ≡ k
    → Off v (q * l) (n * k) (e + j + a)
difference q c t v l m n k a e j C T o u s =
    let f : q * (l + m) ≡ q * k = ap (λ (z : ℕ). q * z) s in
    record {
      over =
          let b : (v + t) * (n * k) ≤ (c + j) * (n * k) = mul-le-mul_right (n * k) o in
          let d : c * n * k ≤ (q + n * a) * k = mul-le-mul_right k C.over in
          omega (arith, T.under);
      under =
          let b : c * (n * k) ≤ (v + t + j) * (n * k) = mul-le-mul_right (n * k) u in
          let d : q * k ≤ (c * n + n * a) * k = mul-le-mul_right k C.under in
          omega (arith, T.over);
    }
