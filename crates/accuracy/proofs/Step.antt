-- The square of the error of one complex product, from the errors of its parts: at most 36 / 2 ^ 106 of the product of the factors' squares, and a
-- little for what is too small to be a normal double. Assumes nothing.
use mathlib.Core.Path.{◌≡◌, sym}
use Prim.Native.Nat.{ℕ, ◌+◌, ◌*◌, ◌^◌, ◌≤◌}
use native.Mathlib.Nat.{le_trans, le_of_eq, mul-mul-mul_comm, mul-le-mul, one-mul}
use native.Mathlib.Omega.{arith}
use Rattle.accuracy.proofs.Young.{young}

two-squares : (x y : ℕ) → (x + y) * (x + y) ≤ 2 * (x * x) + 2 * (y * y)
two-squares x y = le_trans (le_of_eq (sym (one-mul ((x + y) * (x + y))))) (young 1 x y)

-- one part, off by (3 k + t) / 2 ^ 53
part : (m k t : ℕ) → m * 2 ^ 53 ≤ 3 * k + t → m * m * 2 ^ 106 ≤ 18 * (k * k) + 2 * (t * t)
part m k t h =
    let square : 3 * k * (3 * k) ≡ 9 * (k * k) = mul-mul-mul_comm 3 k 3 k in
    nine (m * m) (3 * k * (3 * k)) (k * k) (t * t) square
    (le_trans (le_of_eq (sym (mul-mul-mul_comm m (2 ^ 53) m (2 ^ 53)))) (le_trans (mul-le-mul h h) (two-squares (3 * k) t)))
  where
    nine : (a b k t : ℕ) → b ≡ 9 * k → a * 2 ^ 106 ≤ 2 * b + 2 * t → a * 2 ^ 106 ≤ 18 * k + 2 * t
    nine a b k t e h = omega arith

cross : (a b c d : ℕ) → (a * c + b * d) * (a * c + b * d) + (a * d + b * c) * (a * d + b * c) ≤ 2 * ((a * a + b * b) * (c * c + d * d))
cross a b c d =
    let h = two-squares (a * c) (b * d) in
    let k = two-squares (a * d) (b * c) in
    omega arith

pub step-square : (m n a b c d u : ℕ) → m * 2 ^ 53 ≤ 3 * (a * c + b * d) + u * 2 ^ 54 → n * 2 ^ 53 ≤ 3 * (a * d + b * c) + u * 2 ^ 54
    → (m * m + n * n) * 2 ^ 106 ≤ 36 * ((a * a + b * b) * (c * c + d * d)) + 4 * (u * 2 ^ 54 * (u * 2 ^ 54))
step-square m n a b c d u h k =
    let t = u * 2 ^ 54 in
    both (m * m) (n * n) ((a * c + b * d) * (a * c + b * d)) ((a * d + b * c) * (a * d + b * c)) (t * t) ((a * a + b * b) * (c * c + d * d))
    (part m (a * c + b * d) t h) (part n (a * d + b * c) t k) (cross a b c d)
  where
    both : (x y p q t r : ℕ) → x * 2 ^ 106 ≤ 18 * p + 2 * t → y * 2 ^ 106 ≤ 18 * q + 2 * t → p + q ≤ 2 * r → (x + y) * 2 ^ 106 ≤ 36 * r + 4 * t
    both x y p q t r h k l = omega arith
