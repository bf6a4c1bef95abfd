-- The size of a sum with no square root: j |x + y|² is at most (j + 1) |x|² + j (j + 1) |y|². So an error whose square is at most j² B, and one more
-- whose square is at most B, make one whose square is at most (j + 1)² B. Assumes nothing.
use mathlib.Core.Path.{◌≡◌}
use Prim.Native.Nat.{ℕ, suc, ◌+◌, ◌*◌, ◌≤◌}
use native.Mathlib.Nat.{le_trans, le_of_eq, add-le-add, mul-le-mul, mul-le-mul_left, le_of_mul-le-mul_left, zero-lt-suc}
use native.Mathlib.Omega.{arith}
use Rattle.exact.specs.Signed.{Signed, plus_s, dist, mag}
use Rattle.exact.proofs.Sizes.{mag-add}
use Rattle.accuracy.proofs.Sizes.{sq}
use Rattle.accuracy.proofs.Squares.{dist-square}

pub two_products : (x y : ℕ) → 2 * (x * y) ≤ x * x + y * y
two_products x y = by (dist x y * dist x y) (x * y) (x * x + y * y) (dist-square x y)
  where
    by : (d m s : ℕ) → d + 2 * m ≡ s → 2 * m ≤ s
    by d m s e = omega arith

pub young : (j x y : ℕ) → j * ((x + y) * (x + y)) ≤ suc j * (x * x) + j * suc j * (y * y)
young j x y = let h = two_products x (j * y) in omega arith

-- one part: x with one more error u
one-part : (j : ℕ) (x u : Signed) → j * sq (plus_s x u) ≤ suc j * sq x + j * suc j * sq u
one-part j x u = le_trans (mul-le-mul_left j (mul-le-mul (mag-add x u) (mag-add x u))) (young j (mag x) (mag u))

pub grow : (i B : ℕ) (x y u v : Signed) → sq x + sq y ≤ suc i * suc i * B → sq u + sq v ≤ B → sq (plus_s x u) + sq (plus_s y v) ≤ suc (suc i) * suc (suc i) * B
grow i B x y u v h k =
    let j = suc i in
    le_of_mul-le-mul_left {m = sq (plus_s x u) + sq (plus_s y v)} {n = suc j * suc j * B} {k = j}
    (le_trans (both j (sq (plus_s x u)) (sq (plus_s y v)) (sq x) (sq y) (sq u) (sq v) (one-part j x u) (one-part j y v))
    (le_trans (add-le-add (mul-le-mul_left (suc j) h) (mul-le-mul_left (j * suc j) k)) (le_of_eq (total j B))))
    (zero-lt-suc i)
  where
    both : (j p q x y u v : ℕ) → j * p ≤ suc j * x + j * suc j * u → j * q ≤ suc j * y + j * suc j * v → j * (p + q) ≤ suc j * (x + y) + j * suc j * (u + v)
    both j p q x y u v h k = omega arith

    total : (j B : ℕ) → suc j * (j * j * B) + j * suc j * B ≡ j * (suc j * suc j * B)
    total j B = omega arith
