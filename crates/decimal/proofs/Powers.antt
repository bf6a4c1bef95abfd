-- Whole numbers below 10 ^ 15 and the powers of ten up to 10 ^ 22 are doubles; a product or a quotient of two of them is the exact one
-- rounded once. Assumes nothing.
use Prim.Native.Nat.{ℕ, zero, suc, ◌+◌, ◌*◌, ◌^◌, ◌≤◌, ◌<◌}
use mathlib.Core.Path.{◌≡◌, refl, sym, ap, ◌∙◌}
use mathlib.Core.Bool.{Bool, false}
use native.Mathlib.Omega.{arith}
use native.Mathlib.Nat.{lt_of_lt_of_le, lt_of_le_of_lt, mul_assoc, mul_comm, mul-one, mul-mul-mul_comm}
use native.Mathlib.Nat.{one-mul, one-le-pow, pow-le-pow_right, pow-succ'}
use lib.Dec.{lit<, lit≤}
use lib.Pow.{pow-add, pow_mono, shl_lt}
use lib.Ieee.{Float, binary64, round, mul, div, of_bits}
use lib.Ieee.Exact.{HasValue, round_exact}
use Rattle.exact.proofs.Operation.{mul-rounds, div-rounds}
use Rattle.exact.proofs.Truth.{like-false}

-- a whole number below 2 ^ 53, times a power of two
shifted-exact : (s : Bool) (n q j : ℕ) → q < 2 ^ 53 → j ≤ 22 → n ≡ q * 2 ^ j → HasValue (round binary64 s n 1) s n 1
shifted-exact s n q j h k e =
    let all : n * 2 ^ 1074 ≡ q * 2 ^ (j + 1074) * 1 = rw (e, pow-add 2 j 1074) (mul_assoc q (2 ^ j) (2 ^ 1074) ∙ sym (mul-one (q * (2 ^ j * 2 ^ 1074)))) in
    let most : 53 + (j + 1074) ≤ 2098 = omega arith in
    round_exact binary64 s n 1 q (j + 1074) (lit< tt) h (lt_of_lt_of_le (shl_lt 53 (j + 1074) h) (pow_mono most)) all

pub whole-exact : (s : Bool) (n : ℕ) → n < 10 ^ 15 → HasValue (round binary64 s n 1) s n 1
whole-exact s n h = shifted-exact s n n 0 (lt_of_lt_of_le h (lit≤ tt)) (lit≤ tt) (sym (mul-one n))

ten_split : (k : ℕ) → 10 ^ k ≡ 5 ^ k * 2 ^ k
ten_split zero = refl
ten_split (suc k) = rw (pow-succ' 10 k, pow-succ' 5 k, pow-succ' 2 k, ten_split k) (mul-mul-mul_comm 5 2 (5 ^ k) (2 ^ k))

pub power-exact : (k : ℕ) → k ≤ 22 → HasValue (round binary64 false (10 ^ k) 1) false (10 ^ k) 1
power-exact k h =
    let few : 5 ^ k ≤ 5 ^ 22 = pow-le-pow_right (lit< tt) {j = 22} h in
    shifted-exact false (10 ^ k) (5 ^ k) k (lt_of_le_of_lt few (lit< tt)) h (ten_split k)

-- the code's 1.0 and 10.0
pub one_value : HasValue (of_bits binary64 0x3ff0000000000000) false 1 1
unfolding of_bits
one_value = (refl, refl)

pub ten_value : HasValue (of_bits binary64 0x4024000000000000) false 10 1
unfolding of_bits
ten_value = (refl, refl)

pub power-next : (p : Float) (i : ℕ) → i < 22 → HasValue p false (10 ^ i) 1 → HasValue (mul binary64 p (of_bits binary64 0x4024000000000000)) false (10 ^ suc i) 1
power-next p i h v =
    let product : mul binary64 p (of_bits binary64 0x4024000000000000) ≡ round binary64 false (10 ^ i * 10) 1 =
    mul-rounds binary64 p (of_bits binary64 0x4024000000000000) false false (10 ^ i) 1 10 1 (lit< tt) (lit< tt) v ten_value in
    rw (product, mul_comm (10 ^ i) 10, ← pow-succ' 10 i) (power-exact (suc i) h)

-- THE ROUNDING. Of a whole number that is a double, one product with a power of ten that is one, or one quotient by it, is the exact value rounded once.
module _ (s : Bool) (n k : ℕ) (x p : Float) (X : HasValue x s n 1) (P : HasValue p false (10 ^ k) 1) where
  pub product-once : mul binary64 x p ≡ round binary64 s (n * 10 ^ k) 1
  product-once = mul-rounds binary64 x p s false n 1 (10 ^ k) 1 (lit< tt) (lit< tt) X P ∙ ap (λ (t : Bool). round binary64 t (n * 10 ^ k) 1) (like-false s)

  pub quotient-once : div binary64 x p ≡ round binary64 s n (10 ^ k)
  quotient-once =
      div-rounds binary64 x p s false n 1 (10 ^ k) 1 (one-le-pow k 10 (lit< tt)) (lit< tt) (lit< tt) X P
      ∙ rw (like-false s, mul-one n, one-mul (10 ^ k))
