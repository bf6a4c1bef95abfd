-- (1 + 1 / n) ^ k stays near 1 while k is far below n: its product with 1 - k / n is at most 1. With n = 2 ^ 44 and k up to 2 ^ 16, (1 + 2 ^ -44) ^ k is
-- at most 1 / (1 - 2 ^ -28). Assumes nothing.
use mathlib.Core.Path.{◌≡◌, refl, sym, ap, ◌∙◌}
use Prim.Native.Nat.{ℕ, zero, suc, ◌+◌, ◌-◌, ◌*◌, ◌^◌, ◌≤◌, ◌<◌, zero-le}
use native.Mathlib.Nat.{le_trans, le_of_eq, mul_assoc, mul_comm, mul_right_comm, mul-mul-mul_comm, mul-le-mul_left, mul-le-mul_right, mul-zero, mul-pos, sub-zero, pow-suc, pow-zero}
use native.Mathlib.Omega.{arith}

pub growth : (n k : ℕ) → (n + 1) ^ k * (n - k) ≤ n ^ k * n
growth n zero = le_of_eq ((λ i. pow-zero (n + 1) i * sub-zero n i) ∙ sym (ap (λ (z : ℕ). z * n) (pow-zero n)))
growth n (suc k) =
    le_trans (le_of_eq (ap (λ (z : ℕ). z * (n - suc k)) (pow-suc (n + 1) k) ∙ mul_assoc ((n + 1) ^ k) (n + 1) (n - suc k)))
    (le_trans (mul-le-mul_left ((n + 1) ^ k) (shrink (n - suc k) n k refl))
    (le_trans (le_of_eq (sym (mul_assoc ((n + 1) ^ k) (n - k) n))) (le_trans (mul-le-mul_right n (growth n k)) (le_of_eq (ap (λ (z : ℕ). z * n) (sym (pow-suc n k)))))))
  where
    -- (n + 1) (n - k - 1) ≤ (n - k) n
    shrink : (x n k : ℕ) → x ≡ n - suc k → (n + 1) * x ≤ (n - k) * n
    shrink zero n k e = le_trans (le_of_eq (mul-zero (n + 1))) zero-le
    shrink (suc x) n k e =
        let f : n - k ≡ suc (suc x) = omega arith in
        le_trans (less x n (omega arith)) (le_of_eq (sym (ap (λ (z : ℕ). z * n) f)))
      where
        less : (x n : ℕ) → suc x ≤ n → (n + 1) * suc x ≤ suc (suc x) * n
        less x n h = omega arith

-- ---- the same of (n + 1) t against n t
split : (a b k : ℕ) → (a * b) ^ k ≡ a ^ k * b ^ k
split a b zero = pow-zero (a * b) ∙ sym (λ i. pow-zero a i * pow-zero b i)
split a b (suc k) = pow-suc (a * b) k ∙ ap (λ (z : ℕ). z * (a * b)) (split a b k) ∙ mul-mul-mul_comm (a ^ k) (b ^ k) a b ∙ sym (λ i. pow-suc a k i * pow-suc b k i)

pub growth_times : (n t k : ℕ) → ((n + 1) * t) ^ k * (n - k) ≤ n * (n * t) ^ k
growth_times n t k =
    le_trans (le_of_eq (ap (λ (z : ℕ). z * (n - k)) (split (n + 1) t k) ∙ mul_right_comm ((n + 1) ^ k) (t ^ k) (n - k)))
    (le_trans (mul-le-mul_right (t ^ k) (growth n k)) (le_of_eq (mul_right_comm (n ^ k) n (t ^ k) ∙ ap (λ (z : ℕ). z * n) (sym (split n t k)) ∙ mul_comm ((n * t) ^ k) n)))

pub square-power : (a k : ℕ) → a ^ k * a ^ k ≡ (a * a) ^ k
square-power a k = sym (split a a k)

pub power-positive : (a k : ℕ) → 0 < a → 0 < a ^ k
power-positive a zero h = le_of_eq (sym (pow-zero a))
power-positive a (suc k) h = le_trans (mul-pos (power-positive a k h) h) (le_of_eq (sym (pow-suc a k)))
