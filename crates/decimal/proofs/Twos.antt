-- A word times a power of two, rounded once: beyond 2 ^ 4000 it is infinite or nothing, and below 2 ^ -2208 nothing. Assumes nothing.
use Prim.Native.Nat.{ℕ, zero, suc, ◌+◌, ◌-◌, ◌*◌, ◌^◌, ◌≤◌, ◌<◌, min}
use mathlib.Core.Path.{◌≡◌, sym, ap, ◌∙◌}
use mathlib.Core.Bool.{Bool}
use mathlib.Core.Logic.{inl, inr}
use native.Mathlib.Nat.{le_trans, le_of_eq, lt_of_lt_of_le, mul_assoc, mul-one, one-mul, zero-mul, mul-le-mul_right, mul-lt-mul_of_pos_right}
use native.Mathlib.Omega.{arith}
use lib.Dec.{lit<}
use lib.Pow.{pow-add, pow_pos, pow_mono}
use lib.Ieee.{inf, binary64, round}
use lib.Ieee.Scale.{round_same}
use Rattle.exact.proofs.Naturals.{below_or}
use Rattle.fma.specs.Words.{words}
use Rattle.fma.specs.Sticky.{Whole}
use Rattle.wide_decimal.proofs.Edges.{round-over, round-nothing, round_under}

-- one word stands for itself
pub alone : (n x : ℕ) → Whole (words 0 n) x (n * 2 ^ x)
alone n x = record { sticky = inl (same n (2 ^ x)); clean = λ h. same n (2 ^ x) }
  where
    same : (n p : ℕ) → (0 * 2 ^ 64 + n) * p ≡ n * p
    same n p = omega arith

large : (s : Bool) (n x b : ℕ) → 0 < n → 1024 + b ≤ x → round binary64 s (n * 2 ^ x) (2 ^ b) ≡ inf s
large s n x b p h =
    round-over s (n * 2 ^ x) (2 ^ b) (pow_pos b)
    (le_trans (le_of_eq (sym (pow-add 2 1024 b))) (le_trans (pow_mono h) (le_trans (le_of_eq (sym (one-mul (2 ^ x)))) (mul-le-mul_right (2 ^ x) p))))

nothing : (s : Bool) (x b : ℕ) → round binary64 s (0 * 2 ^ x) (2 ^ b) ≡ round binary64 s 0 1
nothing s x b = ap (λ (z : ℕ). round binary64 s z (2 ^ b)) (zero-mul (2 ^ x)) ∙ round-nothing s (2 ^ b) (pow_pos b)

pub twos_up : (s : Bool) (n k : ℕ) → round binary64 s (n * 2 ^ (2208 + min k 4000)) (2 ^ 2208) ≡ round binary64 s (n * 2 ^ k) 1
twos_up s n k = elim (below_or 4000 k) [
  | inr h ↦ (
      let same : min k 4000 ≡ k = omega arith in
      rw same (round_same binary64 s (n * 2 ^ (2208 + k)) (2 ^ 2208) (n * 2 ^ k) 1 (pow_pos 2208) (lit< tt) (rw (pow-add 2 2208 k) (regroup n (2 ^ 2208) (2 ^ k))))
      )
  | inl h ↦ (let same : min k 4000 ≡ 4000 = omega arith in rw same (far h n))
]
  where
    regroup : (n p q : ℕ) → n * (p * q) * 1 ≡ n * q * p
    regroup n p q = omega arith

    more : 1024 + 2208 ≤ 2208 + 4000
    more = omega arith

    far : 4000 < k → (n : ℕ) → round binary64 s (n * 2 ^ (2208 + 4000)) (2 ^ 2208) ≡ round binary64 s (n * 2 ^ k) 1
    far h zero = nothing s (2208 + 4000) 2208 ∙ sym (nothing s k 0)
    far h (suc n) = large s (suc n) (2208 + 4000) 2208 (omega arith) more ∙ sym (large s (suc n) k 0 (omega arith) (omega arith))

small : (n k : ℕ) → n < 2 ^ 64 → 64 + 1088 ≤ k → n * 2 ^ 1088 < 2 ^ k
small n k h l = lt_of_lt_of_le (mul-lt-mul_of_pos_right h (pow_pos 1088)) (le_trans (le_of_eq (sym (pow-add 2 64 1088))) (pow_mono l))

pub twos-down : (s : Bool) (n k : ℕ) → n < 2 ^ 64 → round binary64 s (n * 2 ^ (2208 - min k 2208)) (2 ^ 2208) ≡ round binary64 s n (2 ^ k)
twos-down s n k w = elim (below_or 2208 k) [
  | inr h ↦ (
      let same : min k 2208 ≡ k = omega arith in
      let sum : 2208 - k + k ≡ 2208 = omega arith in
      rw same (round_same binary64 s (n * 2 ^ (2208 - k)) (2 ^ 2208) n (2 ^ k) (pow_pos 2208) (pow_pos k) (mul_assoc n (2 ^ (2208 - k)) (2 ^ k) ∙ ap (λ (z : ℕ). n * z) (sym (pow-add 2 (2208 - k) k) ∙ ap (λ (z : ℕ). 2 ^ z) sum)))
      )
  | inl h ↦ (
      let none : 2208 - min k 2208 ≡ 0 = omega arith in
      let last : 64 + 1088 ≤ 2208 = omega arith in
      let here : 64 + 1088 ≤ k = omega arith in
      rw none (ap (λ (z : ℕ). round binary64 s z (2 ^ 2208)) (mul-one n) ∙ round_under s n (2 ^ 2208) (small n 2208 w last) ∙ sym (round_under s n (2 ^ k) (small n k w here)))
      )
]
