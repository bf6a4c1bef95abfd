-- Powers of ten and of 2 ^ 32: how large they are, and that they are even. Assumes nothing.
use mathlib.Core.Path.{◌≡◌, sym, ap, ◌∙◌}
use Prim.Native.Nat.{ℕ, zero, suc, ◌*◌, ◌/◌, ◌%◌, ◌^◌, ◌≤◌, ◌<◌}
use native.Mathlib.Nat.{mul_assoc, mul-mod_left, one-le-pow, pow-suc, pow-le-pow_right}
use native.Mathlib.Omega.{arith}
use lib.Dec.{lit<}
use Rattle.wide_decimal.specs.Limbs.{weight}

pub ten_pos : (n : ℕ) → 0 < 10 ^ n
ten_pos n = one-le-pow n 10 (lit< tt)

pub ten_more : (i j : ℕ) → i ≤ j → 10 ^ i ≤ 10 ^ j
ten_more i j h = pow-le-pow_right (lit< tt) {j = j} h

-- nine figures fit one digit
pub ten_small : (n : ℕ) → n ≤ 9 → 10 ^ n < 2 ^ 32
ten_small n h = omega (arith, ten_more n 9 h)

pub weight-more : (i j : ℕ) → i ≤ j → weight i ≤ weight j
weight-more i j h = pow-le-pow_right (lit< tt) {j = j} h

pub even-times : (a b : ℕ) → b % 2 ≡ 0 → a * b % 2 ≡ 0
even-times a b e =
    let half : b ≡ b / 2 * 2 = omega arith in
    ap (λ (x : ℕ). a * x % 2) half ∙ ap (λ (x : ℕ). x % 2) (sym (mul_assoc a (b / 2) 2)) ∙ mul-mod_left (a * (b / 2)) 2

pub ten_even : (n : ℕ) → 0 < n → 10 ^ n % 2 ≡ 0
ten_even zero h = absurd (omega (arith, h))
ten_even (suc n) h = rw (pow-suc 10 n) (even-times (10 ^ n) 10 (lit-even))
  where
    lit-even : 10 % 2 ≡ 0
    lit-even = omega arith

pub weight-even : (n : ℕ) → 0 < n → weight n % 2 ≡ 0
weight-even zero h = absurd (omega (arith, h))
weight-even (suc n) h = rw (pow-suc (2 ^ 32) n) (even-times (weight n) (2 ^ 32) (lit-even))
  where
    lit-even : 2 ^ 32 % 2 ≡ 0
    lit-even = omega arith
