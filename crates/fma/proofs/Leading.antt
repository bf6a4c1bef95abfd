-- A number shifted left by the count of its leading zeros. Assumes nothing.
use Rattle.std.proofs.Common.{◌≡◌, ℕ, suc, ◌+◌, ◌-◌, ◌*◌, ◌^◌, ◌<◌, ◌≤◌, subst, le_trans, le_of_eq, lt_of_le_of_lt, mul-le-mul_right, lt_of_not-le, not-le_of_lt, arith, lit<, pow_mono, pow-add, shl_lt, w64, Fits}
use lib.Count.{count_leading_zeros, leading_top, leading_le}
use mir.Facts.{Fits-of_lt}

pub zeros-fit : (a : ℕ) → Fits w64 (count_leading_zeros 64 a)
zeros-fit a = Fits-of_lt (lt_of_le_of_lt (leading_le 64 a) (lit< tt))

-- a has z leading zeros in 64 bits
pub record Leading (a z : ℕ) : Type 0 where
  pub less : z < 64
  pub low : 2 ^ (63 - z) ≤ a
  pub high : a < 2 ^ (64 - z)

pub leading : (a : ℕ) → 0 < a → a < 2 ^ 64 → Leading a (count_leading_zeros 64 a)
leading a h l = let t = leading_top 64 a h l in by t.0 (count_leading_zeros 64 a) t.1 t.2 t.3
  where
    under : (k z : ℕ) → z + suc k ≡ 64 → z < 64
    under k z e = omega arith

    first : (k z : ℕ) → z + suc k ≡ 64 → k ≡ 63 - z
    first k z e = omega arith

    next : (k z : ℕ) → z + suc k ≡ 64 → suc k ≡ 64 - z
    next k z e = omega arith

    by : (k z : ℕ) → z + suc k ≡ 64 → 2 ^ k ≤ a → a < 2 ^ suc k → Leading a z
    by k z e lo hi = record { less = under k z e; low = subst (λ (x : ℕ). 2 ^ x ≤ a) (first k z e) lo; high = subst (λ (x : ℕ). a < 2 ^ x) (next k z e) hi }

-- shifted by j of its z zeros it has 64 - (z - j) bits
pub shifted-low : (a z j p : ℕ) → Leading a z → 63 - z + j ≡ p → 2 ^ p ≤ a * 2 ^ j
shifted-low a z j p t e = subst (λ (x : ℕ). 2 ^ x ≤ a * 2 ^ j) e (le_trans (le_of_eq (pow-add 2 (63 - z) j)) (mul-le-mul_right (2 ^ j) t.low))

pub shifted-high : (a z j p : ℕ) → Leading a z → 64 - z + j ≡ p → a * 2 ^ j < 2 ^ p
shifted-high a z j p t e = subst (λ (x : ℕ). a * 2 ^ j < 2 ^ x) e (shl_lt {a = a} (64 - z) j t.high)

-- a number below 2 ^ b has 64 - b zeros at least
pub zeros-ge : (a z b : ℕ) → Leading a z → a < 2 ^ b → 64 - b ≤ z
zeros-ge a z b t h = most z b t.less (lt_of_not-le (λ (g : b ≤ 63 - z). not-le_of_lt h (le_trans (pow_mono g) t.low)))
  where
    most : (z b : ℕ) → z < 64 → 63 - z < b → 64 - b ≤ z
    most z b l h = omega arith
