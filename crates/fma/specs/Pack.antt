-- The steps from a number with a sticky last bit to the nearest double. Definitions only.
use Rattle.std.specs.Prelude.{◌≡◌, ℕ, ◌+◌, ◌*◌, ◌/◌, ◌%◌, ◌^◌, ◌<◌, ◌≤◌, Bool, cond, from_bits}
use Rattle.std.specs.Float.{binary64}
use Rattle.std.specs.Float.Ieee.{units}
use Rattle.std.specs.Float.Ieee.Nearest.{closest}
use Rattle.fma.specs.Sticky.{Sticky, Whole}

-- m * 2 ^ e has its top bit set and stands for what n * 2 ^ x stands for
pub record Normal (m e n x : ℕ) : Type 0 where
  pub top : 2 ^ 63 ≤ m
  pub near : e ≤ x + 64
  pub stands : (s : ℕ) → Whole n x s → Sticky m e s

-- m quarters, to the nearest whole number, a tie to the even one
abbrev pub quarter : ℕ → ℕ
quarter m = (m + 1 + m / 4 % 2) / 4

-- r is the whole number nearest to what n stands for, by 2 ^ s
pub record Nearest (r n s : ℕ) : Type 0 where
  pub small : r ≤ 2 ^ 53
  pub is : (j t : ℕ) → Sticky n j t → r ≡ closest t (2 ^ (s + j))

-- q has the digits that a double keeps where k were dropped
pub record Kept (q k : ℕ) : Type 0 where
  pub small : q ≤ 2 ^ 53
  pub full : 0 < k → 2 ^ 52 ≤ q

-- r is the bit pattern of q * 2 ^ k smallest doubles, for either sign
pub record Pattern (r q k : ℕ) : Type 0 where
  pub below : r ≤ 2047 * 2 ^ 52
  pub reads : (s : Bool) → from_bits binary64 (cond s (2 ^ 63) 0 + r) ≡ units binary64 s q k
