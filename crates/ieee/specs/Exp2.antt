-- 2 to the power of a whole number n, rounded once to binary64 (IEEE 754-2019, 4.3.1). The fraction up n / down n is 2 ^ n.
use Rattle.std.specs.Prelude.{false, ℤ, pos, negsuc, ◌≤ℤ◌, Float}
use Rattle.std.specs.Float.{binary64}
use Rattle.std.specs.Float.Ieee.{up, down, round}

unfoldable pub exp2_of : ℤ → Float
exp2_of n = round binary64 false (up n) (down n)

-- where 2 ^ n is a value of binary64: from -1074 to 1023
pub record Exponent (n : ℤ) : Type 0 where
  pub low : negsuc 1073 ≤ℤ n
  pub high : n ≤ℤ pos 1023
