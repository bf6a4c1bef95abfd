-- Which digits of a bit pattern of binary64 are a fraction's: where the exponent's field is from 1023, that of 1, up to 1074, the last 1075 less the field.
use Rattle.std.specs.Prelude.{◌≡◌, ℕ, ◌+◌, ◌/◌, ◌%◌, ◌^◌, ◌<◌, ◌≤◌}

-- the last `drop` digits of the pattern `bits`
pub record Fraction (bits drop : ℕ) : Type 0 where
  pub field : bits % 2 ^ 63 / 2 ^ 52 + drop ≡ 1075
  pub some : 0 < drop
  pub few : drop ≤ 52
