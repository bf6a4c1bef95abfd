-- The significand of a double that is finite and not zero: 63 bits, of which at least the last ten are zeros. Definitions only.
use Rattle.std.specs.Prelude.{◌≡◌, ℕ, ◌*◌, ◌%◌, ◌^◌, ◌<◌, ◌≤◌, from_bits, nat_le}
use Rattle.std.specs.Float.{binary64}
use Rattle.std.specs.Float.Ieee.Exact.{HasValue}

-- m * 2 ^ e is t * 2 ^ k * 2 ^ 62
pub record Shifted (m e t k : ℕ) : Type 0 where
  pub low : 2 ^ 62 ≤ m
  pub high : m < 2 ^ 63
  pub clear : m % 2 ^ 10 ≡ 0
  pub small : e < 2 ^ 12
  pub same : m * 2 ^ e ≡ t * 2 ^ k * 2 ^ 62

-- m * 2 ^ e / 2 ^ 1136 is the size of the double with the bits b
pub record Significand (m e b : ℕ) : Type 0 where
  pub low : 2 ^ 62 ≤ m
  pub high : m < 2 ^ 63
  pub clear : m % 2 ^ 10 ≡ 0
  pub small : e < 2 ^ 12
  pub value : HasValue (from_bits binary64 b) (nat_le (2 ^ 63) b) (m * 2 ^ e) (2 ^ 1136)
