-- What the two terms of a fused sum bring: x of two words at the exponent e, and y of two words at the exponent e - d. Definitions only.
use Rattle.std.specs.Prelude.{◌≡◌, ℕ, ◌%◌, ◌^◌, ◌<◌, ◌≤◌}

-- Both have 125 to 127 bits. The last bit of x is 0, and so are the last twenty of y, so that a y that was shifted by no more has lost nothing.
pub record Aligned (xh xl e yh yl d : ℕ) : Type 0 where
  pub x-low : 2 ^ 60 ≤ xh
  pub x-high : xh < 2 ^ 63
  pub x-even : xl % 2 ≡ 0
  pub y-low : 2 ^ 60 ≤ yh
  pub y-high : yh < 2 ^ 63
  pub y-clear : yl % 2 ^ 20 ≡ 0
  pub e-low : 64 ≤ e
  pub e-high : e < 2 ^ 32
  pub within : d ≤ e
