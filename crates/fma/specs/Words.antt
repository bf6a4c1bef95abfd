-- A number of two 64-bit words. Definitions only.
use Rattle.std.specs.Prelude.{ℕ, ◌+◌, ◌*◌, ◌^◌}

-- the upper word h and the lower word l
abbrev pub words : ℕ → ℕ → ℕ
words h l = h * 2 ^ 64 + l
