-- A number of many digits of 32 bits. Definitions only.
use Rattle.std.specs.Prelude.{Bool, true, false, ◌≡◌, List, [], ◌∷◌, ℕ, ◌+◌, ◌*◌, ◌^◌, ◌≤◌}

-- what the n-th digit, from 0, is a multiple of
abbrev pub weight : ℕ → ℕ
weight n = (2 ^ 32) ^ n

-- the lowest digit first
unfoldable pub value : List ℕ → ℕ
value [] = 0
value (x ∷ xs) = value xs * 2 ^ 32 + x

-- whether x fits below w: then v is x
pub record Held (fits : Bool) (v x w : ℕ) : Type 0 where
  pub is : fits ≡ true → v ≡ x
  pub over : fits ≡ false → w ≤ x
