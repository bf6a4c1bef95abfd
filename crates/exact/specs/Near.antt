-- How far a rounding may move a number, in whole numbers. Definitions only.
use Rattle.std.specs.Prelude.{ℕ, ◌+◌, ◌*◌, ◌^◌, ◌≤◌, max}

-- the whole number q is within a half of a / b
pub record Half (q a b : ℕ) : Type 0 where
  pub over : q * b * 2 ≤ a * 2 + b
  pub under : a * 2 ≤ q * b * 2 + b

-- v is within e of n / c
pub record Off (v n c e : ℕ) : Type 0 where
  pub over : v * c ≤ n + c * e
  pub under : n ≤ v * c + c * e

-- v is within a part in 2 ^ 53 of n / c, or within a half, whichever is more: half a unit in the last place, of a normal result or of a smaller one
pub record Within (v n c : ℕ) : Type 0 where
  pub over : v * c * 2 ^ 53 ≤ n * 2 ^ 53 + max n (c * 2 ^ 52)
  pub under : n * 2 ^ 53 ≤ v * c * 2 ^ 53 + max n (c * 2 ^ 52)

-- v is within a part in 2 ^ 53 of n
pub record Part (v n : ℕ) : Type 0 where
  pub over : v * 2 ^ 53 ≤ n * 2 ^ 53 + n
  pub under : n * 2 ^ 53 ≤ v * 2 ^ 53 + n
