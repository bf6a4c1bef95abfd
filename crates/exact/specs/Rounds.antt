-- A whole number of units rounded to 53 binary digits, a tie to the even one, with no bound on its size; and the same of a signed one. Definitions only.
use Rattle.std.specs.Prelude.{Bool, ℕ, ◌-◌, ◌*◌, ◌^◌}
use Rattle.std.specs.Float.Ieee.{size}
use Rattle.std.specs.Float.Ieee.Nearest.{closest}
use Rattle.exact.specs.Signed.{Signed, Same, signed}

unfoldable pub rnd : ℕ → ℕ
unfolding size
rnd n = closest n (2 ^ (size n - 53)) * 2 ^ (size n - 53)

-- y is x, rounded
pub record Rounds (x y : Signed) : Type 0 where
  pub sign : Bool
  pub size : ℕ
  pub from : Same x (signed sign size)
  pub to : Same y (signed sign (rnd size))
