-- What digits of a certain number tell of a decimal. Definitions only.
use Rattle.std.specs.Prelude.{Bool, List, ◌≡◌, ℕ, ◌*◌, ◌≤◌, ◌<◌, length, Float, Option, None, Some, Result, Ok, Err}
use Rattle.std.specs.Float.{binary64}
use Rattle.std.specs.Float.Ieee.{round}
use Rattle.wide_decimal.specs.Limbs.{value, weight}
use Rattle.wide_decimal.specs.Near.{Near}
use Rattle.wide_decimal.specs.Placed.{before, nearest_of}
use Rattle.wide_decimal.specs.declared.Short.{Short}
use Rattle.wide_decimal.specs.declared.Short.TheVariants.{Spilled, Thin}

-- s, in units of so many digits behind the point: the double of what it stands for; or the digits are fewer than 34
abbrev pub Told : Bool → ℕ → ℕ → Option Float → Type 0
Told minus s digits (Some r) = (x m : ℕ) → 0 < m → Near s m (x * weight digits) → r ≡ round binary64 minus x m
Told minus s digits None = digits < 34

-- digits that are all 0, and not more than are ever needed
pub record Room (high low : List ℕ) : Type 0 where
  pub none : value high ≡ 0
  pub nothing : value low ≡ 0
  pub above : length high ≤ 33
  pub some : 0 < length low
  pub below : length low ≤ 34

-- the double; or what stands before the point does not fit; or the digits behind it are fewer than 34
abbrev pub Outcome : Bool → List ℕ → ℕ → ℕ → ℕ → ℕ → Result Float Short → Type 0
Outcome minus figures whole zeros above below (Ok r) = r ≡ nearest_of minus figures whole zeros
Outcome minus figures whole _ above below (Err Spilled) = weight above ≤ before figures whole
Outcome minus figures whole _ above below (Err Thin) = below < 34
