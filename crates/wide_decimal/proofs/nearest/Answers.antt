-- `wide_decimal::nearest` meets its contract: few digits, if they tell, and else all. Assumes nothing.
use mathlib.Core.Path.{refl}
use native.Mathlib.Omega.{arith}
use Rattle.wide_decimal.specs.Limbs.{value}
use Rattle.wide_decimal.proofs.nearest.Goals as goal

pub within-requires : goal.within-requires
unfolding value
within-requires c = record { none = refl; nothing = refl; above = omega arith; some = omega arith; below = omega arith }
