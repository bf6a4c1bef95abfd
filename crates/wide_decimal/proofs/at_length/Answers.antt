-- `wide_decimal::at_length` meets its contract: with all digits the outcome is the double, or the number is too large. Assumes nothing.
use Prim.Native.Nat.{ℕ}
use mathlib.Core.Path.{◌≡◌, refl, ◌∙◌}
use mathlib.Core.Bool.{Bool}
use mathlib.Core.List.{List}
use native.Mathlib.Omega.{arith}
use lib.Ieee.{Float, inf}
use Rattle.std.specs.Prelude.{Result, Ok, Err}
use Rattle.std.specs.Result.{result_unwrap_or}
use Rattle.wide_decimal.specs.declared.Short.{Short}
use Rattle.wide_decimal.specs.declared.Short.TheVariants.{Spilled, Thin}
use Rattle.wide_decimal.specs.Figures.{without}
use Rattle.wide_decimal.specs.Limbs.{value}
use Rattle.wide_decimal.specs.Placed.{nearest_of}
use Rattle.wide_decimal.specs.Told.{Outcome}
use Rattle.wide_decimal.proofs.Placing.{too_large}
use Rattle.wide_decimal.proofs.at_length.Goals as goal

pub within-requires : goal.within-requires
unfolding value
within-requires c = record { none = refl; nothing = refl; above = omega arith; some = omega arith; below = omega arith }

-- what came out, by its case
outcome : (minus : Bool) (figures : List ℕ) (whole gap : ℕ) (r : Result Float Short) → Outcome minus figures whole gap 33 34 r → result_unwrap_or r (inf minus) ≡ nearest_of minus figures whole gap
outcome minus figures whole gap (Ok x) o = o
outcome minus figures whole gap (Err Spilled) o = too_large minus figures whole gap o
outcome minus figures whole gap (Err Thin) o = absurd (omega (arith, o))

pub returns : goal.returns
returns c =
    let a = c.args in
    c.unwrap_or.ensures ∙ rw c.infinite.ensures (outcome a.minus (without a.point a.text.now) a.whole a.zeros c.within.result c.within.ensures)
