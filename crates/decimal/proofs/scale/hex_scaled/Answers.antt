-- `decimal::scale::hex_scaled` meets its contract: by what the digits were read as. Assumes nothing.
use mathlib.Core.Path.{sym, ◌∙◌}
use native.Mathlib.Omega.{arith}
use lib.Dec.{lit≤}
use Rattle.decimal.proofs.Reading.{few-small}
use Rattle.decimal.proofs.scale.hex_scaled.Goals as goal

-- at most 16 digits behind the point
pub overflow_mul-whole : goal.overflow_mul-whole
overflow_mul-whole c =
    let x = c.in_ok-whole.whole in
    omega (arith, (few-small 16 c.args.text.now 16 x.digits x.fraction (lit≤ tt) (sym c.few.ensures ∙ c.in_ok-whole.was)).1)

pub overflow_add-down : goal.overflow_add-down
overflow_add-down c =
    let x = c.in_ok-whole.whole in
    omega (arith, (few-small 16 c.args.text.now 16 x.digits x.fraction (lit≤ tt) (sym c.few.ensures ∙ c.in_ok-whole.was)).1, c.requires.1)
