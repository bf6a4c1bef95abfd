use Rattle.std.proofs.Common.{◌∙◌}
use Rattle.spline.proofs.Told.{told-value, untold-value}
use Rattle.spline.proofs.value.value.Goals as goal

pub returns-in_default : goal.returns-in_default
returns-in_default c = untold-value c.args.row.now c.args.x c.in_default.ensures

pub returns : goal.returns
returns c = c.value.ensures ∙ told-value c.args.row.now c.args.x c.in-Some.ensures
