use Rattle.std.proofs.Common.{◌∙◌}
use Rattle.spline.proofs.Told.{told-fine, untold-fine}
use Rattle.spline.proofs.value.is_fine.Goals as goal

pub returns-in_default : goal.returns-in_default
returns-in_default c = untold-fine c.args.row.now c.args.x c.in_default.ensures

pub returns : goal.returns
returns c = c.is_fine.ensures ∙ told-fine c.args.row.now c.args.x c.in-Some.ensures
