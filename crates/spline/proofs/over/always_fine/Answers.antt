use Rattle.std.proofs.Common.{sym, ◌∙◌}
use Rattle.spline.proofs.Told.{told-fine, untold-fine}
use Rattle.spline.proofs.TameFine.{tame_fine}
use Rattle.spline.proofs.over.always_fine.Goals as goal

pub returns-in_default : goal.returns-in_default
returns-in_default c = λ _ x. sym (untold-fine c.args.row.now x c.in_default.ensures)

pub returns : goal.returns
returns c = λ e x.
    let s = c.in-Some.spline in
    sym (told-fine c.args.row.now x c.in-Some.ensures) ∙ tame_fine s.row.now s.degree s.controls x s.sizes (c.is_tame.ensures e)
