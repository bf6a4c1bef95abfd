use Rattle.std.proofs.Common.{sym, ◌∙◌}
use mathlib.Core.Bool.{false≢true}
use Rattle.spline.proofs.Tested.{tested}
use Rattle.spline.proofs.row.Spline.is_tame.Goals as goal
use Rattle.spline.proofs.row.Spline.is_tame.Goals.{then-all_tamed, else-all_tamed}

pub returns-then-all_tamed-2 : goal.returns-then-all_tamed-2
returns-then-all_tamed-2 c = λ f.
    let s = c.args.self.now in
    elim c.if-all_tamed.branch [
      | then-all_tamed w ↦ (
          let knots = w.all_tamed-then-all_tamed.ensures (sym w.value-is ∙ c.if-all_tamed-2.true) in
          tested s.row.now s.degree s.controls s.seventy_two s.sizes (c.all_tamed.ensures w.if-all_tamed.true) knots (sym c.not_falling.ensures ∙ f))
      | else-all_tamed w ↦ absurd (false≢true (sym w.if-all_tamed.false ∙ sym w.value-is ∙ c.if-all_tamed-2.true))
    ]
