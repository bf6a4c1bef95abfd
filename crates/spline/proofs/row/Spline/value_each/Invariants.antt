use Rattle.rows.proofs.Valued.{Valued}
use Rattle.spline.specs.Value.{spline_at}
use Rattle.spline.proofs.row.Spline.value_each.Given as goal

abbrev pub invariant-loop-x : goal.invariant-loop-x
invariant-loop-x l = Valued (spline_at l.self.row.now l.self.degree l.self.controls) l.initial.part l.part l.x-index
