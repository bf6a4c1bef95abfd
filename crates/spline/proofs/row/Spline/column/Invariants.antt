use Rattle.std.proofs.Common.{◌-◌}
use Rattle.spline.proofs.Columns.{Turned}
use Rattle.spline.proofs.row.Spline.column.Given as goal

abbrev pub invariant-loop-j : goal.invariant-loop-j
invariant-loop-j l = Turned l.self.row.now l.self.degree l.k l.x l.r l.d (l.j - 1)
