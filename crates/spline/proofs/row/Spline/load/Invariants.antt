use Rattle.spline.proofs.Columns.{Loaded}
use Rattle.spline.proofs.row.Spline.load.Given as goal

abbrev pub invariant-loop-j : goal.invariant-loop-j
invariant-loop-j l = Loaded l.self.row.now l.self.degree l.k l.d l.j
