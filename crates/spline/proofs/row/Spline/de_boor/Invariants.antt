use Rattle.spline.specs.Walk.{Column}
use Rattle.spline.proofs.row.Spline.de_boor.Given as goal

abbrev pub invariant-loop-r : goal.invariant-loop-r
invariant-loop-r l = Column l.self.row.now l.self.degree l.k l.x l.r l.d
