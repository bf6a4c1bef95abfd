-- The invariant: the knot k is not over x.
use Rattle.std.proofs.Common.{◌≡◌, true}
use Rattle.std.specs.Float.Ieee.{le}
use Rattle.spline.specs.Spline.{knot_at}
use Rattle.spline.proofs.row.Spline.span_up.Given as goal

abbrev pub invariant-loop-k : goal.invariant-loop-k
invariant-loop-k l = le (knot_at l.self.row.now l.k) l.x ≡ true
