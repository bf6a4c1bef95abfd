-- The invariant: the points so far are values, and k is a span of the domain.
use Rattle.std.proofs.Common.{◌<◌, ◌≤◌}
use Rattle.rows.proofs.Valued.{Valued}
use Rattle.spline.specs.Value.{spline_at}
use Rattle.spline.proofs.row.Spline.walk.Given as goal

abbrev pub invariant-loop-x : goal.invariant-loop-x
invariant-loop-x l =
    Valued (spline_at l.self.row.now l.self.degree l.self.controls) l.initial.part l.part l.x-index × (l.self.degree ≤ l.k) × (l.k < l.self.controls)
