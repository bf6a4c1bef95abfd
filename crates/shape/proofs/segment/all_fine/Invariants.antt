-- The invariant: whether all points are fine is whether those from i on are.
use Rattle.std.proofs.Common.{◌≡◌, drop}
use Rattle.points.specs.Points.{points}
use Rattle.pulse.specs.declared.envelope.Shape.TheVariants.{Spline}
use Rattle.shape.specs.Segment.{all_fine}
use Rattle.shape.proofs.segment.all_fine.Given as goal

abbrev pub invariant-loop-i : goal.invariant-loop-i
invariant-loop-i l = all_fine Spline l.numbers (points l.count 0 l.x l.dx) ≡ all_fine Spline l.numbers (drop l.i (points l.count 0 l.x l.dx))
