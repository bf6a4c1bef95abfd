-- The invariant: no knot from k on is at or below x.
use Rattle.std.proofs.Common.{◌≡◌, ◌-◌, ◌<◌}
use Rattle.spline.specs.Spline.{span_to, span_at}
use Rattle.spline.proofs.row.Spline.span.Given as goal

abbrev pub invariant-loop-k : goal.invariant-loop-k
invariant-loop-k l =
    (l.self.degree < l.k)
    × (span_at l.self.row.now l.self.degree l.self.controls l.x ≡ span_to l.self.row.now l.self.degree l.x (l.k - 1 - l.self.degree))
