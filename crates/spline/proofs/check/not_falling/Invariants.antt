-- The invariant: whether no knot falls is whether none does from the one before i on.
use Rattle.std.proofs.Common.{◌≡◌, ◌-◌, ◌<◌, drop}
use Rattle.spline.specs.Spline.{not_falling}
use Rattle.spline.proofs.check.not_falling.Given as goal

abbrev pub invariant-loop-i : goal.invariant-loop-i
invariant-loop-i l = (0 < l.i) × (not_falling l.knots ≡ not_falling (drop (l.i - 1) l.knots))
