-- The invariants: the rounds to r, and in round r + 1 the steps before j, are wide.
use Rattle.std.proofs.Common.{◌≡◌, ◌-◌, true}
use Rattle.spline.specs.Walk.{wide_round, wide_rounds}
use Rattle.spline.proofs.row.Spline.all_wide.Given as goal

abbrev pub invariant-loop-j : goal.invariant-loop-j
invariant-loop-j l = wide_round l.self.row.now l.self.degree l.k l.r (l.j - 1 - l.r) ≡ true

abbrev pub invariant-loop-r : goal.invariant-loop-r
invariant-loop-r l = wide_rounds l.self.row.now l.self.degree l.k l.r ≡ true
