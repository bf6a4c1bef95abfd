-- The invariants: the first 2 + i numbers, then the first 34 + j, are those of the row.
use Rattle.std.proofs.Common.{◌≡◌, ◌+◌}
use Rattle.spline.proofs.Rows.{filled}
use Rattle.spline.proofs.row.row_of.Given as goal

abbrev pub invariant-loop-i : goal.invariant-loop-i
invariant-loop-i l = l.row ≡ filled l.degree l.controls l.knots (2 + l.i)

abbrev pub invariant-loop-j : goal.invariant-loop-j
invariant-loop-j l = l.row ≡ filled l.degree l.controls l.knots (34 + l.j)
