-- p is what Horner's rule gives from i on.
use Rattle.std.proofs.Common.{◌≡◌, ◌+◌, get_or, drop}
use Rattle.std.specs.Float.{nan}
use Rattle.trig.specs.Trig.{horner}
use Rattle.trig.proofs.horner.Given as goal

abbrev pub invariant-loop-i : goal.invariant-loop-i
invariant-loop-i l = l.p ≡ horner l.y (get_or l.c l.i nan) (drop (l.i + 1) l.c)
