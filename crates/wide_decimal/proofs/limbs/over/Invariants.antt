-- The digits from `i` on are the quotient's, and the rest stands before those below.
use Rattle.wide_decimal.proofs.Steps.{Over}
use Rattle.wide_decimal.proofs.limbs.over.Given as goal

abbrev pub invariant-loop-i : goal.invariant-loop-i
invariant-loop-i l = Over l.fn.a l.m l.c l.a l.rest l.i
