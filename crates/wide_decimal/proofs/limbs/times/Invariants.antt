-- The digits below the index are the product's, and the carry is not yet added.
use Rattle.wide_decimal.proofs.Steps.{Times}
use Rattle.wide_decimal.proofs.limbs.times.Given as goal

abbrev pub invariant-loop-x : goal.invariant-loop-x
invariant-loop-x l = Times l.fn.a l.m l.c l.a l.carry l.x-index
