-- Of both loops: each sum is over the slots so far.
use Rattle.ring.specs.Inside.{Summed}
use Rattle.ring.proofs.eight.sum_all.Given as goal

abbrev pub invariant-loop-j : goal.invariant-loop-j
invariant-loop-j l = Summed l.taps l.ring l.s l.fresh l.j l.sums

abbrev pub invariant-loop-j-2 : goal.invariant-loop-j-2
invariant-loop-j-2 l = Summed l.taps l.ring l.s l.fresh l.j l.sums
