-- `ring::eight::add_fresh` meets its contract. The invariant: the sums are over the slots before the m-th. Assumes nothing.
use Prim.Native.Nat.{◌+◌}
use Rattle.ring.specs.Inside.{Summed}
use Rattle.ring.proofs.eight.add_fresh.Given as goal

abbrev pub invariant-loop-m : goal.invariant-loop-m
invariant-loop-m l = Summed l.taps l.ring l.s l.fresh (l.s + l.m) l.sums
