-- `ring::eight::add_crossed` meets its contract: the first p sums have their product, the others are as they came. Assumes nothing.
use Rattle.ring.specs.Inside.{crossed}
use Rattle.ring.proofs.Adding.{Adding}
use Rattle.ring.proofs.eight.add_crossed.Given as goal

abbrev pub invariant-loop-p : goal.invariant-loop-p
invariant-loop-p l = Adding (crossed l.taps l.m l.old l.new) l.initial.sums l.p l.sums
