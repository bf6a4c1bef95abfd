-- `ring::eight::add_slot` meets its contract: the first p sums have their product, the others are as they came. Assumes nothing.
use Prim.Native.Nat.{◌+◌}
use lib.ListN.{get_or}
use lib.Ieee.{nan, binary64, mul}
use Rattle.ring.proofs.Adding.{Adding}
use Rattle.ring.proofs.eight.add_slot.Given as goal

abbrev pub invariant-loop-p : goal.invariant-loop-p
invariant-loop-p l = Adding (λ q. mul binary64 (get_or l.taps (l.t + q) nan) l.x) l.initial.sums l.p l.sums
