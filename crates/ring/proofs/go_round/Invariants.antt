-- `ring::go_round` meets its contract. The invariant: the samples before the k-th, with what is still to be made of the rest and the ring, are the
-- filtered row, and s is the k-th sample's slot. Assumes nothing.
use mathlib.Core.Path.{◌≡◌}
use mathlib.Core.List.{List}
use Prim.Native.Nat.{ℕ, ◌-◌, ◌≤◌}
use lib.ListN.{length}
use lib.Ieee.{Float}
use Rattle.ring.specs.Ring.{filtered_from, slot_of}
use Rattle.ring.specs.Inside.{row_to_be}
use Rattle.ring.proofs.go_round.Given as goal

pub record Inv (row₀ ring₀ taps row ring : List Float) (k s : ℕ) : Type 0 where
  pub within : k ≤ length row
  pub same : length row ≡ length row₀
  pub room : length ring ≡ length ring₀
  pub slot : s ≡ slot_of taps k
  pub left : row_to_be taps k ring row ≡ filtered_from taps 0 ring₀ row₀

abbrev pub invariant-loop-k : goal.invariant-loop-k
invariant-loop-k l = Inv l.initial.row l.initial.ring l.taps l.row l.ring l.k l.s

abbrev pub decreases-loop-k : goal.decreases-loop-k
decreases-loop-k l = length l.initial.row - l.k
