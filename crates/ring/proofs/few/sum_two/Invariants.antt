-- `ring::few::sum_two` meets its contract. The invariant of both loops: the two are sums over the first j slots. Assumes nothing.
use mathlib.Core.Path.{◌≡◌}
use mathlib.Core.List.{List, [], ◌∷◌}
use Prim.Native.Nat.{ℕ}
use lib.Ieee.{Float}
use Rattle.ring.specs.Inside.{output_to}
use Rattle.ring.proofs.few.sum_two.Given as goal

-- both sums over the first j slots
pub record Both (ring : List Float) (s : ℕ) (taps : List Float) (x y a b : Float) (j : ℕ) : Type 0 where
  pub first : a ≡ output_to taps ring s (x ∷ y ∷ []) j 0
  pub second : b ≡ output_to taps ring s (x ∷ y ∷ []) j 1

abbrev pub invariant-loop-j : goal.invariant-loop-j
invariant-loop-j l = Both l.ring l.s l.taps l.x l.y l.sums.first l.sums.second l.j

abbrev pub invariant-loop-j-2 : goal.invariant-loop-j-2
invariant-loop-j-2 l = Both l.ring l.s l.taps l.x l.y l.sums.first l.sums.second l.j
