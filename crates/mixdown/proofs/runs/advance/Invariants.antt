-- `mixdown::runs::advance` meets its contract. Assumes nothing.
use Rattle.mixdown.specs.Runs.{advanced}
use mathlib.Core.Path.{◌≡◌}
use Prim.Native.Nat.{◌-◌}
use Rattle.mixdown.proofs.runs.advance.Given as goal

abbrev pub invariant-loop-at : goal.invariant-loop-at
invariant-loop-at l = advanced l.marks l.at l.end l.mark ≡ advanced l.marks l.from l.end l.mark

abbrev pub decreases-loop-at : goal.decreases-loop-at
decreases-loop-at l = l.end - l.at
