-- `mixdown::ends_fit` meets its contract. Assumes nothing.
use Rattle.mixdown.specs.Sampled.{ends_fit}
use lib.ListN.{drop}
use Prim.Native.Nat.{◌-◌, ◌≤◌}
use mathlib.Core.Path.{◌≡◌}
use Rattle.mixdown.proofs.ends_fit.Given as goal

abbrev pub invariant-loop-k : goal.invariant-loop-k
invariant-loop-k l = (l.k ≤ 8) × (ends_fit (drop l.k l.e.ends) ≡ ends_fit l.e.ends)

abbrev pub decreases-loop-k : goal.decreases-loop-k
decreases-loop-k l = 8 - l.k
