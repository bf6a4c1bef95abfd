-- `mixdown::bins::runs_for` meets its contract. Assumes nothing.
use Rattle.mixdown.specs.Starts.{runs_for_from}
use Rattle.mixdown.specs.Runs.{Within}
use Rattle.merge.specs.Taking.{parts_in}
use lib.ListN.{length, take, drop}
use mathlib.Core.List.{◌++◌}
use Prim.Native.Nat.{◌-◌, ◌≤◌}
use mathlib.Core.Path.{◌≡◌}
use Rattle.mixdown.proofs.bins.runs_for.Given as goal

abbrev pub invariant-loop-k : goal.invariant-loop-k
invariant-loop-k l = (l.k ≤ l.taking.count) × (length l.runs ≡ 8) × Within l.runs × (take l.k l.runs ++ runs_for_from l.t l.bins l.marks l.row l.begin (drop l.k (parts_in l.taking)) (drop l.k l.ends.ends) ≡ runs_for_from l.t l.bins l.marks l.row 0 (parts_in l.taking) l.ends.ends)

abbrev pub decreases-loop-k : goal.decreases-loop-k
decreases-loop-k l = l.taking.count - l.k
