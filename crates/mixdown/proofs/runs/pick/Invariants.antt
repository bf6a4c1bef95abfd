-- `mixdown::runs::pick` meets its contract. Assumes nothing.
use Rattle.mixdown.specs.Runs.{InRows, picked_from}
use lib.ListN.{take, drop}
use mathlib.Core.Path.{◌≡◌}
use Rattle.mixdown.proofs.runs.pick.Given as goal

abbrev pub invariant-loop-k : goal.invariant-loop-k
invariant-loop-k l = InRows 8192 l.best × (l.best ≡ picked_from l.work l.marks l.k (drop l.k (take l.r.count l.r.runs)))
