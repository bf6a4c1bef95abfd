-- `mixdown::bins::appeared` meets its contract. Assumes nothing.
use mathlib.Core.Bool.{false}
use Rattle.mixdown.specs.Bins.{is_among, all_rows}
use Rattle.merge.specs.Taking.{parts_in}
use lib.ListN.{take}
use mathlib.Core.Bool.{false}
use Prim.Native.Nat.{◌-◌, ◌≤◌}
use mathlib.Core.Path.{◌≡◌}
use Rattle.mixdown.proofs.bins.appeared.Given as goal

abbrev pub invariant-loop-j : goal.invariant-loop-j
invariant-loop-j l = (l.j ≤ l.k) × (is_among l.row (all_rows l.t l.bins (take l.j (parts_in l.taking))) ≡ false)

abbrev pub decreases-loop-j : goal.decreases-loop-j
decreases-loop-j l = l.k - l.j
