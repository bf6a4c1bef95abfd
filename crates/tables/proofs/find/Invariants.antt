-- `tables::find` meets its contract. The invariant: what the channels from i on answer is the answer. Assumes nothing.
use Prim.Native.Nat.{◌-◌, ◌≤◌}
use mathlib.Core.Path.{◌≡◌}
use lib.ListN.{drop}
use Rattle.tables.specs.Tables.{channels_in, found_from, found}
use Rattle.tables.proofs.find.Given as goal

abbrev pub invariant-loop-i : goal.invariant-loop-i
invariant-loop-i l = (l.i ≤ 8) × (found_from l.i l.name (drop l.i (channels_in l.t)) ≡ found l.t l.name)

abbrev pub decreases-loop-i : goal.decreases-loop-i
decreases-loop-i l = 8 - l.i
