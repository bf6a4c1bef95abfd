-- `tables::find_shape` meets its contract. The invariant: what the names from i on answer is the answer. Assumes nothing.
use Prim.Native.Nat.{◌-◌, ◌≤◌}
use mathlib.Core.Path.{◌≡◌}
use lib.ListN.{drop}
use Rattle.tables.specs.Tables.{shapes_in, shape_from, shape_found}
use Rattle.tables.proofs.find_shape.Given as goal

abbrev pub invariant-loop-i : goal.invariant-loop-i
invariant-loop-i l = (l.i ≤ 8) × (shape_from l.i l.name (drop l.i (shapes_in l.t)) ≡ shape_found l.t l.name)

abbrev pub decreases-loop-i : goal.decreases-loop-i
decreases-loop-i l = 8 - l.i
