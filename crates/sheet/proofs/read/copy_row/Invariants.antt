-- `sheet::read::copy_row` meets its contract. The invariant: the first k numbers of the row stand in the matrix that came. Assumes nothing.
use Prim.Native.Nat.{◌≤◌}
use mathlib.Core.Path.{◌≡◌}
use lib.ListN.{length, take, drop}
use lib.Seq.{paste}
use Rattle.sheet.specs.Sheet.{doubles}
use Rattle.sheet.proofs.read.copy_row.Given as goal

abbrev pub invariant-loop-k : goal.invariant-loop-k
invariant-loop-k l =
    (l.k ≤ l.count)
    × (length l.matrix ≡ length l.initial.matrix)
    × (l.matrix ≡ paste l.initial.matrix l.to (doubles (take l.count (drop l.from l.factors))) l.k)
