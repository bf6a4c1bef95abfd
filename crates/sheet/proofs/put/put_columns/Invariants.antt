-- `sheet::put::put_columns` meets its contract. The invariant: putting the lines that are left comes to putting them all. Assumes nothing.
use Prim.Native.Nat.{◌≤◌}
use mathlib.Core.Bool.{true}
use mathlib.Core.Path.{◌≡◌}
use lib.ListN.{take, drop}
use Rattle.sheet.specs.Sheet.{good_names, columns_text}
use Rattle.sheet.proofs.Pasting.{Left}
use Rattle.sheet.proofs.put.put_columns.Given as goal

abbrev pub invariant-loop-i : goal.invariant-loop-i
invariant-loop-i l =
    (l.i ≤ l.count)
    × (good_names (drop l.i (take l.count l.names)) ≡ true)
    × Left (columns_text (drop l.i (take l.count l.names))) (columns_text (take l.count l.names)) l.initial.out l.from l.at l.out
