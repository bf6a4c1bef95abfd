-- `sheet::put::put_blocks` meets its contract. The invariant: putting the blocks that are left comes to putting them all. Assumes nothing.
use Prim.Native.Nat.{ℕ, ◌*◌, ◌≤◌}
use mathlib.Core.Bool.{true}
use mathlib.Core.List.{List}
use mathlib.Core.Path.{◌≡◌}
use lib.Ieee.{Float}
use lib.ListN.{take, drop}
use Rattle.naming.specs.declared.Name.{Name}
use Rattle.sheet.specs.Sheet.{good_names, blocks_text, blocks_of}
use Rattle.sheet.proofs.Pasting.{Left}
use Rattle.sheet.proofs.put.put_blocks.Given as goal

-- the text of the blocks from the i-th on
abbrev pub left : ℕ → ℕ → List Name → List Float → List ℕ
left i count names matrix = blocks_text (blocks_of count (drop i (take count names)) (drop (i * count) matrix))

abbrev pub invariant-loop-i : goal.invariant-loop-i
invariant-loop-i l =
    (l.i ≤ l.count)
    × (good_names (drop l.i (take l.count l.names)) ≡ true)
    × Left (left l.i l.count l.names l.matrix) (blocks_text (blocks_of l.count (take l.count l.names) l.matrix)) l.initial.out l.from l.at l.out
