-- `sheet::read::lines_of` meets its contract. The invariant: reading from here on comes to what reading the whole text comes to. Assumes nothing.
use Prim.Native.Nat.{◌+◌, ◌-◌, ◌≤◌}
use mathlib.Core.Path.{◌≡◌}
use lib.ListN.{length, drop}
use Rattle.sheet.specs.Reader.{so_far, Fits, read_text}
use Rattle.sheet.specs.Sheet.{nothing}
use Rattle.sheet.proofs.read.lines_of.Given as goal

abbrev pub invariant-loop-at : goal.invariant-loop-at
invariant-loop-at l =
    (l.at ≤ length l.text)
    × (l.line ≤ l.at + 1)
    × Fits l.s
    × (read_text l.line (so_far l.s) (drop l.at l.text) ≡ read_text 1 nothing l.text)

abbrev pub decreases-loop-at : goal.decreases-loop-at
decreases-loop-at l = length l.text - l.at
