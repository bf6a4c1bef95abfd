-- `lines::text::line_end` meets its contract. The invariant: from here the line ends where it ends from `at`. Assumes nothing.
use Prim.Native.Nat.{◌+◌}
use mathlib.Core.Path.{◌≡◌}
use lib.ListN.{drop}
use Rattle.lines.specs.Text.{line_length}
use Rattle.lines.proofs.text.line_end.Given as goal

abbrev pub invariant-loop-i : goal.invariant-loop-i
invariant-loop-i l = l.i + line_length (drop l.i l.text) ≡ l.at + line_length (drop l.at l.text)
