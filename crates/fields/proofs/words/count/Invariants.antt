-- `fields::words::count` meets its contract. The invariant: with the words that are left there are as many as in the line. Assumes nothing.
use Prim.Native.Nat.{◌+◌, ◌≤◌}
use mathlib.Core.Path.{◌≡◌}
use lib.ListN.{length, drop}
use Rattle.fields.specs.Words.{words_of}
use Rattle.fields.proofs.words.count.Given as goal

abbrev pub invariant-loop-b : goal.invariant-loop-b
invariant-loop-b l =
    (l.blanks ≤ l.b-index) × (l.blanks + length (words_of (drop l.b-index l.line)) ≡ length (words_of l.line))
