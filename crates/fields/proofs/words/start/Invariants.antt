-- `fields::words::start` meets its contract. The invariant: from here on the word is as many words behind as are left to pass. Assumes nothing.
use Prim.Native.Nat.{◌-◌, ◌≤◌}
use mathlib.Core.Path.{◌≡◌}
use mathlib.Core.List.{[]}
use lib.ListN.{length, get_or, drop}
use Rattle.fields.specs.Words.{words_of, word_in}
use Rattle.fields.proofs.words.start.Given as goal

abbrev pub invariant-loop : goal.invariant-loop
invariant-loop l =
    (l.at ≤ length l.line) × (get_or (words_of (drop l.at l.line)) (l.k - l.counter) [] ≡ word_in l.line l.k)
