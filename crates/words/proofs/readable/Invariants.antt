-- `words::readable` meets its contract. The invariant: the words that were passed stand. Assumes nothing.
use mathlib.Core.Path.{◌≡◌}
use mathlib.Core.Bool.{true}
use Rattle.words.specs.Words.{words_stand}
use Rattle.words.proofs.readable.Given as goal

abbrev pub invariant-loop-k : goal.invariant-loop-k
invariant-loop-k l = words_stand l.line l.k ≡ true
