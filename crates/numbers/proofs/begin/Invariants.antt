-- `numbers::begin` meets its contract. The invariant: the numbers from here on, with the words passed over that are left, are those from word k on. Assumes nothing.
use Prim.Native.Nat.{◌-◌, ◌≤◌}
use mathlib.Core.Path.{◌≡◌}
use lib.ListN.{length, drop}
use Rattle.fields.specs.Words.{words_of}
use Rattle.numbers.specs.Numbers.{numbers_of, listed}
use Rattle.numbers.proofs.begin.Given as goal

abbrev pub invariant-loop : goal.invariant-loop
invariant-loop l = (l.at ≤ length l.line) × (numbers_of (drop (l.k - l.counter) (words_of (drop l.at l.line))) ≡ listed l.line l.k)
