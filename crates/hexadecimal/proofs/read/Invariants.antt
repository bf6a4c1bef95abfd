-- `hexadecimal::read` meets its contract. The invariant: the bytes passed are digits, and `word` is the number that they stand for.
-- Assumes nothing.
use Prim.Native.Nat.{ℕ, ◌≤◌}
use mathlib.Core.Path.{◌≡◌}
use mathlib.Core.Bool.{true}
use mathlib.Core.List.{List}
use lib.ListN.{take, drop}
use Rattle.hexadecimal.specs.Hex.{all_digits, number}
use Rattle.hexadecimal.proofs.read.Given as goal

-- what is known once i bytes are passed
pub record Passed (text : List ℕ) (at word i : ℕ) : Type 0 where
  pub within : i ≤ 16
  pub all : all_digits (take i (drop at text)) ≡ true
  pub is : word ≡ number (take i (drop at text))

abbrev pub invariant-loop-i : goal.invariant-loop-i
invariant-loop-i l = Passed l.text l.at l.word l.i
