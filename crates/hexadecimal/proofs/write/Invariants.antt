-- `hexadecimal::write` meets its contract. The digits are put from the last to the first. The invariant: `rest` is the word without the digits
-- that are written, and those stand in the text as it came. Assumes nothing.
use Prim.Native.Nat.{ℕ, ◌+◌, ◌-◌, ◌/◌, ◌^◌, ◌≤◌}
use mathlib.Core.Path.{◌≡◌}
use mathlib.Core.List.{List, ◌++◌}
use lib.ListN.{length, take, drop}
use Rattle.hexadecimal.specs.Hex.{digits}
use Rattle.hexadecimal.proofs.write.Given as goal

-- a text in which the last k digits of a word stand at at + i
abbrev pub partly : ℕ → List ℕ → ℕ → ℕ → ℕ → List ℕ
partly word text at i k = take (at + i) text ++ (digits k word ++ drop (at + 16) text)

-- what is known once the digits from i on are written
pub record Put (word : ℕ) (text : List ℕ) (at : ℕ) (out : List ℕ) (rest i : ℕ) : Type 0 where
  pub within : i ≤ 16
  pub long : length out ≡ length text
  pub left : rest ≡ word / 16 ^ (16 - i)
  pub is : out ≡ partly word text at i (16 - i)

abbrev pub invariant-loop-i : goal.invariant-loop-i
invariant-loop-i l = Put l.word l.initial.out l.at l.out l.rest l.i
