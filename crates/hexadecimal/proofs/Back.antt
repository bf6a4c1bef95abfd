-- What is written can be read back: the 16 digits of a word stand for the word, and they stand where they were put. Assumes nothing.
use Rattle.std.specs.Prelude.{Some}
use Prim.Native.Nat.{ℕ, ◌+◌, ◌^◌, ◌≤◌, ◌<◌}
use mathlib.Core.Path.{◌≡◌, ap}
use mathlib.Core.Bool.{true}
use mathlib.Core.List.{List, ◌++◌}
use native.Mathlib.Omega.{arith}
use native.Mathlib.Nat.{mod-eq_of_lt}
use borrow.Author.Tests.{le-leb}
use lib.ListN.{length, take, drop, length-append, length-drop}
use lib.Seq.{length-take-le, take_at, drop_at}
use Rattle.hexadecimal.specs.Hex.{all_digits, digits, field, room, word_at, written}
use Rattle.hexadecimal.proofs.Number.{all_digits_lem, length_digits, number_digits}

module _ (word : ℕ) (text : List ℕ) (at : ℕ) (fits : at + 16 ≤ length text) where
  front : length (take at text) ≡ at
  front = length-take-le at text (omega arith)

  spelled : written word text at ≡ take at text ++ (digits 16 word ++ drop (at + 16) text)
  unfolding written room
  spelled = simp (le-leb (at + 16) (length text) fits)

  -- the 16 bytes there are the word's digits, every one a lowercase hex digit
  pub field-written : field (written word text at) at ≡ digits 16 word
  unfolding field
  field-written =
      rw (spelled, drop_at (take at text) (digits 16 word ++ drop (at + 16) text) at front)
      (take_at (digits 16 word) (drop (at + 16) text) 16 (length_digits 16 word))

  pub digits-written : all_digits (field (written word text at) at) ≡ true
  digits-written = rw field-written (all_digits_lem 16 word)

  pub length-written : length (written word text at) ≡ length text
  length-written = rw spelled (simp (length-append, length_digits, front, length-drop) (omega arith))

  pub read_back : word < 2 ^ 64 → word_at (written word text at) at ≡ Some word
  unfolding word_at room
  read_back small =
      let there = le-leb (at + 16) (length (written word text at)) (rw length-written fits) in
      rw (there, digits-written, field-written, number_digits 16 word) (ap Some (mod-eq_of_lt small))
