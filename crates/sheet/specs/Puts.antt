-- Elements put at a place of a list, as the matrix is filled and a sheet is printed; and how long a sheet's text is. Definitions only.
use Rattle.std.specs.Prelude.{ℕ, ◌+◌, ◌*◌, ◌≤◌, true, List, [], ◌∷◌, ◌++◌, ◌≡◌, Float, length, take, drop}
use Rattle.std.specs.Float.{binary64}
use Rattle.std.specs.Float.Ieee.{to_bits}
use Rattle.hexadecimal.specs.Hex.{digits}
use Rattle.naming.specs.Name.{bytes_of}
use Rattle.naming.specs.declared.Name.{Name}
use Rattle.sheet.specs.Sheet.{row_key, factor_key, good_names, all_finite, patterns, factors_text}

-- a list with others in the place of as many of its own, from a place on
abbrev pub pasted : {A : Type 0} → List A → ℕ → List A → List A
pasted list at new = take at list ++ new ++ drop (at + length new) list

-- what a function that puts bytes at a place answers and leaves: the place behind them, and the text with them
pub record Put (bytes before : List ℕ) (at : ℕ) (r : ℕ) (after : List ℕ) : Type 0 where
  pub next : r ≡ at + length bytes
  pub left : after ≡ pasted before at bytes

-- a line of a key and a name
abbrev pub name_line : List ℕ → Name → List ℕ
name_line key n = key ++ bytes_of n ++ 10 ∷ []

-- a line of a factor
abbrev pub factor_line : Float → List ℕ
factor_line x = factor_key ++ digits 16 (to_bits binary64 x) ++ 10 ∷ []

-- a row's line and its factors' lines
abbrev pub block_text : Name → List Float → List ℕ
block_text n numbers = name_line row_key n ++ factors_text (patterns numbers)

-- what printing asks of its numbers and names, but for the room and that no name is doubled
pub record Printable (count : ℕ) (names : List Name) (matrix : List Float) : Type 0 where
  pub most : count ≤ 8
  pub numbers : count * count ≤ length matrix
  pub good : good_names (take count names) ≡ true
  pub fine : all_finite (take (count * count) matrix) ≡ true

-- the bytes of a name's two lines, `column=NAME` and `row=NAME`
unfoldable pub two_lines : Name → ℕ
two_lines n = 13 + 2 * length (bytes_of n)

-- those of some names
unfoldable pub names_size : List Name → ℕ
names_size [] = 0
names_size (n ∷ ns) = two_lines n + names_size ns
