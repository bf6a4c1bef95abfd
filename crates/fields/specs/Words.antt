-- A line as words, and a word parted at a key. The job text: "words are parted by one blank"; "Fields `key=value` stand in the order shown".
-- Definitions only.
use Rattle.std.specs.Prelude.{ℕ, ◌-◌, ◌≤◌, ◌≡◌, Bool, true, false, cond, List, [], ◌∷◌, eqb, length, get_or, take, drop, Option, Some, None}
use Rattle.lines.specs.Text.{before}
use Rattle.decimal.specs.Digits.{place_of}
use Rattle.sheet.specs.Sheet.{Behind, value, other, behind}
use Rattle.fields.specs.declared.words.Span.{Span}

-- the words, without the blanks (32) between them; there is always one, which may be empty
unfoldable pub words_of : List ℕ → List (List ℕ)
words_of [] = [] ∷ []
words_of (b ∷ bs) = cond (eqb b 32) ([] ∷ words_of bs) (before b (words_of bs))

-- 1 for a blank
abbrev pub blank_of : ℕ → ℕ
blank_of b = cond (eqb b 32) 1 0

-- word k, from 0; the empty word where there is none
abbrev pub word_in : List ℕ → ℕ → List ℕ
word_in line k = get_or (words_of line) k []

-- up to the first blank
abbrev pub first_word : List ℕ → List ℕ
first_word text = take (place_of 32 text) text

-- word k begins at r
pub record Begins (line : List ℕ) (k r : ℕ) : Type 0 where
  pub within : r ≤ length line
  pub is : first_word (drop r line) ≡ word_in line k

-- ---- the value behind a key

-- what stands at a place of a line
abbrev pub spanned : Option Span → List ℕ → Behind
spanned (Some s) line = value (take (s.to - s.from) (drop s.from line))
spanned None line = other

abbrev pub Inside : Option Span → List ℕ → Type 0
Inside (Some s) line = (s.from ≤ s.to) × (s.to ≤ length line)
Inside None line = Unit {0}

pub record Found (line : List ℕ) (k : ℕ) (key : List ℕ) (r : Option Span) : Type 0 where
  pub is : behind key (word_in line k) ≡ spanned r line
  pub inside : Inside r line

-- whether a word is a key and nothing behind it
abbrev pub bare : Behind → Bool
bare (value []) = true
bare (value (b ∷ bs)) = false
bare other = false

unfoldable pub is_word : List ℕ → List ℕ → Bool
is_word key word = bare (behind key word)
