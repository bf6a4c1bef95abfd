-- The words of a line, behind its letter: a space and 16 digits each. Definitions only.
use Rattle.std.specs.Prelude.{ℕ, zero, suc, ◌+◌, ◌*◌, min, Bool, true, false, ◌&&◌, not, cond, List, eqb, leb, Float, ℤ, pos, ◌-ℤ◌, length, drop, Option, Some, None}
use Rattle.std.specs.Float.{binary64}
use Rattle.std.specs.Float.Ieee.{of_bits}
use Rattle.lines.specs.Field.{number_at}
use Rattle.lines.specs.Text.{line_length}
use Rattle.naming.specs.declared.Name.{Name}

abbrev pub bits_of : Option ℕ → ℕ
bits_of (Some w) = w
bits_of None = 0

-- word k, counted from 0; 0 where there is none
abbrev pub word_in : List ℕ → ℕ → ℕ
word_in line k = bits_of (number_at line (1 + 17 * k))

abbrev pub float_in : List ℕ → ℕ → Float
float_in line k = of_bits binary64 (word_in line k)

abbrev pub choice_in : List ℕ → ℕ → Bool
choice_in line k = not (eqb (word_in line k) 0)

-- the level that a word stands for, where `mid` stands for level 0; those above twice that stand for none, and are taken for level 0
abbrev pub level_of : ℕ → ℕ → ℤ
level_of mid w = cond (leb w (2 * mid)) (pos w -ℤ pos mid) (pos 0)

abbrev pub name_in : List ℕ → ℕ → Name
name_in line k = record { first = word_in line k; second = word_in line (k + 1); len = word_in line (k + 2) }

abbrev pub is_word : Option ℕ → Bool
is_word (Some w) = true
is_word None = false

-- whether each of the first so many words stands there
unfoldable pub words_stand : List ℕ → ℕ → Bool
words_stand line zero = true
words_stand line (suc k) = is_word (number_at line (1 + 17 * k)) && words_stand line k

-- whether a line is a letter and so many words
unfoldable pub readable_as : List ℕ → ℕ → Bool
readable_as line count = eqb (length line) (1 + 17 * count) && words_stand line count

-- where the line at a place of a text ends; a place past the text is taken for its end
abbrev pub end_in : List ℕ → ℕ → ℕ
end_in text at = min (at + line_length (drop at text)) (length text)
