-- The first lines of a text, as they stand, with their line feeds. A last line without its line feed is a line (`lines_of` of `lines`).
-- Definitions only.
use Rattle.std.specs.Prelude.{ℕ, zero, suc, cond, List, [], ◌∷◌, leb, eqb, length, take, Option, Some, None}
use Rattle.lines.specs.Text.{lines_of}

-- how many bytes the first so many lines have: up to and with so many line feeds (10), or to the end
unfoldable pub lines_bytes : ℕ → List ℕ → ℕ
lines_bytes zero text = 0
lines_bytes (suc more) [] = 0
lines_bytes (suc more) (b ∷ bs) = suc (cond (eqb b 10) (lines_bytes more bs) (lines_bytes (suc more) bs))

-- the first so many lines
abbrev pub first_lines : ℕ → List ℕ → List ℕ
first_lines count text = take (lines_bytes count text) text

unfoldable pub first_of : ℕ → List ℕ → Option ℕ
first_of count text = cond (leb count (length (lines_of text))) (Some (lines_bytes count text)) None
