-- The numbers of a list, and what storing them leaves. Definitions only.
use Rattle.std.specs.Prelude.{ℕ, ◌≤◌, List, [], ◌∷◌, ◌++◌, ◌≡◌, Float, length, take, drop, Option, Some, None}
use Rattle.decimal.specs.Number.{number_of}
use Rattle.fields.specs.Words.{words_of}

abbrev pub onto : Option Float → List Float → List Float
onto (Some x) xs = x ∷ xs
onto None xs = []

-- the numbers that words are, up to the first that is none
unfoldable pub numbers_of : List (List ℕ) → List Float
numbers_of [] = []
numbers_of (w ∷ ws) = onto (number_of w) (numbers_of ws)

-- those of a line from word k on
abbrev pub listed : List ℕ → ℕ → List Float
listed line k = numbers_of (drop k (words_of line))

-- they begin at r
pub record Begun (line : List ℕ) (k r : ℕ) : Type 0 where
  pub within : r ≤ length line
  pub is : numbers_of (words_of (drop r line)) ≡ listed line k

-- the numbers that fit stand at the start of the buffer, and the rest of it stays
pub record Stored (line : List ℕ) (k : ℕ) (before : List Float) (r : ℕ) (after : List Float) : Type 0 where
  pub count : r ≡ length (take (length before) (listed line k))
  pub left : after ≡ take (length before) (listed line k) ++ drop r before
