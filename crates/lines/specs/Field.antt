-- The numbers of a line. Assumes nothing.
use Rattle.std.specs.Prelude.{ℕ, ◌+◌, cond, List, eqb, get_or, Option, None}
use Rattle.hexadecimal.specs.Hex.{word_at}

-- the number after the space (32) at a place
unfoldable pub number_at : List ℕ → ℕ → Option ℕ
number_at line at = cond (eqb (get_or line at 0) 32) (word_at line (at + 1)) None
