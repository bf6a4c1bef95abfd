-- What the loop of `correct` does in a turn, of one row. Inner words: no promise cites them. Definitions only.
use Rattle.std.specs.Prelude.{◌≡◌, List, ℕ, ◌+◌, get_or, set, Float}
use Rattle.std.specs.Float.{nan, binary64}
use Rattle.std.specs.Float.Ieee.{sub}
use Rattle.quick_fma.specs.Quick.{upper_of}
use Rattle.mixer.specs.Mixer.{corrected}

-- sample k of the row, corrected, from the rows i and q
abbrev pub one_on : ℕ → Float → Float → Float → List Float → List Float → List Float → List Float
one_on k m n o i q row = set row k (corrected m n o (get_or i k nan) (get_or q k nan))

-- and the next one too
abbrev pub two_on : ℕ → Float → Float → Float → List Float → List Float → List Float → List Float
two_on k m n o i q row = one_on (k + 1) m n o i q (one_on k m n o i q row)

-- m is h + l, split for products
pub record InHalves (m h l : Float) : Type 0 where
  pub upper : h ≡ upper_of m
  pub lower : l ≡ sub binary64 m h
