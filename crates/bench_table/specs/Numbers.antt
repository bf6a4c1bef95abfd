-- The numbers of the bench examples, as doubles. Definitions only.
use Rattle.std.specs.Prelude.{ℕ, false, List, map, Float}
use Rattle.std.specs.Float.{binary64}
use Rattle.std.specs.Float.Ieee.{round}

-- the double nearest to n / d: 2.25 is `over 225 100`
abbrev pub over : ℕ → ℕ → Float
over n d = round binary64 false n d

-- a whole number, and a list of them
abbrev pub whole : ℕ → Float
whole n = over n 1

abbrev pub wholes : List ℕ → List Float
wholes = map whole
