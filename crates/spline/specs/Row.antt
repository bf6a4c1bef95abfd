-- A spline as a row of 72 numbers: degree, count of controls, 32 controls, 38 knots; zeros behind the last control and behind the last knot.
-- Definitions only.
use Rattle.std.specs.Prelude.{ℕ, List, ◌∷◌, ◌++◌, length, take, replicate, pos, Float}
use Rattle.std.specs.Float.{binary64}
use Rattle.std.specs.Float.Ieee.{of_int}
use Rattle.exact.specs.Doubles.{nought}

-- a count as a double
abbrev pub counted : ℕ → Float
counted n = of_int binary64 (pos n)

-- m numbers: the first of a list, and zeros behind its last
abbrev pub padded : ℕ → List Float → List Float
padded m l = take m (l ++ replicate m nought)

unfoldable pub row_of : ℕ → List Float → List Float → List Float
row_of p c t = counted p ∷ counted (length c) ∷ (padded 32 c ++ padded 38 t)
