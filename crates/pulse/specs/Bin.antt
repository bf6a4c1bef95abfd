-- Document 01, "Lists and merging": "A bin is envelope, global and local frequency, compared by value"; request P1: "two splines are the same shape when
-- all their numbers are equal". A bin lies in a row of 77 numbers: its head (the shape's code, width, plateau, global and local frequency), and the 72
-- numbers of its spline, zeros for another shape. Definitions only.
use Rattle.std.specs.Prelude.{ℕ, suc, ◌≡◌, Bool, true, false, not, ◌&&◌, ◌||◌, cond, List, [], ◌∷◌, ◌++◌, Float, get_or, take, drop, replicate}
use Rattle.std.specs.Float.Ieee.{eq, lt}
use Rattle.std.specs.Float.{nan}
use Rattle.std.specs.Float.Ieee.Scale.{finite}
use Rattle.exact.specs.Doubles.{nought, one, two}
use Rattle.spline.specs.Same.{same_numbers}
use Rattle.pulse.specs.declared.bin.Bin.{Bin}
use Rattle.pulse.specs.declared.envelope.Shape.{Shape}
use Rattle.pulse.specs.declared.envelope.Shape.TheVariants.{Plain, Hann, Spline}
use Rattle.pulse.specs.Envelope.{parts, is_shaped}

-- no shape is 0, Hann 1, a spline 2
abbrev pub code_of : Shape → Float
code_of Plain = nought
code_of Hann = one
code_of Spline = two

-- any other code is no shape
abbrev pub shape_of : Float → Shape
shape_of x = cond (eq x one) Hann (cond (eq x two) Spline Plain)

-- the numbers of a shape that is no spline
abbrev pub no_numbers : List Float
no_numbers = replicate 72 nought

-- a bin's head, and its row
abbrev pub head_of : Bin → List Float
head_of b = code_of b.envelope.shape ∷ b.envelope.width.0 ∷ b.envelope.plateau.0 ∷ b.global.0 ∷ b.local.0 ∷ []

abbrev pub row_of : Bin → List Float → List Float
row_of b numbers = head_of b ++ numbers

-- the bin that a row stands for, and the numbers of its spline
abbrev pub bin_of : List Float → Bin
bin_of row =
    record {
      envelope = parts (shape_of (get_or row 0 nan)) (get_or row 1 nan) (get_or row 2 nan);
      global = record { 0 = get_or row 3 nan };
      local = record { 0 = get_or row 4 nan };
    }

abbrev pub numbers_of : List Float → List Float
numbers_of row = drop 5 row

-- what a name stands for, by its row of 72 numbers: a spline has controls
abbrev pub kind_of : List Float → Shape
kind_of numbers = cond (eq (get_or numbers 1 nan) nought) Hann Spline

-- compared by value: each number of the head with the double's own equality, so that 0 and -0 are one; of a spline each of its numbers too
unfoldable pub same_row : List Float → List Float → Bool
same_row a b = same_numbers (take 5 a) (take 5 b) && (not (eq (get_or b 0 nan) two) || same_numbers (numbers_of a) (numbers_of b))

-- how many rows stand before the first that is the same; all of them where none is
unfoldable pub place_of : List Float → List (List Float) → ℕ
place_of row [] = 0
place_of row (r ∷ rs) = cond (same_row r row) 0 (suc (place_of row rs))

-- A bin as plays leave it, by refusals 2, 6 and 8: its numbers are finite, and neither width nor plateau is below 0; and "width 0 then drops the
-- shape". A plateau may be -0.
pub record GoodBin (b : Bin) : Type 0 where
  pub finite-width : finite b.envelope.width.0 ≡ true
  pub finite-plateau : finite b.envelope.plateau.0 ≡ true
  pub finite-global : finite b.global.0 ≡ true
  pub finite-local : finite b.local.0 ≡ true
  pub width : lt b.envelope.width.0 nought ≡ false
  pub plateau : lt b.envelope.plateau.0 nought ≡ false
  pub shaped : is_shaped b.envelope.shape ≡ true → eq b.envelope.width.0 nought ≡ false
