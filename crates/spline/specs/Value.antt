-- Request P1: "Outside the knot domain the value is 0"; "in sampling, 8 also where a step of the recurrence at a point taken is not finite".
-- Definitions only.
use Rattle.std.specs.Prelude.{◌≡◌, ℕ, Bool, true, cond, ◌&&◌, List, length, ◌==◌, slice_index_or, Float}
use Rattle.std.specs.Float.{nan}
use Rattle.ieee.specs.Cut.{cut_of}
use Rattle.ieee.specs.declared.cut.Cut.{Cut}
use Rattle.ieee.specs.declared.cut.Cut.TheVariants as cut
use Rattle.exact.specs.Doubles.{nought}
use Rattle.spline.specs.Spline.{sizes_fit, in_domain, span_at, d_at, fine_at}

-- the whole number that a row holds as a double; 0 for a double that holds none
abbrev pub number_of : Cut → ℕ
number_of (cut.Index n) = n
number_of cut.Below = 0
number_of cut.Above = 0
number_of cut.NotANumber = 0

unfoldable pub whole_of : Float → ℕ
whole_of x = number_of (cut_of x)

-- the degree and the count of controls that a row tells
abbrev pub degree_in : List Float → ℕ
degree_in row = whole_of (slice_index_or row 0 nan)

abbrev pub count_in : List Float → ℕ
count_in row = whole_of (slice_index_or row 1 nan)

-- ---- of a degree and a count that fit

-- "The value is d[p]"; "Outside: +0"
unfoldable pub spline_at : List Float → ℕ → ℕ → Float → Float
spline_at row p n x = cond (in_domain row p n x) (d_at row p (span_at row p n x) x p p) nought

-- whether no step on the way meets 8; outside there is none
unfoldable pub spline_fine : List Float → ℕ → ℕ → Float → Bool
spline_fine row p n x = cond (in_domain row p n x) (fine_at row p (span_at row p n x) x p p) true

-- ---- of any row: one that tells no spline's sizes, as one of zeros, or has not 72 numbers, is 0 everywhere

abbrev pub tells : List Float → Bool
tells row = length row == 72 && sizes_fit (degree_in row) (count_in row)

-- of a row q, a degree and a count of controls: those of a row that tells them
pub record Told (row q : List Float) (p n : ℕ) : Type 0 where
  pub same : q ≡ row
  pub degree : p ≡ degree_in row
  pub count : n ≡ count_in row
  pub told : tells row ≡ true

unfoldable pub value_in : List Float → Float → Float
value_in row x = cond (tells row) (spline_at row (degree_in row) (count_in row) x) nought

unfoldable pub fine_in : List Float → Float → Bool
fine_in row x = cond (tells row) (spline_fine row (degree_in row) (count_in row) x) true

-- no point meets 8
abbrev pub AlwaysFine : List Float → Type 0
AlwaysFine row = (x : Float) → fine_in row x ≡ true
