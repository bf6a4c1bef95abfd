-- The two lone steps, the matrix and the offset, as document 01 has them and document 02's P6 takes them away: words of the law that says what became of
-- them. Definitions only.
use Rattle.std.specs.Prelude.{◌≡◌, Bool, ◌&&◌, cond, List, [], ◌∷◌, ℕ, eqb, length, get_or, Float, Ok, Err}
use Rattle.std.specs.Float.{nan, binary64}
use Rattle.std.specs.Float.Ieee.{add}
use Rattle.std.specs.Float.Ieee.Scale.{finite}
use Rattle.exact.specs.Doubles.{nought, one, plain_zero}
use Rattle.quant.specs.Refusal.{number_of, Answer}
use Rattle.rows.specs.Rows.{rows_fit, all_finite, answer_of, after}
use Rattle.mixer.specs.Mixer.{mixed}

-- sample by sample; the rows are of equal length
unfoldable pub mixed_row : Float → Float → List Float → List Float → List Float
mixed_row m n [] ys = []
mixed_row m n (x ∷ xs) [] = []
mixed_row m n (x ∷ xs) (y ∷ ys) = mixed m n x y ∷ mixed_row m n xs ys

unfoldable pub raised_row : Float → List Float → List Float
raised_row o [] = []
raised_row o (x ∷ xs) = add binary64 x o ∷ raised_row o xs

-- the sizes: two rows and four numbers; as many numbers as rows
abbrev pub iq_fits : ℕ → List Float → List Float → List Float → Bool
iq_fits rows i q m = rows_fit rows (length i) (length q) && eqb rows 2 && eqb (length m) 4

abbrev pub offset_fits : ℕ → List Float → List Float → List Float → Bool
offset_fits rows i q o = rows_fit rows (length i) (length q) && eqb (length o) rows

-- what the matrix alone answered and left; the matrix stands row by row
pub record Iq (rows : ℕ) (i q m : List Float) (r : Answer) (i' q' : List Float) : Type 0 where
  pub answer : r ≡ answer_of (iq_fits rows i q m) (all_finite m)
  pub first : i' ≡ after (answer_of (iq_fits rows i q m) (all_finite m)) (mixed_row (get_or m 0 nan) (get_or m 1 nan) i q) i
  pub second : q' ≡ after (answer_of (iq_fits rows i q m) (all_finite m)) (mixed_row (get_or m 2 nan) (get_or m 3 nan) i q) q

-- what the offset alone answered and left; a second row of no samples had none to raise
pub record Offset (rows : ℕ) (i q o : List Float) (r : Answer) (i' q' : List Float) : Type 0 where
  pub answer : r ≡ answer_of (offset_fits rows i q o) (all_finite o)
  pub first : i' ≡ after (answer_of (offset_fits rows i q o) (all_finite o)) (raised_row (get_or o 0 nan) i) i
  pub second : q' ≡ after (answer_of (offset_fits rows i q o) (all_finite o)) (raised_row (get_or o 1 nan) q) q

-- what both answer together: done where both are; of two refusals the first where it is 13, else the second
abbrev pub jointly : Answer → Answer → Answer
jointly (Ok k) b = b
jointly (Err e) (Ok l) = Err e
jointly (Err e) (Err x) = cond (eqb (number_of e.why) 13) (Err e) (Err x)

-- "callers that want only one give the unit matrix or zeros"
abbrev pub unit_matrix : List Float
unit_matrix = one ∷ nought ∷ nought ∷ one ∷ []

abbrev pub no_offsets : List Float
no_offsets = nought ∷ nought ∷ []

-- what these make of the sample x beside y in the other row: x, but +0 for either zero; NaN where y is not finite
abbrev pub unit_sample : Float → Float → Float
unit_sample x y = cond (finite y) (plain_zero x) nan
