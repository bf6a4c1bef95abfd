-- The lines that are lists: names, numbers, or lines behind the line, as many as a count says. Definitions only.
use Rattle.std.specs.Prelude.{ℕ, ◌+◌, ◌-◌, ◌*◌, Bool, true, false, ◌&&◌, not, cond, List, [], ◌∷◌, eqb, ltb, length, drop, Option, Some, None, Float}
use Rattle.decimal.specs.Number.{number_of}
use Rattle.fields.specs.Value.{whole_field, name_field}
use Rattle.fields.specs.Words.{is_word}
use Rattle.job.specs.declared.line.Line.{Line}
use Rattle.job.specs.declared.line.Line.TheVariants.{Syntax, Spline, Crosstalk, Sheet, Mixer, Iir, Fir}
use Rattle.job.specs.Given as given
use Rattle.job.specs.Given.{word}
use Rattle.job.specs.Keys.{crosstalk_word, sheet_word, spline_word, mixer_word, iir_word, fir_word}
use Rattle.job.specs.Keys.{degree_key, controls_key, knots_key}

-- ---- words that are numbers

abbrev pub is_number : Option Float → Bool
is_number (Some x) = true
is_number None = false

unfoldable pub all_numbers : List (List ℕ) → Bool
all_numbers [] = true
all_numbers (w ∷ ws) = is_number (number_of w) && all_numbers ws

-- from word k on
unfoldable pub numbers_from : ℕ → List (List ℕ) → Bool
numbers_from k words = all_numbers (drop k words)

-- whether a word with so many left to pass over is to be a number and is none
unfoldable pub stops_at : ℕ → List ℕ → Bool
stops_at left w = cond (ltb 0 left) false (not (is_number (number_of w)))

-- ---- the lines

-- `mixer N N N N N N`
unfoldable pub mixer_of : List (List ℕ) → Line
mixer_of words = cond (eqb (length words) 7) (cond (numbers_from 1 words) Mixer Syntax) Syntax

-- `WORD COUNT N..`: the count, if so many numbers stand behind it
unfoldable pub counted_of : List (List ℕ) → Option ℕ
counted_of words =
    cond (ltb (length words) 2) None
    (given.whole None (whole_field [] (word words 1)) (λ n.
    cond (eqb (length words - 2) n) (cond (numbers_from 2 words) (Some n) None) None))

abbrev pub iir_by : Option ℕ → Line
iir_by (Some n) = Iir n
iir_by None = Syntax

abbrev pub fir_by : Option ℕ → Line
fir_by (Some n) = Fir n
fir_by None = Syntax

-- `crosstalk N NAME.. FACTOR..`: N names, which may be any words, and N * N factors
unfoldable pub crosstalk_of : List (List ℕ) → Line
crosstalk_of words =
    given.whole Syntax (whole_field [] (word words 1)) (λ n.
    cond (ltb 511 n) Syntax
    (cond (eqb (length words) (n * n + n + 2)) (cond (numbers_from (n + 2) words) (Crosstalk n) Syntax) Syntax))

-- `sheet COUNT`
unfoldable pub sheet_of : List (List ℕ) → Line
sheet_of words = cond (eqb (length words) 2) (given.whole Syntax (whole_field [] (word words 1)) Sheet) Syntax

-- `spline NAME degree=D controls=C knots=K N..`: C controls and K knots, from word 5 on
unfoldable pub spline_of : List (List ℕ) → Line
spline_of words =
    cond (ltb (length words) 5) Syntax
    (given.name Syntax (name_field [] (word words 1)) (λ n.
    given.whole Syntax (whole_field degree_key (word words 2)) (λ d.
    given.whole Syntax (whole_field controls_key (word words 3)) (λ c.
    given.whole Syntax (whole_field knots_key (word words 4)) (λ k.
    cond (eqb (length words - 5) (c + k)) (cond (numbers_from 5 words) (Spline n d c k) Syntax) Syntax)))))

unfoldable pub list_of : List (List ℕ) → Line
list_of words =
    cond (is_word mixer_word (word words 0)) (mixer_of words)
    (cond (is_word iir_word (word words 0)) (iir_by (counted_of words))
    (cond (is_word fir_word (word words 0)) (fir_by (counted_of words))
    (cond (is_word crosstalk_word (word words 0)) (crosstalk_of words)
    (cond (is_word sheet_word (word words 0)) (sheet_of words)
    (cond (is_word spline_word (word words 0)) (spline_of words)
    Syntax)))))
