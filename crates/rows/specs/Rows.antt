-- Rows of samples, as the steps on them take them. Definitions only.
use Rattle.quant.specs.Refusal.{Answer, refuse}
use Rattle.std.specs.Prelude.{ℕ, Bool, true, false, ◌&&◌, cond, List, [], ◌∷◌, leb, eqb, Float, Ok, Err}
use Rattle.std.specs.Float.Ieee.Scale.{finite}
use Rattle.quant.specs.declared.refusal.Refusal.TheVariants.{Malformed, WrongSize}

-- one row, and then the second has no samples, or two of equal length; at most 65,536 samples
abbrev pub rows_fit : ℕ → ℕ → ℕ → Bool
rows_fit rows i q = leb i 65536 && cond (eqb rows 1) (eqb q 0) (cond (eqb rows 2) (eqb i q) false)

unfoldable pub all_finite : List Float → Bool
all_finite [] = true
all_finite (x ∷ xs) = finite x && all_finite xs

-- the order of a step's refusals: 13 for sizes, then 2 for a number that is not finite; both before any sample changes
abbrev pub answer_of : Bool → Bool → Answer
answer_of false fine = refuse WrongSize 0
answer_of true false = refuse Malformed 0
answer_of true true = Ok 0

-- a row after a step, by what the step answers: as it came where it is refused
abbrev pub after : Answer → List Float → List Float → List Float
after (Ok count) new old = new
after (Err e) new old = old
