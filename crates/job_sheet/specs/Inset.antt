-- The job text, `sheet COUNT`: "the COUNT lines behind it, as they stand, with their line feeds, are a sheet. Accepted, its names and matrix are the
-- crosstalk of the samplings that follow; refused, the crosstalk stays; the job goes on behind those lines. A COUNT past the job's end: `syntax`, and
-- the lines behind are read as job lines." Definitions only.
use Rattle.quant.specs.Refusal.{Answer}
use Rattle.std.specs.Prelude.{ℕ, ◌≤◌, ◌≡◌, List, Float, length, take, Option, Some, None, Ok, Err}
use Rattle.naming.specs.declared.Name.{Name}
use Rattle.sheet.specs.Sheet.{outcome, answer_of, names_of, matrix_of}
use Rattle.crosstalk.specs.declared.names.Crosstalk.{Crosstalk}
use Rattle.job_sheet.specs.declared.Taken.{Taken}
use Rattle.job_sheet.specs.First.{first_of}

-- what was read becomes the crosstalk; a refused sheet leaves it
abbrev pub crosstalk_after : Crosstalk → Answer → List Name → Crosstalk
crosstalk_after c (Ok count) names = record { count = count; names = names }
crosstalk_after c (Err e) names = c

-- so many lines and bytes were read as a sheet
abbrev pub sheeted : ℕ → ℕ → Crosstalk → Answer → List Name → Taken
sheeted lines bytes c answer names = record { inset = Some answer; crosstalk = crosstalk_after c answer names; lines = lines; bytes = bytes }

-- nothing was
abbrev pub fewer : Crosstalk → Taken
fewer c = record { inset = None; crosstalk = c; lines = 0; bytes = 0 }

-- the answer, the crosstalk, and what the job goes on behind
unfoldable pub taken_of : List ℕ → ℕ → Crosstalk → ℕ → Option ℕ → Taken
taken_of behind count c numbers (Some n) = let o = outcome (take n behind) numbers in sheeted count n c (answer_of o) (names_of o)
taken_of behind count c numbers None = fewer c

-- the factors afterwards
unfoldable pub factors_after : List ℕ → List Float → Option ℕ → List Float
factors_after behind before (Some n) = matrix_of (outcome (take n behind) (length before)) before
factors_after behind before None = before

-- what `take_sheet` answers and leaves
pub record Took (behind : List ℕ) (count : ℕ) (c : Crosstalk) (before : List Float) (r : Taken) (after : List Float) : Type 0 where
  pub taken : r ≡ taken_of behind count c (length before) (first_of count behind)
  pub left : after ≡ factors_after behind before (first_of count behind)

-- the lines and the bytes that were gone over are lines and bytes of what is behind, and each line has a byte
pub record Within (r : Taken) (behind : List ℕ) : Type 0 where
  pub lines : r.lines ≤ r.bytes
  pub bytes : r.bytes ≤ length behind
