-- What a line of a job does to the crosstalk, and where the job goes on. Definitions only.
use Rattle.std.specs.Prelude.{◌≡◌, ℕ, ◌+◌, ◌≤◌, List, length, drop, ◌≢◌, Float}
use Rattle.crosstalk.specs.declared.names.Crosstalk.{Crosstalk}
use Rattle.job.specs.declared.line.Line.{Line}
use Rattle.job.specs.declared.line.Line.TheVariants.{Sheet}
use Rattle.job_sheet.specs.declared.Taken.{Taken}
use Rattle.job_sheet.specs.Inset.{fewer, Took, Within}
use Rattle.bench.specs.declared.state.State.{State}
use Rattle.bench.specs.declared.steps.Told.{Told}

abbrev pub with_crosstalk : State → Crosstalk → State
with_crosstalk s c = record { tables = s.tables; rows = s.rows; length = s.length; gathered = s.gathered; crosstalk = c }

-- the line is no line of a sheet
abbrev pub NoSheet : Line → Type 0
NoSheet said = (count : ℕ) → said ≢ Sheet count

-- a line of a sheet leaves the factors to the sheet
abbrev pub Leaves : Line → List Float → List Float → Type 0
Leaves said before after = (count : ℕ) → said ≡ Sheet count → after ≡ before

-- what is taken of the lines behind a line, with the crosstalk before and after the line itself: of `sheet COUNT` the COUNT lines, as `take_sheet` promises
-- of the crosstalk before it; of any other line nothing
pub record TookBy (said : Line) (behind : List ℕ) (c d : Crosstalk) (before : List Float) (r : Taken) (after : List Float) : Type 0 where
  pub sheet : (count : ℕ) → said ≡ Sheet count → Took behind count c before r after
  pub other : NoSheet said → r ≡ fewer d
  pub within : Within r behind

-- behind a line that ends at a place of a text, and behind so many lines more, the job goes on at the next place, or has ended
pub record GoesOn (length end lines next : ℕ) : Type 0 where
  pub lines-passed : end + 1 + lines ≤ next
  pub near : next ≤ length + 1

-- a line that ends at a place of a job: the crosstalk then is what was taken, from the crosstalk and the factors before the line; and the job goes on behind the
-- lines that were taken, or right behind the line
pub record Tells (said : Line) (text : List ℕ) (end : ℕ) (c : Crosstalk) (before : List Float) (r : Told) (after : List Float) : Type 0 where
  pub taken : Taken
  pub sheet : (count : ℕ) → said ≡ Sheet count → Took (drop (end + 1) text) count c before taken after
  pub crosstalk : r.state.crosstalk ≡ taken.crosstalk
  pub lines : r.lines ≡ taken.lines
  pub next : r.next ≡ end + 1 + taken.bytes
  pub other : NoSheet said → (r.lines ≡ 0) × (r.next ≡ end + 1)
  pub goes_on : GoesOn (length text) end r.lines r.next
