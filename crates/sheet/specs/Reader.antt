-- The reader's state tied to what the lines so far have said, and what each of the reader's functions answers. Definitions only.
use Rattle.std.specs.Prelude.{ℕ, ◌-◌, ◌*◌, ◌≤◌, Bool, true, false, List, [], ◌≡◌, length, take, drop, replicate}
use Rattle.sheet.specs.Sheet.{Behind, value, other, behind, SoFar, Step, goes, stops, Outcome, accepts, refuses, cut, read_from, complete, single, among, blank, answer_of, names_of}
use Rattle.sheet.specs.declared.read.Parsed.{Parsed}
use Rattle.sheet.specs.declared.read.Reading.{Reading}
use Rattle.sheet.specs.declared.state.State.{State}
use Rattle.sheet.specs.declared.state.Stepped.{Stepped}
use Rattle.sheet.specs.declared.state.Verdict.{Verdict}
use Rattle.sheet.specs.declared.state.Verdict.TheVariants.{Good, Bad}

-- ---- a line's key

-- a line parted at a key, by whether it starts with it
abbrev pub parted : Bool → List ℕ → List ℕ → Behind
parted true key line = value (drop (length key) line)
parted false key line = other

-- what the test of a key answers
pub record Starts (key line : List ℕ) (r : Bool) : Type 0 where
  pub parts : behind key line ≡ parted r key line
  pub within : r ≡ true → length key ≤ length line

-- ---- the state

-- the first so many of each array
abbrev pub so_far : State → SoFar
so_far s =
    record {
      count = s.count;
      columns = take s.column s.columns;
      rows = take s.row s.rows;
      factors = take s.factor s.factors;
    }

-- what the first line says
abbrev pub begun : ℕ → SoFar
begun count = record { count = count; columns = []; rows = []; factors = [] }

-- what holds of every state on the way: the sizes, blanks behind the columns, and rows that are columns, each once
pub record Fits (s : State) : Type 0 where
  pub most : s.count ≤ 8
  pub columns-most : s.column ≤ s.count
  pub rows-most : s.row ≤ s.count
  pub factors-most : s.factor ≤ s.row * s.count
  pub columns-long : length s.columns ≡ 8
  pub rows_long : length s.rows ≡ 8
  pub factors-long : length s.factors ≡ 64
  pub blanks : drop s.column s.columns ≡ replicate (8 - s.column) blank
  pub single-rows : single (take s.row s.rows) ≡ true
  pub rows-columns : among (take s.column s.columns) (take s.row s.rows) ≡ true

-- what the state after a line that says the count is
pub record Begins (r : State) (count : ℕ) : Type 0 where
  pub is : so_far r ≡ begun count
  pub fits : Fits r

-- ---- one line

-- a verdict and a state as a step
abbrev pub told : Verdict → State → Step
told Good s = goes (so_far s)
told (Bad r) s = stops r

-- what a function that takes a line answers
pub record Steps (r : Stepped) (to : Step) : Type 0 where
  pub is : told r.verdict r.state ≡ to
  pub fits : Fits r.state

-- ---- a text

-- the lines of a text, from the one numbered `place` on
abbrev pub read_text : ℕ → SoFar → List ℕ → Outcome
read_text place s text = read_from place s (cut text).whole (cut text).rest

-- a verdict, a line and a state as an outcome
abbrev pub ends : Verdict → ℕ → State → Outcome
ends Good line s = accepts (so_far s)
ends (Bad r) line s = refuses r line

-- what a function that takes the lines answers; a state that is told good is complete
pub record Parses (r : Parsed) (to : Outcome) : Type 0 where
  pub is : ends r.verdict r.line r.state ≡ to
  pub fits : Fits r.state
  pub whole : r.verdict ≡ Good → complete (so_far r.state) ≡ true

-- what comes back of an outcome, but for the matrix
pub record Answers (r : Reading) (of : Outcome) : Type 0 where
  pub answered : r.answer ≡ answer_of of
  pub named : r.names ≡ names_of of
