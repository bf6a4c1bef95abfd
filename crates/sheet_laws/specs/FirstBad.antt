-- The words for what a sheet's refusal tells: its first bad line, and when that is 17 or 19. Definitions only.
use Rattle.std.specs.Prelude.{ℕ, ◌+◌, ◌*◌, ◌≤◌, ◌<◌, ◌≡◌, true, List, [], ◌∷◌, ◌++◌, length}
use Rattle.naming.specs.Name.{is_name, bytes_of}
use Rattle.naming.specs.declared.Name.{Name}
use Rattle.quant.specs.declared.refusal.Refusal.{Refusal}
use Rattle.quant.specs.declared.refusal.Refusal.TheVariants.{Layout}
use Rattle.sheet.specs.Sheet.{column_key, row_key, cut, SoFar, nothing, goes, stops, step, complete}
use Rattle.sheet_laws.specs.Words.{In}

-- ---- the first bad line

-- lines that are taken one after the other, from what was said before them to what is said behind them
pub data AllTaken : SoFar → List (List ℕ) → SoFar → Type 0 where
  no_line : {s : SoFar} → AllTaken s [] s
  a-line : {s t u : SoFar} {line : List ℕ} {lines : List (List ℕ)} → step s line ≡ goes t → AllTaken t lines u → AllTaken s (line ∷ lines) u

-- the line at a place of a text, from 1, has a fault behind what the lines before it said, and every one of these is taken
pub record FirstLine (Fault : SoFar → List ℕ → Type 0) (text : List ℕ) (place : ℕ) : Type 0 where
  pub before : List (List ℕ)
  pub line : List ℕ
  pub after : List (List ℕ)
  pub said : SoFar
  pub lines : (cut text).whole ≡ before ++ line ∷ after
  pub taken : AllTaken nothing before said
  pub bad : Fault said line
  pub place_is : place ≡ length before + 1

-- every line of a text is taken, but one is missing or bytes without an LF follow; the line that starts there is the bad one
pub record BadEnd (text : List ℕ) (place : ℕ) : Type 0 where
  pub said : SoFar
  pub taken : AllTaken nothing (cut text).whole said
  pub bad : complete said ≡ true → (cut text).rest ≡ [] → ⊥
  pub place_is : place ≡ length (cut text).whole + 1

-- the first bad line of a text, and why it is bad: it is refused, or the end is bad, which is 15
pub data FirstBad (text : List ℕ) (r : Refusal) (place : ℕ) : Type 0 where
  bad-line : FirstLine (λ s line. step s line ≡ stops r) text place → FirstBad text r place
  bad-end : r ≡ Layout → BadEnd text place → FirstBad text r place

-- ---- a line that is doubled, or no column

-- a column's line is due: the count was said, and a column is missing
pub record ColumnDue (s : SoFar) : Type 0 where
  pub counted : 1 ≤ s.count
  pub missing : length s.columns < s.count

-- a row's line is due: the columns are all there, so are the factors of the rows before it, and a row is missing
pub record RowDue (s : SoFar) : Type 0 where
  pub counted : 1 ≤ s.count
  pub columned : s.count ≤ length s.columns
  pub filled : length s.rows * s.count ≤ length s.factors
  pub missing : length s.rows < s.count

-- a line is a key and a name
pub record NameLine (key line : List ℕ) (n : Name) : Type 0 where
  pub good : is_name n ≡ true
  pub line-is : line ≡ key ++ bytes_of n

-- a line behind what was said: a column that is one of the columns, or a row that is one of the rows
pub data DoubledLine (s : SoFar) (line : List ℕ) : Type 0 where
  doubled-column : (n : Name) → ColumnDue s → NameLine column_key line n → In n s.columns → DoubledLine s line
  doubled-row : (n : Name) → RowDue s → NameLine row_key line n → In n s.rows → DoubledLine s line

-- a line behind what was said: a row that is none of the rows, and none of the columns
pub record NoColumnLine (s : SoFar) (line : List ℕ) : Type 0 where
  pub name : Name
  pub due : RowDue s
  pub row : NameLine row_key line name
  pub no_row : In name s.rows → ⊥
  pub no-column : In name s.columns → ⊥
