-- The words of the law from a sheet's text to a sampling's lists: what is handed over, and which lists take part with which factors.
-- Definitions only.
use Rattle.std.specs.Prelude.{ℕ, ◌*◌, true, false, cond, ◌≡◌, List, [], ◌∷◌, ◌++◌, Float, length, take, Some}
use Rattle.std.specs.Float.{binary64}
use Rattle.std.specs.Float.Ieee.{of_bits, to_bits, eq}
use Rattle.exact.specs.Doubles.{nought, one}
use Rattle.naming.specs.declared.Name.{Name}
use Rattle.naming.specs.Name.{is_name}
use Rattle.sheet.specs.Sheet.{outcome, answer_of, names_of, matrix_of, Sheet}
use Rattle.sheet_laws.specs.Words.{In, Reads, Stands, count_in, Entry}
use Rattle.tables.specs.declared.Tables.{Tables}
use Rattle.tables.specs.Tables.{found, channel_at}
use Rattle.merge.specs.Taking.{Part, part, parts_in}
use Rattle.crosstalk.specs.declared.names.Crosstalk.{Crosstalk}
use Rattle.crosstalk.specs.Crosstalk.{is_known, part_of, planned, is_refused, taking_of}

-- ---- from the reader to the sampling call

-- the sampling call gets what was read: the count N, the names, and the first N*N numbers; more may be lent
pub record Handed (text : List ℕ) (before : List Float) (c : Crosstalk) (factors : List Float) : Type 0 where
  pub count : c.count ≡ count_in (answer_of (outcome text (length before)))
  pub names : c.names ≡ names_of (outcome text (length before))
  pub numbers : take (c.count * c.count) factors ≡ take (c.count * c.count) (matrix_of (outcome text (length before)) before)

-- a text is read, holds the sheet s, and is handed over
pub record Given (text : List ℕ) (before : List Float) (s : Sheet) (c : Crosstalk) (factors : List Float) : Type 0 where
  pub reads : Reads text (length before) s
  pub handed : Handed text before c factors

-- the plan for the channel r is not refused
abbrev pub Planned : Tables → Name → Crosstalk → List Float → Type 0
Planned t r c factors = (is_refused (planned t r c factors)) ≡ false

-- the lists that take part in a sampling of the channel r, each with its factor
abbrev pub parts : Tables → Name → Crosstalk → List Float → List Part
parts t r c factors = parts_in (taking_of (planned t r c factors))

-- the channel's name is a good one, and the tables have it and every column of the sheet
pub record AllKnown (s : Sheet) (t : Tables) (r : Name) : Type 0 where
  pub good : is_name r ≡ true
  pub channel : is_known (found t r) ≡ true
  pub columns : (c : Name) → In c s.columns → is_known (found t c) ≡ true

-- ---- a channel that the sheet names

-- not zero as a double: "factor 0 skips a list", of either sign
abbrev pub Counts : ℕ → Type 0
Counts bits = eq (of_bits binary64 bits) nought ≡ false

-- a part is a column's: the tables have the column's channel, by its name, at the part's place, and the factor has the bits that stand in the text
-- under the row r at that column
pub record FromColumn (s : Sheet) (t : Tables) (r : Name) (p : Part) : Type 0 where
  pub column : Name
  pub bits : ℕ
  pub stands : Stands s r column bits
  pub place : found t column ≡ Some p.place
  pub named : (channel_at t p.place).name ≡ column
  pub factor : to_bits binary64 p.factor ≡ bits
  pub counts : Counts bits

-- one part is at a place, with a factor, and no other is there
pub record OnceAt (place : ℕ) (factor : Float) (ps : List Part) : Type 0 where
  pub earlier : List Part
  pub later : List Part
  pub split : ps ≡ earlier ++ part place factor ∷ later
  pub no_other : (p : Part) → In p (earlier ++ later) → p.place ≡ place → ⊥

-- a column has its part, once, at its place in the tables
pub record HasPart (t : Tables) (column : Name) (bits : ℕ) (ps : List Part) : Type 0 where
  pub place : ℕ
  pub found_at : found t column ≡ Some place
  pub once : OnceAt place (of_bits binary64 bits) ps

-- the parts are the columns whose factor under the row r is not zero: each part is such a column's, and each such column has one, once
pub record TakesRow (s : Sheet) (t : Tables) (r : Name) (ps : List Part) : Type 0 where
  pub from-sheet : (p : Part) → In p ps → FromColumn s t r p
  pub each-column : (c : Name) (bits : ℕ) → Stands s r c bits → Counts bits → HasPart t c bits ps
  pub zero-skips : (c : Name) (bits : ℕ) → Stands s r c bits → eq (of_bits binary64 bits) nought ≡ true → (p : Part) → In p ps → found t c ≡ Some p.place → ⊥

-- ---- a channel that it does not name: its own list alone, with factor 1
pub record TakesOwn (t : Tables) (r : Name) (ps : List Part) : Type 0 where
  pub place : ℕ
  pub found_at : found t r ≡ Some place
  pub alone : ps ≡ part place one ∷ []

-- ---- the parts in the order of the columns

-- the entries of a row whose factor is not zero
unfoldable pub counted : List Entry → List Entry
counted [] = []
counted (e ∷ es) = cond (eq (of_bits binary64 e.bits) nought) (counted es) (e ∷ counted es)

-- their parts: the place of each column in the tables, with its factor
unfoldable pub placed : Tables → List Entry → List Part
placed t [] = []
placed t (e ∷ es) = part_of (found t e.column) (of_bits binary64 e.bits) (placed t es)

-- ---- the parts by name: where the tables hold the same channels in other places, the places differ and these pairs do not

-- a channel's name and its factor
pub record Pair : Type 0 where
  pub name : Name
  pub factor : Float

abbrev pub pair : Name → Float → Pair
pair n x = record { name = n; factor = x }

-- the name that the tables have at each part's place, with the part's factor
unfoldable pub pairs_of : Tables → List Part → List Pair
pairs_of t [] = []
pairs_of t (p ∷ ps) = pair (channel_at t p.place).name p.factor ∷ pairs_of t ps

-- each column with its double
unfoldable pub pairs_from : List Entry → List Pair
pairs_from [] = []
pairs_from (e ∷ es) = pair e.column (of_bits binary64 e.bits) ∷ pairs_from es
