-- The six laws of the crosstalk sheet (document 01, "The sheet"). `outcome text numbers` is what `read` promises for a text and a lent
-- matrix of so many numbers: its answer, the names and the matrix afterwards are `answer_of`, `names_of` and `matrix_of` of it. A sheet as
-- data is its columns and its blocks, each a row's name and its factors' bits; `Reads text numbers s` says that the text is accepted and
-- holds the sheet s. The other words are in specs/Words.antt and specs/FirstBad.antt, and the proofs in the files named below. Assumes
-- nothing.
use Prim.Native.Nat.{ℕ, ◌≤◌}
use mathlib.Core.Path.{◌≡◌, sym, ◌∙◌}
use mathlib.Core.List.{List}
use mathlib.Core.Logic.{◌↔◌}
use lib.Ieee.{Float, binary64, of_bits}
use lib.ListN.{length}
use Rattle.naming.specs.declared.Name.{Name}
use Rattle.quant.specs.declared.refusal.Refusal.{Refusal}
use Rattle.quant.specs.declared.refusal.Refusal.TheVariants.{WrongSize, DoubledName, NoList, NoColumn}
use Rattle.sheet.specs.declared.read.Reading.{Reading}
use Rattle.sheet.specs.Sheet.{SoFar, stops, step, accepts, refuses, outcome, matrix_of, Read, Sheet, WellFormed, sheet_text}
use Rattle.sheet_laws.specs.FirstBad.{FirstLine, FirstBad, DoubledLine, NoColumnLine}
use Rattle.sheet_laws.specs.Words.{In, Permuted, contents, sheet_read, Reads, EachOnce, Stands, factor_for, factor_read, SameUpToOrder, PrintedBack}
use Rattle.sheet_laws.proofs.Accepted as Accepted
use Rattle.sheet_laws.proofs.Factors as Factors
use Rattle.sheet_laws.proofs.FirstBad as FirstBad
use Rattle.sheet_laws.proofs.Once as Once
use Rattle.sheet_laws.proofs.Only as Only
use Rattle.sheet_laws.proofs.Printing as Printing
use Rattle.sheet_laws.proofs.Rows as Rows

-- ---- 1. What was read is printed back; what is printed reads to the same; and reading and printing that changes nothing more.

pub printed-back : (text : List ℕ) (before : List Float) (t : SoFar) → outcome text (length before) ≡ accepts t → PrintedBack text before (sheet_read t)
printed-back text before t e = Printing.printed-back text before (sheet_read t) (Only.reads text (length before) t e)

-- ---- 2. Two accepted sheets with the same columns, whose row blocks stand in any other order, give the same matrix.

pub row-order-says-nothing : (a b : List ℕ) (before : List Float) (s t : Sheet) → Reads a (length before) s → Reads b (length before) t
    → s.columns ≡ t.columns → Permuted s.blocks t.blocks
    → matrix_of (outcome a (length before)) before ≡ matrix_of (outcome b (length before)) before
row-order-says-nothing = Rows.same-matrix

-- ---- 3. The factor found for a row's name and a column's name is the number that stands under that row at that column's place.

pub factor-is_what_stands : (text : List ℕ) (before : List Float) (s : Sheet) (r c : Name) (bits : ℕ) → Reads text (length before) s → Stands s r c bits
    → factor_read text before r c ≡ of_bits binary64 bits
factor-is_what_stands = Factors.factor-stands

-- One number stands there for every two names of the sheet, and one only.

pub one-stands : (text : List ℕ) (numbers : ℕ) (s : Sheet) (r c : Name) → Reads text numbers s → In r s.columns → In c s.columns
    → (bits : ℕ) × Stands s r c bits
one-stands text numbers s r c read = Factors.stands s read.formed r c

pub no-other-stands : (text : List ℕ) (numbers : ℕ) (s : Sheet) (r c : Name) (bits other : ℕ) → Reads text numbers s → Stands s r c bits → Stands s r c other
    → bits ≡ other
no-other-stands text numbers s r c bits other read one two =
    sym (Factors.number_is s read.formed r c bits one) ∙ Factors.number_is s read.formed r c other two

-- So neither the order of the columns, with their factors, nor that of the rows changes the factor of any two names.

pub order-says-nothing : (a b : List ℕ) (before after : List Float) (s t : Sheet) (r c : Name) → Reads a (length before) s → Reads b (length after) t
    → SameUpToOrder s t → In r s.columns → In c s.columns → factor_read a before r c ≡ factor_read b after r c
order-says-nothing = Factors.any_order

-- The same of a call of `read` that keeps its promise, whatever it answers and leaves.

pub factor_as_promised : (text : List ℕ) (before after : List Float) (answer : Reading) (s : Sheet) (r c : Name) (bits : ℕ)
    → Read text before answer after → Reads text (length before) s → Stands s r c bits
    → factor_for answer.answer answer.names after r c ≡ of_bits binary64 bits
unfolding factor_read
factor_as_promised text before after answer s r c bits kept read st =
    rw (kept.answered, kept.named, kept.left) (factor-is_what_stands text before s r c bits read st)

-- ---- 4. An accepted sheet names each row and each column exactly once: no name is doubled, no row is no column, no column lacks its row.

pub each-named-once : (text : List ℕ) (numbers : ℕ) (t : SoFar) → outcome text numbers ≡ accepts t → EachOnce t
each-named-once = Once.named-once

-- ---- 5. Every sheet that follows the layout, with good names and finite factors, is accepted, with exactly its columns, rows and factors.

pub every-sheet-is-read : (s : Sheet) (numbers : ℕ) → WellFormed s → 64 ≤ numbers → outcome (sheet_text s) numbers ≡ accepts (contents s)
every-sheet-is-read s numbers w room = Accepted.accepted s w numbers room

-- And nothing else is: an accepted text is, byte for byte, the text of such a sheet, and of one only.

pub nothing-else-is-read : (text : List ℕ) (numbers : ℕ) (t : SoFar) → outcome text numbers ≡ accepts t → Reads text numbers (sheet_read t)
nothing-else-is-read = Only.reads

pub as_one-sheet-only : (text : List ℕ) (m n : ℕ) (s t : Sheet) → Reads text m s → Reads text n t → s ≡ t
as_one-sheet-only text m n s t a b = Only.one-sheet s t a.formed b.formed (sym a.text-is ∙ b.text-is)

-- ---- 6. A sheet's refusal tells its first bad line, and why it is bad; wrong sizes come before all lines.

pub first-bad-line-is-told : (text : List ℕ) (numbers : ℕ) (r : Refusal) (place : ℕ) → length text ≤ 4096 → 64 ≤ numbers
    → (outcome text numbers ≡ refuses r place) ↔ FirstBad text r place
first-bad-line-is-told = FirstBad.first-bad-told

pub wrong-sizes-are-told : (text : List ℕ) (numbers : ℕ) → (length text ≤ 4096 → 64 ≤ numbers → ⊥) → outcome text numbers ≡ refuses WrongSize 0
wrong-sizes-are-told = FirstBad.wrong-sizes

-- A line is refused by 17 exactly where it is doubled, by 19 exactly where it is a row that is no column, and never by 18.

pub doubled-line : (s : SoFar) (line : List ℕ) → (step s line ≡ stops DoubledName) ↔ DoubledLine s line
doubled-line = FirstBad.doubled-exactly

pub no-column-line : (s : SoFar) (line : List ℕ) → (step s line ≡ stops NoColumn) ↔ NoColumnLine s line
no-column-line = FirstBad.no-column-exactly

pub no-list-line : (s : SoFar) (line : List ℕ) → step s line ≡ stops NoList → ⊥
no-list-line = FirstBad.no-list-never

-- So 17 is told exactly where the first bad line is doubled, 19 exactly where it is a row that is no column, and 18 never.

pub doubled-told : (text : List ℕ) (numbers place : ℕ) → length text ≤ 4096 → 64 ≤ numbers
    → (outcome text numbers ≡ refuses DoubledName place) ↔ FirstLine DoubledLine text place
doubled-told = FirstBad.doubled-told

pub no-column-told : (text : List ℕ) (numbers place : ℕ) → length text ≤ 4096 → 64 ≤ numbers
    → (outcome text numbers ≡ refuses NoColumn place) ↔ FirstLine NoColumnLine text place
no-column-told = FirstBad.no-column-told

pub never-no-list : (text : List ℕ) (numbers place : ℕ) → outcome text numbers ≡ refuses NoList place → ⊥
never-no-list = FirstBad.never-no-list
