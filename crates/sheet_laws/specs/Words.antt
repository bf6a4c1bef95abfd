-- The words in which the laws of the sheet are stated. Definitions only.
use Rattle.quant.specs.Refusal.{Answer}
use Rattle.std.specs.Prelude.{ℕ, ◌+◌, ◌*◌, ◌≤◌, true, ◌≡◌, ◌↔◌, List, [], ◌∷◌, ◌++◌, Float, length, take, drop, get_or, Ok, Err}
use Rattle.exact.specs.Doubles.{nought}
use Rattle.naming.specs.declared.Name.{Name}
use Rattle.sheet.specs.Sheet.{position, SoFar, accepts, outcome, answer_of, names_of, matrix_of, Block, Sheet, row_names, single, WellFormed, sheet_text, sheet_of, printed_of, bytes_after}

-- ---- lists

-- a is one of a list
pub data In {A : Type 0} (a : A) : List A → Type 0 where
  here : {l : List A} → In a (a ∷ l)
  there : {b : A} {l : List A} → In a l → In a (b ∷ l)

-- the same elements, each as often, in any order
pub data Permuted {A : Type 0} : List A → List A → Type 0 where
  nil : Permuted [] []
  keep : {a : A} {l m : List A} → Permuted l m → Permuted (a ∷ l) (a ∷ m)
  swap : {a b : A} {l : List A} → Permuted (a ∷ b ∷ l) (b ∷ a ∷ l)
  then : {l m n : List A} → Permuted l m → Permuted m n → Permuted l n

-- ---- what is read of a sheet

-- the factors of some blocks, one block after the other
unfoldable pub factors_of : List Block → List ℕ
factors_of [] = []
factors_of (b ∷ bs) = b.factors ++ factors_of bs

-- exactly the columns, rows and factors of a sheet, in the order of its lines
unfoldable pub contents : Sheet → SoFar
contents s = record { count = length s.columns; columns = s.columns; rows = row_names s.blocks; factors = factors_of s.blocks }

-- ---- the sheet that was read

-- rows with their factors, so many to a row
unfoldable pub blocks_from : ℕ → List Name → List ℕ → List Block
blocks_from count [] factors = []
blocks_from count (n ∷ ns) factors = record { row = n; factors = take count factors } ∷ blocks_from count ns (drop count factors)

-- the columns, and each row with its factors, as they stood in the text
unfoldable pub sheet_read : SoFar → Sheet
sheet_read t = record { columns = t.columns; blocks = blocks_from t.count t.rows t.factors }

-- a text is read into a matrix of so many numbers, and s is the sheet that it holds; every accepted text holds one, and one only (law 5)
pub record Reads (text : List ℕ) (numbers : ℕ) (s : Sheet) : Type 0 where
  pub room : 64 ≤ numbers
  pub formed : WellFormed s
  pub text-is : text ≡ sheet_text s
  pub answered : outcome text numbers ≡ accepts (contents s)

-- as many columns and rows as the count says, no name twice among either, and a name is a row exactly where it is a column
pub record EachOnce (t : SoFar) : Type 0 where
  pub column_each : length t.columns ≡ t.count
  pub row_each : length t.rows ≡ t.count
  pub columns : single t.columns ≡ true
  pub rows : single t.rows ≡ true
  pub same : (n : Name) → In n t.rows ↔ In n t.columns

-- ---- the factor of two names, in a sheet as it is written

-- bits stand at a column's place: columns and factors are gone along side by side, one of each at a time, until the column is met
pub data AtColumn (c : Name) (bits : ℕ) : List Name → List ℕ → Type 0 where
  first : {cs : List Name} {fs : List ℕ} → AtColumn c bits (c ∷ cs) (bits ∷ fs)
  later : {d : Name} {f : ℕ} {cs : List Name} {fs : List ℕ} → AtColumn c bits cs fs → AtColumn c bits (d ∷ cs) (f ∷ fs)

-- bits stand in a sheet under the row r at the place of the column c
pub record Stands (s : Sheet) (r c : Name) (bits : ℕ) : Type 0 where
  pub block : Block
  pub listed : In block s.blocks
  pub named : block.row ≡ r
  pub at : AtColumn c bits s.columns block.factors

-- ---- the factor of two names, in what `read` answers and leaves

-- the count that comes back
unfoldable pub count_in : Answer → ℕ
count_in (Ok n) = n
count_in (Err e) = 0

-- what a caller finds who looks both names up among the names that came back: the row's place times the count, plus the column's place
unfoldable pub factor_for : Answer → List Name → List Float → Name → Name → Float
factor_for answer names matrix r c = get_or matrix (position r names * count_in answer + position c names) nought

-- what `read` answers and leaves for a text and a lent matrix, looked up so
unfoldable pub factor_read : List ℕ → List Float → Name → Name → Float
factor_read text before =
    factor_for (answer_of (outcome text (length before))) (names_of (outcome text (length before))) (matrix_of (outcome text (length before)) before)

-- ---- one sheet in two orders

-- a column's name with the factor at its place
pub record Entry : Type 0 where
  pub column : Name
  pub bits : ℕ

-- the columns with the factors of a row
unfoldable pub entries : List Name → List ℕ → List Entry
entries [] fs = []
entries (c ∷ cs) [] = []
entries (c ∷ cs) (f ∷ fs) = record { column = c; bits = f } ∷ entries cs fs

-- a block of t for the same row as a block b of s, with the same factor at each column's name
pub record Counterpart (s t : Sheet) (b : Block) : Type 0 where
  pub block : Block
  pub listed : In block t.blocks
  pub same_row : block.row ≡ b.row
  pub same_entries : Permuted (entries s.columns b.factors) (entries t.columns block.factors)

-- two sheets that differ only in the order of their columns, with their factors, and of their rows
pub record SameUpToOrder (s t : Sheet) : Type 0 where
  pub columns : Permuted s.columns t.columns
  pub blocks : (b : Block) → In b s.blocks → Counterpart s t b

-- ---- printing what was read

-- the text that `print` writes when it is handed what `read` answered and left
unfoldable pub text_printed : List ℕ → List Float → List ℕ
text_printed text before =
    sheet_text
    (sheet_of (count_in (answer_of (outcome text (length before)))) (names_of (outcome text (length before))) (matrix_of (outcome text (length before)) before))

-- what `print` then answers, with so many bytes of room
unfoldable pub print_answers : List ℕ → List Float → ℕ → Answer
print_answers text before room =
    printed_of (count_in (answer_of (outcome text (length before)))) (names_of (outcome text (length before))) (matrix_of (outcome text (length before)) before) room

-- the bytes that `print` then leaves
unfoldable pub print_leaves : List ℕ → List Float → List ℕ → List ℕ
print_leaves text before bytes =
    bytes_after (count_in (answer_of (outcome text (length before)))) (names_of (outcome text (length before))) (matrix_of (outcome text (length before)) before)
    (print_answers text before (length bytes))
    bytes

-- two texts that `read` cannot tell apart: one answer, the same names, and the same left in whatever matrix is lent
pub record ReadAlike (a b : List ℕ) : Type 0 where
  pub answer : (numbers : ℕ) → answer_of (outcome a numbers) ≡ answer_of (outcome b numbers)
  pub names : (numbers : ℕ) → names_of (outcome a numbers) ≡ names_of (outcome b numbers)
  pub matrix : (before : List Float) → matrix_of (outcome a (length before)) before ≡ matrix_of (outcome b (length before)) before

-- p is s with its rows in column order: the same columns, the same blocks, and the rows named as the columns are
pub record InColumnOrder (s p : Sheet) : Type 0 where
  pub columns : p.columns ≡ s.columns
  pub blocks : Permuted s.blocks p.blocks
  pub rows : row_names p.blocks ≡ s.columns

-- the text of the sheet s was read, and what `read` answered and left was printed
pub record PrintedBack (text : List ℕ) (before : List Float) (s : Sheet) : Type 0 where
  -- it is the text of the sheet with its rows in column order, at most 1,907 bytes
  pub sheet : (p : Sheet) × (text_printed text before ≡ sheet_text p) × InColumnOrder s p
  pub short : length (text_printed text before) ≤ 1907
  -- where there is room for it, `print` answers its length and leaves it, with the other bytes as they came
  pub answer : (bytes : List ℕ) → length (text_printed text before) ≤ length bytes
      → print_answers text before (length bytes) ≡ Ok (length (text_printed text before))
  pub left : (bytes : List ℕ) → length (text_printed text before) ≤ length bytes
      → print_leaves text before bytes ≡ text_printed text before ++ drop (length (text_printed text before)) bytes
  -- it reads as the first text did
  pub alike : ReadAlike (text_printed text before) text
  -- read and printed once more, into whatever matrix, it stays as it is
  pub stays : (after : List Float) → 64 ≤ length after → text_printed (text_printed text before) after ≡ text_printed text before
