-- Document 01, "The sheet": from a text to the answer, the names and the matrix; and, apart from that, a sheet as data, its text, and what
-- printing leaves. Lines count from 1. Definitions only.
use Rattle.quant.specs.Refusal.{Answer, refuse}
use Rattle.std.specs.Prelude.{ℕ, suc, ◌+◌, ◌-◌, ◌*◌, ◌/◌, ◌^◌, ◌≡◌, Bool, true, ◌&&◌, not, cond, List, [], ◌∷◌, ◌++◌, leb, ltb, eqb, Float, length, take, drop, replicate, Option, Some, None, Ok, Err}
use Rattle.std.specs.Float.{binary64}
use Rattle.std.specs.Float.Ieee.{of_bits, to_bits}
use Rattle.std.specs.Float.Ieee.Scale.{finite}
use Rattle.hexadecimal.specs.Hex.{all_digits, number, digits}
use Rattle.naming.specs.Name.{naming_of, same_name, is_in, is_name, bytes_of}
use Rattle.naming.specs.declared.Name.{Name}
use Rattle.quant.specs.declared.refusal.Refusal.{Refusal}
use Rattle.quant.specs.declared.refusal.Refusal.TheVariants.{Malformed, WrongSize, Layout, DoubledName, NoColumn}
use Rattle.sheet.specs.declared.read.Reading.{Reading}

-- ---- the four keys

-- `channels=`
unfoldable pub channels_key : List ℕ
channels_key = 99 ∷ 104 ∷ 97 ∷ 110 ∷ 110 ∷ 101 ∷ 108 ∷ 115 ∷ 61 ∷ []

-- `column=`
unfoldable pub column_key : List ℕ
column_key = 99 ∷ 111 ∷ 108 ∷ 117 ∷ 109 ∷ 110 ∷ 61 ∷ []

-- `row=`
unfoldable pub row_key : List ℕ
row_key = 114 ∷ 111 ∷ 119 ∷ 61 ∷ []

-- `factor=`
unfoldable pub factor_key : List ℕ
factor_key = 102 ∷ 97 ∷ 99 ∷ 116 ∷ 111 ∷ 114 ∷ 61 ∷ []

-- ---- a text as lines: "Lines end in LF"

-- the lines that end in LF (10), without it, and the bytes after the last LF
pub record Cut : Type 0 where
  pub whole : List (List ℕ)
  pub rest : List ℕ

-- a byte that is no LF, put before what follows it
unfoldable pub onto : ℕ → List (List ℕ) → List ℕ → Cut
onto b [] rest = record { whole = []; rest = b ∷ rest }
onto b (line ∷ lines) rest = record { whole = (b ∷ line) ∷ lines; rest = rest }

-- a text cut at its LFs
unfoldable pub cut : List ℕ → Cut
cut [] = record { whole = []; rest = [] }
cut (b ∷ bs) = cond (eqb b 10) (record { whole = [] ∷ (cut bs).whole; rest = (cut bs).rest }) (onto b (cut bs).whole (cut bs).rest)

-- what stands behind a key in a line, or that the line starts otherwise
pub data Behind : Type 0 where
  value : List ℕ → Behind
  other : Behind

-- a line parted at a key
unfoldable pub behind : List ℕ → List ℕ → Behind
behind [] line = value line
behind (k ∷ ks) [] = other
behind (k ∷ ks) (b ∷ line) = cond (eqb k b) (behind ks line) other

-- ---- names among names

-- how many names stand before the first that is n; all of them where none is
unfoldable pub position : Name → List Name → ℕ
position n [] = 0
position n (m ∷ ms) = cond (same_name m n) 0 (suc (position n ms))

-- ---- one line more

-- what the lines so far have said, in reading order; a count of 0 before the first line
pub record SoFar : Type 0 where
  pub count : ℕ
  pub columns : List Name
  pub rows : List Name
  pub factors : List ℕ

-- no line read
unfoldable pub nothing : SoFar
nothing = record { count = 0; columns = []; rows = []; factors = [] }

-- a line is taken, or refused
pub data Step : Type 0 where
  goes : SoFar → Step
  stops : Refusal → Step

-- `channels=N`: one digit 1..8 (49 to 56), else 15
unfoldable pub count_step : Behind → Step
count_step other = stops Layout
count_step (value []) = stops Layout
count_step (value (d ∷ [])) = cond (leb 49 d && leb d 56) (goes (record { count = d - 48; columns = []; rows = []; factors = [] })) (stops Layout)
count_step (value (d ∷ (e ∷ es))) = stops Layout

-- a column's name: 2 where it breaks the rule, 17 where it is doubled
unfoldable pub column_named : SoFar → Option Name → Step
column_named s None = stops Malformed
column_named s (Some n) =
    cond (is_in n s.columns) (stops DoubledName) (goes (record { count = s.count; columns = s.columns ++ n ∷ []; rows = s.rows; factors = s.factors }))

-- `column=NAME`: 15 where the key is another
unfoldable pub column_step : SoFar → Behind → Step
column_step s other = stops Layout
column_step s (value bytes) = column_named s (naming_of bytes)

-- a row's name: 2 where it breaks the rule, 17 where it is doubled, 19 where it is no column
unfoldable pub row_named : SoFar → Option Name → Step
row_named s None = stops Malformed
row_named s (Some n) =
    cond (is_in n s.rows) (stops DoubledName)
    (cond (is_in n s.columns) (goes (record { count = s.count; columns = s.columns; rows = s.rows ++ n ∷ []; factors = s.factors })) (stops NoColumn))

-- `row=NAME`: 15 where the key is another
unfoldable pub row_step : SoFar → Behind → Step
row_step s other = stops Layout
row_step s (value bytes) = row_named s (naming_of bytes)

-- a factor's bits: 2 where the double is not finite
unfoldable pub factor_bits : SoFar → ℕ → Step
factor_bits s bits =
    cond (finite (of_bits binary64 bits))
    (goes (record { count = s.count; columns = s.columns; rows = s.rows; factors = s.factors ++ bits ∷ [] }))
    (stops Malformed)

-- `factor=` with 16 lowercase hex digits, else 15
unfoldable pub factor_step : SoFar → Behind → Step
factor_step s other = stops Layout
factor_step s (value text) = cond (eqb (length text) 16 && all_digits text) (factor_bits s (number text)) (stops Layout)

-- the order of the lines: the count, N columns, then N times a row and its N factors; a line after these is 15
unfoldable pub step : SoFar → List ℕ → Step
step s line =
    cond (eqb s.count 0) (count_step (behind channels_key line))
    (cond (ltb (length s.columns) s.count) (column_step s (behind column_key line))
    (cond (ltb (length s.factors) (length s.rows * s.count)) (factor_step s (behind factor_key line))
    (cond (ltb (length s.rows) s.count) (row_step s (behind row_key line)) (stops Layout))))

-- whether no line is missing
unfoldable pub complete : SoFar → Bool
complete s =
    leb 1 s.count
    && eqb (length s.columns) s.count
    && eqb (length s.rows) s.count
    && eqb (length s.factors) (s.count * s.count)

-- ---- the reader

-- a whole text read, or its refusal and line
pub data Outcome : Type 0 where
  accepts : SoFar → Outcome
  refuses : Refusal → ℕ → Outcome

-- goes on behind a line that is taken; the first bad line decides
unfoldable pub onward : ℕ → Step → (SoFar → Outcome) → Outcome
onward place (goes s) f = f s
onward place (stops r) f = refuses r place

-- The lines from the one numbered `place` on. Where the lines end: the sheet has to be complete and no byte may follow. A line that is
-- missing, one without its LF and bytes after the end are all 15 at the line that starts where the whole lines end.
unfoldable pub read_from : ℕ → SoFar → List (List ℕ) → List ℕ → Outcome
read_from place s [] rest = cond (complete s && eqb (length rest) 0) (accepts s) (refuses Layout place)
read_from place s (line ∷ lines) rest = onward place (step s line) (λ t. read_from (suc place) t lines rest)

-- a text, and the lent matrix's length: over 4,096 bytes or under 64 numbers is 13
unfoldable pub outcome : List ℕ → ℕ → Outcome
outcome text numbers =
    cond (leb (length text) 4096 && leb 64 numbers) (read_from 1 nothing (cut text).whole (cut text).rest) (refuses WrongSize 0)

-- ---- what comes back

-- N for a sheet; the refusal and the line
unfoldable pub answer_of : Outcome → Answer
answer_of (accepts s) = Ok s.count
answer_of (refuses r place) = refuse r place

-- what stands where no name is
unfoldable pub blank : Name
blank = record { first = 0; second = 0; len = 0 }

-- eight places: the names, then blanks
unfoldable pub eight : List Name → List Name
eight names = take 8 (names ++ replicate 8 blank)

-- the names in column order; none where the sheet is refused
unfoldable pub names_of : Outcome → List Name
names_of (accepts s) = eight s.columns
names_of (refuses r place) = eight []

-- the doubles that patterns stand for
unfoldable pub doubles : List ℕ → List Float
doubles [] = []
doubles (bits ∷ more) = of_bits binary64 bits ∷ doubles more

-- the factors that stand under a row's name
unfoldable pub under : SoFar → Name → List ℕ
under s n = take s.count (drop (position n s.rows * s.count) s.factors)

-- the rows of some names, one after the other
unfoldable pub rows_for : SoFar → List Name → List ℕ
rows_for s [] = []
rows_for s (n ∷ ns) = under s n ++ rows_for s ns

-- the matrix afterwards: the rows in column order, and the rest stays; as it came where the sheet is refused
unfoldable pub matrix_of : Outcome → List Float → List Float
matrix_of (accepts s) before = doubles (rows_for s s.columns) ++ drop (s.count * s.count) before
matrix_of (refuses r place) before = before

-- what `read` answers and leaves
pub record Read (text : List ℕ) (before : List Float) (r : Reading) (after : List Float) : Type 0 where
  pub answered : r.answer ≡ answer_of (outcome text (length before))
  pub named : r.names ≡ names_of (outcome text (length before))
  pub left : after ≡ matrix_of (outcome text (length before)) before

-- ---- a sheet as data, apart from the reader

-- a row's name and its factors' bits, in column order
pub record Block : Type 0 where
  pub row : Name
  pub factors : List ℕ

-- the columns, and the blocks in any order
pub record Sheet : Type 0 where
  pub columns : List Name
  pub blocks : List Block

-- the names of some blocks
unfoldable pub row_names : List Block → List Name
row_names [] = []
row_names (b ∷ bs) = b.row ∷ row_names bs

-- whether all are names
unfoldable pub good_names : List Name → Bool
good_names [] = true
good_names (n ∷ ns) = is_name n && good_names ns

-- whether no name stands twice
unfoldable pub single : List Name → Bool
single [] = true
single (n ∷ ns) = not (is_in n ns) && single ns

-- whether every name of a list is one of another
unfoldable pub among : List Name → List Name → Bool
among all [] = true
among all (n ∷ ns) = is_in n all && among all ns

-- whether all are patterns of finite doubles
unfoldable pub finite_bits : List ℕ → Bool
finite_bits [] = true
finite_bits (bits ∷ more) = ltb bits (2 ^ 64) && finite (of_bits binary64 bits) && finite_bits more

-- whether every block has a factor for each of so many columns, all finite
unfoldable pub full_blocks : ℕ → List Block → Bool
full_blocks count [] = true
full_blocks count (b ∷ bs) = eqb (length b.factors) count && finite_bits b.factors && full_blocks count bs

-- a sheet that follows the layout, with good names and finite factors
pub record WellFormed (s : Sheet) : Type 0 where
  pub some : leb 1 (length s.columns) ≡ true
  pub most : leb (length s.columns) 8 ≡ true
  pub names : good_names s.columns ≡ true
  pub single_columns : single s.columns ≡ true
  pub block_each : length s.blocks ≡ length s.columns
  pub single_rows : single (row_names s.blocks) ≡ true
  pub rows_are_columns : among s.columns (row_names s.blocks) ≡ true
  pub full : full_blocks (length s.columns) s.blocks ≡ true

-- ---- a sheet's text

-- `channels=N`
unfoldable pub count_text : ℕ → List ℕ
count_text count = channels_key ++ (48 + count) ∷ 10 ∷ []

-- lines `column=NAME`
unfoldable pub columns_text : List Name → List ℕ
columns_text [] = []
columns_text (n ∷ ns) = column_key ++ bytes_of n ++ 10 ∷ columns_text ns

-- lines `factor=` with 16 digits
unfoldable pub factors_text : List ℕ → List ℕ
factors_text [] = []
factors_text (bits ∷ more) = factor_key ++ digits 16 bits ++ 10 ∷ factors_text more

-- each block: `row=NAME` and its factors
unfoldable pub blocks_text : List Block → List ℕ
blocks_text [] = []
blocks_text (b ∷ bs) = row_key ++ bytes_of b.row ++ 10 ∷ (factors_text b.factors ++ blocks_text bs)

unfoldable pub sheet_text : Sheet → List ℕ
sheet_text s = count_text (length s.columns) ++ columns_text s.columns ++ blocks_text s.blocks

-- ---- printing

-- the bits of some doubles
unfoldable pub patterns : List Float → List ℕ
patterns [] = []
patterns (x ∷ xs) = to_bits binary64 x ∷ patterns xs

-- a block for each name, of so many numbers from a matrix
unfoldable pub blocks_of : ℕ → List Name → List Float → List Block
blocks_of count [] matrix = []
blocks_of count (n ∷ ns) matrix = record { row = n; factors = patterns (take count matrix) } ∷ blocks_of count ns (drop count matrix)

-- the sheet of the first `count` names and of the matrix's first count * count numbers, rows in column order
unfoldable pub sheet_of : ℕ → List Name → List Float → Sheet
sheet_of count names matrix = record { columns = take count names; blocks = blocks_of count (take count names) matrix }

-- whether all are finite
unfoldable pub all_finite : List Float → Bool
all_finite [] = true
all_finite (x ∷ xs) = finite x && all_finite xs

-- the sizes: 1..8 names and a number for each pair, and room for the text
unfoldable pub print_fits : ℕ → List Name → List Float → ℕ → Bool
print_fits count names matrix room =
    leb 1 count
    && leb count 8
    && leb (count * count) (length matrix)
    && leb (length (sheet_text (sheet_of count names matrix))) room

-- The lines of the sheet that would be printed, in reading order: the first bad one decides, and no bad one is `Ok 0`.

-- the columns' lines, behind the first and those of the columns `before`: 2 where a name breaks the rule, 17 where it is one of these
unfoldable pub columns_judged : List Name → List Name → Answer
columns_judged before [] = Ok 0
columns_judged before (n ∷ ns) =
    cond (not (is_name n)) (refuse Malformed (length before + 2))
    (cond (is_in n before) (refuse DoubledName (length before + 2)) (columns_judged (before ++ n ∷ []) ns))

-- the line of the factor at i, from 0: the first, the columns', the `row=` lines down to its block's, and the factors' down to its own
unfoldable pub factor_at : ℕ → ℕ → ℕ
factor_at count i = 1 + count + (i / count + 1) + (i + 1)

-- the factors' lines from the one at i on: 2 where a number is not finite; a `row=` line is never bad, since it names a column
unfoldable pub factors_judged : ℕ → ℕ → List Float → Answer
factors_judged count i [] = Ok 0
factors_judged count i (x ∷ xs) = cond (finite x) (factors_judged count (suc i) xs) (refuse Malformed (factor_at count i))

-- how many bytes are printed, or the first bad line of the columns', then of the factors'
unfoldable pub printed_by : Answer → Answer → ℕ → Answer
printed_by (Err e) factors size = refuse e.why e.place
printed_by (Ok k) (Err e) size = refuse e.why e.place
printed_by (Ok k) (Ok l) size = Ok size

-- 13, then the lines in reading order; else how many bytes are printed
unfoldable pub printed_of : ℕ → List Name → List Float → ℕ → Answer
printed_of count names matrix room =
    cond (not (print_fits count names matrix room)) (refuse WrongSize 0)
    (printed_by
    (columns_judged [] (take count names))
    (factors_judged count 0 (take (count * count) matrix))
    (length (sheet_text (sheet_of count names matrix))))

-- document 01's answer: "A refusal returns its number and a place: .. the sheet's line from 1 (0 for 13)"; printed, 0, as "elsewhere"
abbrev pub printed_answer : Answer → Answer
printed_answer (Ok size) = Ok 0
printed_answer (Err e) = refuse e.why e.place

-- the bytes afterwards: the sheet's text, and the rest stays; as they came where printing is refused
unfoldable pub bytes_after : ℕ → List Name → List Float → Answer → List ℕ → List ℕ
bytes_after count names matrix (Ok size) before = sheet_text (sheet_of count names matrix) ++ drop size before
bytes_after count names matrix (Err e) before = before

-- what `print` answers and leaves
pub record Print (count : ℕ) (names : List Name) (matrix : List Float) (before : List ℕ) (r : Answer) (after : List ℕ) : Type 0 where
  pub answered : r ≡ printed_of count names matrix (length before)
  pub left : after ≡ bytes_after count names matrix (printed_of count names matrix (length before)) before
