-- Which numbers a sheet is refused with: read, 13, 15, 2, 17 and 19, line by line; printed, 13, 2 and 17. Assumes nothing.
use Rattle.std.specs.Prelude.{Option, Some, None, Ok, Err}
use Prim.Native.Nat.{ℕ, suc, ◌+◌, ◌*◌}
use mathlib.Core.Path.{◌≡◌, refl}
use mathlib.Core.Bool.{Bool, true, false, ◌&&◌, not, cond}
use mathlib.Core.List.{List, [], ◌∷◌, ◌++◌}
use lib.Dec.{leb, ltb, eqb}
use lib.Ieee.{Float, binary64, of_bits}
use lib.Ieee.Scale.{finite}
use lib.ListN.{length, take, drop}
use Rattle.exact.specs.Among.{among}
use Rattle.hexadecimal.specs.Hex.{all_digits, number}
use Rattle.naming.specs.Name.{is_name, naming_of, is_in}
use Rattle.naming.specs.declared.Name.{Name}
use Rattle.quant.specs.declared.refusal.Refusal.{Refusal}
use Rattle.quant.specs.declared.refusal.Refusal.TheVariants as why
use Rattle.quant.specs.Refusal.{number_of, Answer, refuse}
use Rattle.sheet.specs.Sheet.{cut, Behind, value, other, behind, channels_key, column_key, row_key, factor_key, SoFar, nothing, Step, goes, stops, count_step, column_named, column_step, row_named, row_step, factor_bits, factor_step, step, complete}
use Rattle.sheet.specs.Sheet.{Outcome, accepts, refuses, onward, read_from, outcome, answer_of, matrix_of, sheet_of, sheet_text, columns_judged, factor_at, factors_judged, printed_by, print_fits, printed_of, printed_answer, bytes_after}
use Rattle.sheet_answer.specs.Answer.{answer_text, answer_prints, answer_left}
use Rattle.every_call.specs.Demand.{Said}

-- ---- read

abbrev sheet_numbers : List ℕ
sheet_numbers = 13 ∷ 15 ∷ 2 ∷ 17 ∷ 19 ∷ []

abbrev Numbered : Refusal → Type 0
Numbered r = among sheet_numbers (number_of r) ≡ true

layout : Numbered why.Layout
unfolding among
layout = refl

malformed : Numbered why.Malformed
unfolding among
malformed = refl

doubled : Numbered why.DoubledName
unfolding among
doubled = refl

no-column : Numbered why.NoColumn
unfolding among
no-column = refl

abbrev Good : Step → Type 0
Good (goes s) = Unit {0}
Good (stops r) = Numbered r

one_of : (b : Bool) (x y : Step) → Good x → Good y → Good (cond b x y)
one_of true x y h k = h
one_of false x y h k = k

count-good : (b : Behind) → Good (count_step b)
unfolding count_step
count-good other = layout
count-good (value []) = layout
count-good (value (d ∷ [])) = one_of (leb 49 d && leb d 56) _ (stops why.Layout) tt layout
count-good (value (d ∷ (e ∷ es))) = layout

column-named-good : (s : SoFar) (n : Option Name) → Good (column_named s n)
unfolding column_named
column-named-good s None = malformed
column-named-good s (Some n) = one_of (is_in n s.columns) (stops why.DoubledName) _ doubled tt

column-good : (s : SoFar) (b : Behind) → Good (column_step s b)
unfolding column_step
column-good s other = layout
column-good s (value bytes) = column-named-good s (naming_of bytes)

row-named-good : (s : SoFar) (n : Option Name) → Good (row_named s n)
unfolding row_named
row-named-good s None = malformed
row-named-good s (Some n) = one_of (is_in n s.rows) (stops why.DoubledName) _ doubled (one_of (is_in n s.columns) _ (stops why.NoColumn) tt no-column)

row-good : (s : SoFar) (b : Behind) → Good (row_step s b)
unfolding row_step
row-good s other = layout
row-good s (value bytes) = row-named-good s (naming_of bytes)

factor-bits-good : (s : SoFar) (bits : ℕ) → Good (factor_bits s bits)
unfolding factor_bits
factor-bits-good s bits = one_of (finite (of_bits binary64 bits)) _ (stops why.Malformed) tt malformed

factor-good : (s : SoFar) (b : Behind) → Good (factor_step s b)
unfolding factor_step
factor-good s other = layout
factor-good s (value text) = one_of (eqb (length text) 16 && all_digits text) (factor_bits s (number text)) (stops why.Layout) (factor-bits-good s (number text)) layout

step-good : (s : SoFar) (line : List ℕ) → Good (step s line)
unfolding step
step-good s line =
    let last = cond (ltb (length s.rows) s.count) (row_step s (behind row_key line)) (stops why.Layout) in
    let third = cond (ltb (length s.factors) (length s.rows * s.count)) (factor_step s (behind factor_key line)) last in
    let second = cond (ltb (length s.columns) s.count) (column_step s (behind column_key line)) third in
    one_of (eqb s.count 0) (count_step (behind channels_key line)) second (count-good (behind channels_key line))
    (one_of (ltb (length s.columns) s.count) (column_step s (behind column_key line)) third (column-good s (behind column_key line))
    (one_of (ltb (length s.factors) (length s.rows * s.count)) (factor_step s (behind factor_key line)) last (factor-good s (behind factor_key line))
    (one_of (ltb (length s.rows) s.count) (row_step s (behind row_key line)) (stops why.Layout) (row-good s (behind row_key line)) layout)))

-- the answer, with the matrix as it came where it is refused
module _ (before : List Float) where
  abbrev Read : Outcome → Type 0
  Read o = Said sheet_numbers (matrix_of o before ≡ before) (answer_of o)

  refused-read : (r : Refusal) (line : ℕ) → Numbered r → Read (refuses r line)
  unfolding answer_of matrix_of
  refused-read r line h = (h, refl)

  accepted-read : (s : SoFar) → Read (accepts s)
  unfolding answer_of
  accepted-read s = tt

  from-read : (place : ℕ) (s : SoFar) (lines : List (List ℕ)) (rest : List ℕ) → Read (read_from place s lines rest)
  unfolding read_from onward
  from-read place s [] rest = go (complete s && eqb (length rest) 0)
    where
      go : (b : Bool) → Read (cond b (accepts s) (refuses why.Layout place))
      go true = accepted-read s
      go false = refused-read why.Layout place layout
  from-read place s (line ∷ lines) rest = go (step s line) (step-good s line) (λ t. from-read (suc place) t lines rest)
    where
      go : (x : Step) → Good x → ((t : SoFar) → Read (read_from (suc place) t lines rest)) → Read (onward place x (λ t. read_from (suc place) t lines rest))
      go (goes t) g later = later t
      go (stops r) g later = refused-read r place g

  pub read-said : (text : List ℕ) → Read (outcome text (length before))
  unfolding outcome among
  read-said text = go (leb (length text) 4096 && leb 64 (length before))
    where
      go : (b : Bool) → Read (cond b (read_from 1 nothing (cut text).whole (cut text).rest) (refuses why.WrongSize 0))
      go true = from-read 1 nothing (cut text).whole (cut text).rest
      go false = refused-read why.WrongSize 0 refl

-- ---- printed

abbrev print_numbers : List ℕ
print_numbers = 13 ∷ 2 ∷ 17 ∷ []

columns-said : (before ns : List Name) → Said print_numbers Unit (columns_judged before ns)
unfolding columns_judged among
columns-said before [] = tt
columns-said before (n ∷ ns) = go (is_name n) (is_in n before) (columns-said (before ++ n ∷ []) ns)
  where
    go : (b c : Bool) → Said print_numbers Unit (columns_judged (before ++ n ∷ []) ns)
        → Said print_numbers Unit (cond (not b) (refuse why.Malformed (length before + 2)) (cond c (refuse why.DoubledName (length before + 2)) (columns_judged (before ++ n ∷ []) ns)))
    go false c h = (refl, tt)
    go true true h = (refl, tt)
    go true false h = h

factors-said : (count i : ℕ) (xs : List Float) → Said print_numbers Unit (factors_judged count i xs)
unfolding factors_judged among
factors-said count i [] = tt
factors-said count i (x ∷ xs) = go (finite x) (factors-said count (suc i) xs)
  where
    go : (b : Bool) → Said print_numbers Unit (factors_judged count (suc i) xs) → Said print_numbers Unit (cond b (factors_judged count (suc i) xs) (refuse why.Malformed (factor_at count i)))
    go true h = h
    go false h = (refl, tt)

module _ (count : ℕ) (names : List Name) (matrix : List Float) (before : List ℕ) where
  abbrev Print : Answer → Type 0
  Print p = Said print_numbers (bytes_after count names matrix p before ≡ before) (printed_answer p)

  both-said : (a b : Answer) (size : ℕ) → Said print_numbers Unit a → Said print_numbers Unit b → Print (printed_by a b size)
  unfolding printed_by bytes_after
  both-said (Err e) b size h k = (h.0, refl)
  both-said (Ok m) (Err e) size h k = (k.0, refl)
  both-said (Ok m) (Ok n) size h k = tt

  pub print-said : Print (printed_of count names matrix (length before))
  unfolding printed_of among bytes_after
  print-said = go (print_fits count names matrix (length before))
    where
      columns : Answer
      columns = columns_judged [] (take count names)

      factors : Answer
      factors = factors_judged count 0 (take (count * count) matrix)

      size : ℕ
      size = length (sheet_text (sheet_of count names matrix))

      go : (b : Bool) → Print (cond (not b) (refuse why.WrongSize 0) (printed_by columns factors size))
      go false = (refl, refl)
      go true = both-said columns factors size (columns-said [] (take count names)) (factors-said count 0 (take (count * count) matrix))

-- ---- answered

pub answer-said : (text before : List ℕ) → Said (13 ∷ []) (answer_left text before ≡ before) (printed_answer (answer_prints text (length before)))
unfolding answer_prints answer_left among
answer-said text before = go (ltb (length before) 4096)
  where
    go : (b : Bool) → Said (13 ∷ []) (cond b before (answer_text text ++ drop (length (answer_text text)) before) ≡ before) (printed_answer (cond b (refuse why.WrongSize 0) (Ok (length (answer_text text)))))
    go true = (refl, refl)
    go false = tt
