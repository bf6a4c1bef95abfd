-- Document 01, "The sheet": its example computed by the definition, read and printed; and three refusals. Assumes nothing.
use Rattle.quant.specs.Refusal.{refuse}
use Rattle.std.specs.Prelude.{Ok}
use Prim.Native.Nat.{ℕ}
use mathlib.Core.List.{List, [], ◌∷◌, ◌++◌}
use mathlib.Core.Path.{◌≡◌, refl}
use lib.Ieee.{nan, of_bits, to_bits}
use lib.ListN.{replicate}
use Rattle.hexadecimal.specs.Hex.{all_digits, number, digits, digit_value, digit_of}
use Rattle.naming.specs.Name.{name_byte, every, accepted, word_of, low_bytes, bytes_of_word, sixteen, bytes_of, named, naming_of, same_name, is_in}
use Rattle.quant.specs.declared.refusal.Refusal.TheVariants.{WrongSize, Layout}
use Rattle.sheet.specs.Sheet as sheet
use Rattle.sheet.specs.Sheet.{answer_of, outcome, names_of, matrix_of, sheet_text, sheet_of}

-- ---- the example's lines

-- `channels=2`
abbrev channels_2 : List ℕ
channels_2 = 99 ∷ 104 ∷ 97 ∷ 110 ∷ 110 ∷ 101 ∷ 108 ∷ 115 ∷ 61 ∷ 50 ∷ 10 ∷ []

-- `column=q10`
abbrev column-q10 : List ℕ
column-q10 = 99 ∷ 111 ∷ 108 ∷ 117 ∷ 109 ∷ 110 ∷ 61 ∷ 113 ∷ 49 ∷ 48 ∷ 10 ∷ []

-- `column=q2`
abbrev column-q2 : List ℕ
column-q2 = 99 ∷ 111 ∷ 108 ∷ 117 ∷ 109 ∷ 110 ∷ 61 ∷ 113 ∷ 50 ∷ 10 ∷ []

-- `row=q2`
abbrev row-q2 : List ℕ
row-q2 = 114 ∷ 111 ∷ 119 ∷ 61 ∷ 113 ∷ 50 ∷ 10 ∷ []

-- `row=q10`
abbrev row-q10 : List ℕ
row-q10 = 114 ∷ 111 ∷ 119 ∷ 61 ∷ 113 ∷ 49 ∷ 48 ∷ 10 ∷ []

-- `factor=3fb999999999999a`
abbrev tenth : List ℕ
tenth = 102 ∷ 97 ∷ 99 ∷ 116 ∷ 111 ∷ 114 ∷ 61 ∷ 51 ∷ 102 ∷ 98 ∷ 57 ∷ 57 ∷ 57 ∷ 57 ∷ 57 ∷ 57 ∷ 57 ∷ 57 ∷ 57 ∷ 57 ∷ 57 ∷ 57 ∷ 97 ∷ 10 ∷ []

-- `factor=3ff0000000000000`
abbrev one : List ℕ
one = 102 ∷ 97 ∷ 99 ∷ 116 ∷ 111 ∷ 114 ∷ 61 ∷ 51 ∷ 102 ∷ 102 ∷ 48 ∷ 48 ∷ 48 ∷ 48 ∷ 48 ∷ 48 ∷ 48 ∷ 48 ∷ 48 ∷ 48 ∷ 48 ∷ 48 ∷ 48 ∷ 10 ∷ []

-- `factor=0000000000000000`
abbrev nought : List ℕ
nought = 102 ∷ 97 ∷ 99 ∷ 116 ∷ 111 ∷ 114 ∷ 61 ∷ 48 ∷ 48 ∷ 48 ∷ 48 ∷ 48 ∷ 48 ∷ 48 ∷ 48 ∷ 48 ∷ 48 ∷ 48 ∷ 48 ∷ 48 ∷ 48 ∷ 48 ∷ 48 ∷ 10 ∷ []

abbrev pub example : List ℕ
example = channels_2 ++ column-q10 ++ column-q2 ++ row-q2 ++ tenth ++ one ++ row-q10 ++ one ++ nought

-- "it prints lines 1 to 3, then 7 to 9, then 4 to 6, unchanged"
abbrev pub printed : List ℕ
printed = channels_2 ++ column-q10 ++ column-q2 ++ row-q10 ++ one ++ nought ++ row-q2 ++ tenth ++ one

-- what `outcome` computes with
unfoldable reading : ℕ
unfolding sheet.channels_key sheet.column_key sheet.row_key sheet.factor_key sheet.onto sheet.cut sheet.behind sheet.nothing
    sheet.count_step sheet.column_named sheet.column_step sheet.row_named sheet.row_step sheet.factor_bits sheet.factor_step sheet.step sheet.complete
    sheet.onward sheet.read_from outcome answer_of all_digits number digit_value name_byte every accepted word_of named naming_of same_name is_in of_bits
reading = 0

-- what comes back and is printed, besides
unfoldable printing : ℕ
unfolding reading sheet.position sheet.blank sheet.eight names_of sheet.doubles sheet.under sheet.rows_for matrix_of sheet.count_text
    sheet.columns_text sheet.factors_text sheet.blocks_text sheet_text sheet.patterns sheet.blocks_of sheet_of digits digit_of low_bytes bytes_of_word
    sixteen bytes_of to_bits
printing = 0

pub read-example : answer_of (outcome example 64) ≡ Ok 2
unfolding reading
read-example = refl

pub print-example : sheet_text (sheet_of 2 (names_of (outcome example 64)) (matrix_of (outcome example 64) (replicate 64 nan))) ≡ printed
unfolding printing
print-example = refl

pub longer : answer_of (outcome (example ++ 10 ∷ []) 64) ≡ refuse Layout 10
unfolding reading
longer = refl

pub empty : answer_of (outcome [] 64) ≡ refuse Layout 1
unfolding reading
empty = refl

pub short-matrix : answer_of (outcome example 63) ≡ refuse WrongSize 0
unfolding reading
short-matrix = refl
