-- Document 01, "The sheet": "A program reads a sheet on standard input and prints it with rows in column order, or `refused=` and `line=` as
-- two lines, in decimal". Definitions only.
use Rattle.std.specs.Prelude.{ℕ, zero, suc, ◌+◌, ◌/◌, ◌%◌, ◌≡◌, cond, List, [], ◌∷◌, ◌++◌, ltb, Float, length, drop, replicate, Ok}
use Rattle.exact.specs.Doubles.{nought}
use Rattle.quant.specs.Refusal.{number_of, Answer, refuse}
use Rattle.quant.specs.declared.refusal.Refusal.{Refusal}
use Rattle.quant.specs.declared.refusal.Refusal.TheVariants.{WrongSize}
use Rattle.sheet.specs.Sheet.{Outcome, accepts, refuses, outcome, names_of, matrix_of, sheet_of, sheet_text}

-- ---- a number in decimal

-- the digits of n / 10, then the last, n % 10; a digit's byte is 48 more. The first number bounds how many digits there are
unfoldable pub decimal_of : ℕ → ℕ → List ℕ
decimal_of zero n = []
decimal_of (suc more) n = cond (ltb n 10) ((48 + n) ∷ []) (decimal_of more (n / 10) ++ (48 + n % 10) ∷ [])

-- without leading zeros; n has at most n + 1 digits
unfoldable pub decimal : ℕ → List ℕ
decimal n = decimal_of (suc n) n

-- ---- what is printed

-- `refused=`
unfoldable pub refused_key : List ℕ
refused_key = 114 ∷ 101 ∷ 102 ∷ 117 ∷ 115 ∷ 101 ∷ 100 ∷ 61 ∷ []

-- a line feed and `line=`
unfoldable pub line_key : List ℕ
line_key = 10 ∷ 108 ∷ 105 ∷ 110 ∷ 101 ∷ 61 ∷ []

-- two lines, the refusal's number and the sheet's line
unfoldable pub refused_text : Refusal → ℕ → List ℕ
refused_text r line = refused_key ++ decimal (number_of r) ++ line_key ++ decimal line ++ 10 ∷ []

-- a matrix of 64 numbers, all 0, to be lent to the reader
unfoldable pub zeros : List Float
zeros = replicate 64 nought

-- the sheet's text with its rows in column order, of what the reader answers and leaves; or why it is refused
unfoldable pub text_for : Outcome → List ℕ
text_for (accepts s) = sheet_text (sheet_of s.count (names_of (accepts s)) (matrix_of (accepts s) zeros))
text_for (refuses r line) = refused_text r line

unfoldable pub answer_text : List ℕ → List ℕ
answer_text text = text_for (outcome text 64)

-- ---- what `answer` answers and leaves

-- how many bytes are put; with less room than 4,096 bytes 13, at place 0, and the bytes stay as they came
unfoldable pub answer_prints : List ℕ → ℕ → Answer
answer_prints text room = cond (ltb room 4096) (refuse WrongSize 0) (Ok (length (answer_text text)))

-- the bytes afterwards: what is printed, and the rest stays
unfoldable pub answer_left : List ℕ → List ℕ → List ℕ
answer_left text before = cond (ltb (length before) 4096) before (answer_text text ++ drop (length (answer_text text)) before)

pub record Answered (text before : List ℕ) (r : Answer) (after : List ℕ) : Type 0 where
  pub answer : r ≡ answer_prints text (length before)
  pub left : after ≡ answer_left text before
