-- Document 01, "What each number means": the number of each refusal, and number, place and count of each answer. Definitions only.
use Rattle.std.specs.Prelude.{ℕ, ◌≡◌, Result, Ok, Err}
use Rattle.quant.specs.declared.refusal.Refused.{Refused}
use Rattle.quant.specs.declared.refusal.Refusal.{Refusal}
use Rattle.quant.specs.declared.refusal.Refusal.TheVariants.{Unfit, Malformed, Full, Oversize, UnknownShape, NegativePlateau, UnknownChannel, NotFinite, BeforeRow, StartPastRow, ShapeTooShort, EndPastRow, WrongSize, Layout, WrongSpline, DoubledName, NoList, NoColumn, WrongA0}

-- document 02, P2: "14 becomes 17 (doubled), 18 (no list), 19 (no such column)"; P5: "a new 22"; 20, 21 and 23 are kept for the rest of document 02
abbrev pub number_of : Refusal → ℕ
number_of Unfit = 1
number_of Malformed = 2
number_of Full = 3
number_of Oversize = 4
number_of UnknownShape = 5
number_of NegativePlateau = 6
number_of UnknownChannel = 7
number_of NotFinite = 8
number_of BeforeRow = 9
number_of StartPastRow = 10
number_of ShapeTooShort = 11
number_of EndPastRow = 12
number_of WrongSize = 13
number_of Layout = 15
number_of WrongSpline = 16
number_of DoubledName = 17
number_of NoList = 18
number_of NoColumn = 19
number_of WrongA0 = 22

-- what a call answers: a count, or a refusal and its place
abbrev pub Answer : Type 0
Answer = Result ℕ Refused

abbrev pub refuse : Refusal → ℕ → Answer
refuse r k = Err (record { why = r; place = k })

-- "A refusal returns its number and a place"; "Acceptance returns the count": its number is 0. What an answer does not return is 0.
pub record Reply : Type 0 where
  pub number : ℕ
  pub place : ℕ
  pub count : ℕ

abbrev pub reply_of : Answer → Reply
reply_of (Ok count) = record { number = 0; place = 0; count = count }
reply_of (Err e) = record { number = number_of e.why; place = e.place; count = 0 }

-- the number alone
abbrev pub code_of : Answer → ℕ
code_of a = (reply_of a).number
