-- The calls on texts: what each promises, as its contract has it, and when it has accepted. Definitions only.
use Rattle.quant.specs.Refusal.{Answer}
use Rattle.std.specs.Prelude.{ℕ, Bool, true, false, ◌&&◌, List, eqb, Float, length, get_or, Option, Some, None, ℤ, Ok, Err}
use Rattle.std.specs.Float.{binary64}
use Rattle.std.specs.Float.Ieee.{to_bits}
use Rattle.hexadecimal.specs.Hex as hex
use Rattle.lines.specs.Field.{number_at}
use Rattle.naming.specs.declared.Name.{Name}
use Rattle.naming.specs.Name as name
use Rattle.tables.specs.Tables.{naming_answer}
use Rattle.decimal.specs.Digits.{digits_of}
use Rattle.decimal.specs.Number.{number_of}
use Rattle.fields.specs.declared.words.Span.{Span}
use Rattle.fields.specs.Words.{words_of, word_in, Found}
use Rattle.fields.specs.Value as value
use Rattle.job.specs.declared.line.Line.{Line}
use Rattle.job.specs.declared.line.Line.TheVariants as line
use Rattle.job.specs.declared.turn.Turn.{Turn}
use Rattle.job.specs.Line.{line_of}
use Rattle.job.specs.List.{numbers_from}
use Rattle.job.specs.Turn.{turn_of}
use Rattle.numbers.specs.Numbers.{Stored}
use Rattle.sheet.specs.declared.read.Reading.{Reading}
use Rattle.sheet.specs.Sheet.{Read, Print}
use Rattle.sheet_answer.specs.Answer.{Answered}
use Rattle.crosstalk.specs.declared.names.Crosstalk.{Crosstalk}
use Rattle.job_sheet.specs.declared.Taken.{Taken}
use Rattle.job_sheet.specs.Inset.{Took}
use Rattle.stand_ins.specs.StandIns.{Call, equation}
use Rattle.stand_ins.specs.Whole.{is_done}
use Rattle.stand_ins.specs.ByValue.{always}

-- ---- at a place of a text: sixteen hex digits, a name

pub record Place : Type 0 where
  pub text : List ℕ
  pub at : ℕ

abbrev pub is_word : Option ℕ → Bool
is_word (Some n) = true
is_word None = false

abbrev pub hex-read : Call
hex-read = equation (λ (x : Place). hex.word_at x.text x.at) is_word

abbrev pub number-at : Call
number-at = equation (λ (x : Place). number_at x.text x.at) is_word

abbrev pub is_named : Option Name → Bool
is_named y = is_done (naming_answer y)

abbrev pub name-read : Call
name-read = equation name.naming_of is_named

-- what is written there; whether there was room, and the text afterwards
pub record Written : Type 0 where
  pub answer : Bool
  pub text : List ℕ

abbrev pub hex-write : Call
hex-write = record { Given = ℕ × Place; Left = Written; Promise = λ x y. hex.Wrote x.0 x.1.text x.1.at y.answer y.text; accepted = λ y. y.answer }

abbrev pub put-double : Call
put-double =
    record { Given = Float × Place; Left = Written; Promise = λ x y. hex.Wrote (to_bits binary64 x.0) x.1.text x.1.at y.answer y.text; accepted = λ y. y.answer }

abbrev pub name-write : Call
name-write = record { Given = Name × Place; Left = Written; Promise = λ x y. name.Wrote x.0 x.1.text x.1.at y.answer y.text; accepted = λ y. y.answer }

-- ---- numbers

abbrev pub is_double : Option Float → Bool
is_double (Some x) = true
is_double None = false

abbrev pub decimal-read : Call
decimal-read = equation number_of is_double

abbrev pub is_value : Option ℕ → Bool
is_value (Some n) = true
is_value None = false

abbrev pub figures : Call
figures = equation digits_of is_value

-- ---- the fields of a line: word k, behind a key

pub record Field : Type 0 where
  pub line : List ℕ
  pub k : ℕ
  pub key : List ℕ

abbrev pub behind_key : {A : Type 0} → (List ℕ → List ℕ → A) → Field → A
behind_key read x = read x.key (word_in x.line x.k)

abbrev pub number_in : Call
number_in = equation (behind_key value.number_field) is_double

abbrev pub whole_in : Call
whole_in = equation (behind_key value.whole_field) is_value

abbrev pub is_called : Option Name → Bool
is_called (Some n) = true
is_called None = false

abbrev pub name_in : Call
name_in = equation (behind_key value.name_field) is_called

abbrev pub is_shaped : Option (Option Name) → Bool
is_shaped (Some n) = true
is_shaped None = false

abbrev pub shape_in : Call
shape_in = equation (behind_key value.shape_field) is_shaped

abbrev pub is_flag : Option Bool → Bool
is_flag (Some t) = true
is_flag None = false

abbrev pub flag_in : Call
flag_in = equation (behind_key value.flag_field) is_flag

abbrev pub is_level : Option ℤ → Bool
is_level (Some z) = true
is_level None = false

abbrev pub level_in : Call
level_in = equation (behind_key value.level_field) is_level

pub record Fields : Type 0 where
  pub line : List ℕ
  pub k : ℕ
  pub first : List ℕ
  pub l : ℕ
  pub second : List ℕ

abbrev pub is_both : Option (Float × Float) → Bool
is_both (Some p) = true
is_both None = false

abbrev pub pair_in : Call
pair_in = equation (λ (x : Fields). value.pair_field x.first x.second (word_in x.line x.k) (word_in x.line x.l)) is_both

-- this one promises where the value stands, or another place with the same bytes
abbrev pub is_at : Option Span → Bool
is_at (Some s) = true
is_at None = false

abbrev pub value-at : Call
value-at = record { Given = Field; Left = Option Span; Promise = λ x y. Found x.line x.k x.key y; accepted = is_at }

abbrev pub words_count : Call
words_count = equation (λ (line : List ℕ). length (words_of line)) always

-- ---- a line of a job; the fields that four commands share; the numbers of a list

abbrev pub is_line : Line → Bool
is_line line.Nothing = true
is_line line.Syntax = false
is_line (line.Tables amp time oversize) = true
is_line (line.Channel n osc) = true
is_line (line.Shape n) = true
is_line (line.Spline n d c k) = true
is_line (line.Command c) = true
is_line line.Run = true
is_line line.States = true
is_line (line.Crosstalk n) = true
is_line (line.Sheet n) = true
is_line (line.Rows n len) = true
is_line (line.Sample s) = true
is_line line.Mixer = true
is_line (line.Iir n) = true
is_line (line.Fir n) = true
is_line line.Print = true

abbrev pub job_read : Call
job_read = equation line_of is_line

-- whether every word from one on is a number: of no line, a program would refuse all numbers
abbrev pub all-numbers : Call
all-numbers = equation (λ (x : Place). numbers_from x.at (words_of x.text)) (λ b. b)

abbrev pub is_turn : Option Turn → Bool
is_turn (Some t) = true
is_turn None = false

abbrev pub turn_by : Call
turn_by = equation (λ (x : Field). turn_of x.key (words_of x.line)) is_turn

pub record Numbered : Type 0 where
  pub count : ℕ
  pub numbers : List Float

abbrev pub list-numbers : Call
list-numbers =
    record { Given = List ℕ × ℕ × List Float; Left = Numbered; Promise = λ x y. Stored x.0 x.1 x.2 y.count y.numbers; accepted = always }

-- ---- the sheet: read, printed, answered

pub record Sheet : Type 0 where
  pub text : List ℕ
  pub matrix : List Float

pub record Held : Type 0 where
  pub reading : Reading
  pub matrix : List Float

abbrev pub sheet-read : Call
sheet-read =
    record { Given = Sheet; Left = Held; Promise = λ x y. Read x.text x.matrix y.reading y.matrix; accepted = λ y. is_done y.reading.answer }

pub record Printing : Type 0 where
  pub count : ℕ
  pub names : List Name
  pub matrix : List Float
  pub out : List ℕ

pub record Out : Type 0 where
  pub printed : Answer
  pub out : List ℕ

abbrev pub is_bytes : Answer → Bool
is_bytes (Ok n) = true
is_bytes (Err e) = false

abbrev pub sheet-print : Call
sheet-print =
    record {
      Given = Printing;
      Left = Out;
      Promise = λ x y. Print x.count x.names x.matrix x.out y.printed y.out;
      accepted = λ y. is_bytes y.printed;
    }

pub record Answering : Type 0 where
  pub text : List ℕ
  pub out : List ℕ

-- something is put, and it begins with the `c` (99) of `channels=`, not with the `r` of `refused=`
abbrev pub sheet-answer : Call
sheet-answer =
    record {
      Given = Answering;
      Left = Out;
      Promise = λ x y. Answered x.text x.out y.printed y.out;
      accepted = λ y. is_bytes y.printed && eqb (get_or y.out 0 0) 99;
    }

-- ---- a sheet behind a job's line

pub record Behind : Type 0 where
  pub text : List ℕ
  pub count : ℕ
  pub cross : Crosstalk
  pub factors : List Float

pub record Left : Type 0 where
  pub taken : Taken
  pub factors : List Float

abbrev pub is_sheet : Option Answer → Bool
is_sheet (Some answer) = is_done answer
is_sheet None = false

abbrev pub take-sheet : Call
take-sheet =
    record {
      Given = Behind;
      Left = Left;
      Promise = λ x y. Took x.text x.count x.cross x.factors y.taken y.factors;
      accepted = λ y. is_sheet y.taken.inset;
    }
