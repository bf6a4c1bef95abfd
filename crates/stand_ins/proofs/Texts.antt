-- No program for one of the calls on texts that keeps its promise is a stand-in: one input, or two, by computation over the definitions. Assumes nothing.
use Rattle.quant.specs.Refusal.{Answer}
use Rattle.std.specs.Prelude.{Option, Some, None, Ok, Err}
use Prim.Native.Nat.{ℕ}
use mathlib.Core.Path.{◌≡◌, refl, sym, ap, ◌∙◌}
use mathlib.Core.Bool.{Bool, true, false, true≢false}
use mathlib.Core.List.{List, [], ◌++◌}
use lib.Dec.{eqb}
use lib.Ieee.{Float, binary64, to_bits, of_bits, round}
use lib.ListN.{length, take, drop, replicate}
use Rattle.exact.specs.Doubles.{nought}
use Rattle.naming.specs.declared.Name.{Name}
use Rattle.naming.specs.Name as name
use Rattle.hexadecimal.specs.Hex as hex
use Rattle.lines.specs.Field.{number_at}
use Rattle.decimal.specs.Digits as digits
use Rattle.decimal.specs.Number as number
use Rattle.fields.specs.declared.words.Span.{Span}
use Rattle.fields.specs.Words.{words_of, is_word, Found}
use Rattle.fields.specs.Value as value
use Rattle.job.specs.Line as line
use Rattle.job.specs.List as list
use Rattle.job.specs.Turn.{turn_of}
use Rattle.numbers.specs.Numbers.{numbers_of, listed}
use Rattle.sheet.specs.Sheet as sheet
use Rattle.sheet_answer.specs.Answer as answer
use Rattle.lines.specs.Text.{lines_of}
use Rattle.job_sheet.specs.First as first
use Rattle.job_sheet.specs.Inset as inset
use Rattle.sampler_laws.specs.Added.{count_in}
use Rattle.bench_table.specs.Call.{channel}
use Rattle.stand_ins.specs.Whole.{anything}
use Rattle.stand_ins.specs.ByValue.{always}
use Rattle.stand_ins.specs.Texts as text
use Rattle.stand_ins.specs.Inputs as given
use Rattle.stand_ins.specs.Table.{itself, Texts}
use Rattle.stand_ins.proofs.StandIns.{Only, not-all-refused, not-fixed, accepts, varies}

-- ---- the one outcome that a promise of several equations allows

module _ (x : text.Place) where
  only-hex : (word : ℕ) → Only text.hex-write (word, x) (record { answer = hex.room x.text x.at; text = hex.written word x.text x.at })
  only-hex word z p = λ j. record { answer = p.answered j; text = p.left j }

  only-double : (d : Float) → Only text.put-double (d, x) (record { answer = hex.room x.text x.at; text = hex.written (to_bits binary64 d) x.text x.at })
  only-double d z p = λ j. record { answer = p.answered j; text = p.left j }

  only-name : (n : Name) → Only text.name-write (n, x) (record { answer = name.writable n x.text x.at; text = name.written n x.text x.at })
  only-name n z p = λ j. record { answer = p.answered j; text = p.left j }

module _ (line : List ℕ) where
  abbrev stored : List Float
  stored = take 2 (listed line 0)

  only-list : Only text.list-numbers (given.listing line) (record { count = length stored; numbers = stored ++ drop (length stored) (replicate 2 nought) })
  only-list z p = λ j. record { count = p.count j; numbers = (p.left ∙ ap (λ (n : ℕ). stored ++ drop n (replicate 2 nought)) p.count) j }

module _ (n : ℕ) where
  abbrev read : text.Held
  read =
      let o = sheet.outcome (given.sheet-text n) 64 in
      record { reading = record { answer = sheet.answer_of o; names = sheet.names_of o }; matrix = sheet.matrix_of o (replicate 64 nought) }

  only-read : Only text.sheet-read (given.sheet n) read
  only-read z p = λ j. record { reading = record { answer = p.answered j; names = p.named j }; matrix = p.left j }

  abbrev put : text.Out
  put =
      let x = given.printing n in
      let r = sheet.printed_of x.count x.names x.matrix 256 in
      record { printed = r; out = sheet.bytes_after x.count x.names x.matrix r x.out }

  only-print : Only text.sheet-print (given.printing n) put
  only-print z p = λ j. record { printed = p.answered j; out = p.left j }

  abbrev answered : text.Out
  answered = record { printed = answer.answer_prints (given.sheet-text n) 4096; out = answer.answer_left (given.sheet-text n) (replicate 4096 0) }

  only-answer : Only text.sheet-answer (given.answering n) answered
  only-answer z p = λ j. record { printed = p.answer j; out = p.left j }

abbrev taken : text.Left
taken =
    let x = given.sheet-behind in
    let f = first.first_of x.count x.text in
    record { taken = inset.taken_of x.text x.count x.cross 64 f; factors = inset.factors_after x.text x.factors f }

only-taken : Only text.take-sheet given.sheet-behind taken
only-taken z p = λ j. record { taken = p.taken j; factors = p.left j }

-- something stands behind the key, so that the place is told
is_behind : sheet.Behind → Bool
is_behind (sheet.value bytes) = true
is_behind sheet.other = false

stands : (z : Option Span) → Found given.q-text 0 [] z → text.is_at z ≡ true
unfolding is_behind words_of sheet.behind
stands (Some s) p = refl
stands None p = sym (ap is_behind p.is)

-- what tells a count of 1, and the bytes of one channel's sheet
is_one : ℕ → Bool
is_one n = eqb n 1

is_short : Answer → Bool
is_short (Ok n) = eqb n 50
is_short (Err e) = false

pub texts : Texts
unfolding is_one is_short of_bits round to_bits hex.digit_value hex.digit_of hex.all_digits hex.number hex.digits hex.room hex.field hex.word_at hex.written number_at name.name_byte name.every name.accepted name.word_of name.low_bytes name.bytes_of_word name.sixteen name.bytes_of name.past_end name.named name.naming_of name.is_name name.in_place name.same_name name.writable name.written number.parted number.significand_of number.few_of number.power_of number.power_at number.scaled_by number.size_of number.hex_size_of number.is_hex number.unsigned_of number.decimal_of number.number_of digits.place_of digits.digit_of digits.digits_from digits.digits_of value.number_field value.whole_field value.pair_field value.name_of value.name_field value.shape_field value.flag_of value.flag_field value.signed value.level_of value.level_field words_of is_word line.tables_of line.channel_of line.shape_of line.rows_of line.sample_of line.action_of line.setting_of line.line_of list.all_numbers list.numbers_from turn_of numbers_of sheet.channels_key sheet.column_key sheet.row_key sheet.factor_key sheet.onto sheet.cut sheet.behind name.is_in sheet.position sheet.nothing sheet.count_step sheet.column_named sheet.column_step sheet.row_named sheet.row_step sheet.factor_bits sheet.factor_step sheet.step sheet.complete sheet.onward sheet.read_from sheet.outcome sheet.answer_of sheet.blank sheet.eight sheet.names_of sheet.doubles sheet.under sheet.rows_for sheet.matrix_of sheet.row_names sheet.good_names sheet.single sheet.among sheet.finite_bits sheet.full_blocks sheet.count_text sheet.columns_text sheet.factors_text sheet.blocks_text sheet.sheet_text sheet.patterns sheet.blocks_of sheet.sheet_of sheet.all_finite sheet.print_fits sheet.columns_judged sheet.factor_at sheet.factors_judged sheet.printed_by sheet.printed_of sheet.bytes_after answer.decimal_of answer.decimal answer.refused_key answer.line_key answer.refused_text answer.zeros answer.text_for answer.answer_text answer.answer_prints answer.answer_left lines_of first.lines_bytes first.first_of inset.taken_of inset.factors_after
texts =
    record {
      hex-read = accepts _ text.is_word (given.first given.sixteen-digits) refl;
      hex-write = not-all-refused text.hex-write _ _ (only-hex (given.first given.sixteen-digits) 0) refl;
      put-double = not-all-refused text.put-double _ _ (only-double (given.first given.sixteen-digits) nought) refl;
      number-at = accepts _ text.is_word (given.first given.blank-digits) refl;
      name-read = accepts _ text.is_named given.q-text refl;
      name-write = not-all-refused text.name-write _ _ (only-name (given.first given.q-text) channel) refl;
      decimal-read = accepts _ text.is_double given.one-text refl;
      figures = accepts _ text.is_value given.one-text refl;
      number_in = accepts _ text.is_double (given.bare given.one-text) refl;
      whole_in = accepts _ text.is_value (given.bare given.one-text) refl;
      name_in = accepts _ text.is_called (given.bare given.q-text) refl;
      shape_in = accepts _ text.is_shaped (given.bare given.q-text) refl;
      flag_in = accepts _ text.is_flag (given.bare given.one-text) refl;
      level_in = accepts _ text.is_level (given.bare given.one-text) refl;
      pair_in = accepts _ text.is_both given.bare-two refl;
      value-at = λ Asked f keeps asked refuses. true≢false (sym (stands _ (keeps _ asked)) ∙ refuses _ asked);
      job_read = accepts _ text.is_line given.run-text refl;
      all-numbers = accepts _ (λ b. b) (given.first given.one-text) refl;
      turn_by = accepts _ text.is_turn given.turn-line refl;
      sheet-read = not-all-refused text.sheet-read _ _ (only-read 1) refl;
      sheet-print = not-all-refused text.sheet-print _ _ (only-print 1) refl;
      sheet-answer = not-all-refused text.sheet-answer _ _ (only-answer 1) refl;
      take-sheet = not-all-refused text.take-sheet _ _ only-taken refl;
      words-counted = varies _ always itself anything is_one given.one-text given.two-ones refl refl refl refl refl;
      numbers-counted = not-fixed text.list-numbers (λ (y : text.Numbered). y.count) anything is_one _ _ _ _ (only-list given.one-text) (only-list given.two-ones) refl refl refl refl refl;
      columns-counted = not-fixed text.sheet-read (λ (y : text.Held). y.reading.answer) anything (λ (r : Answer). is_one (count_in r)) _ _ _ _ (only-read 1) (only-read 2) refl refl refl refl refl;
      bytes_counted = not-fixed text.sheet-print (λ (y : text.Out). y.printed) anything is_short _ _ _ _ (only-print 1) (only-print 2) refl refl refl refl refl;
      answer-counted = not-fixed text.sheet-answer (λ (y : text.Out). y.printed) anything is_short _ _ _ _ (only-answer 1) (only-answer 2) refl refl refl refl refl;
    }
