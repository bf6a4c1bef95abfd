-- Demand 1 of the public calls that can refuse and are no call of `system`: "Every call ends with an answer for every input. Bad input is refused by
-- number". The calls and their promises are those of `stand_ins`, where they are shown to be the code's own. Definitions only.
use Rattle.std.specs.Prelude.{ℕ, ◌≡◌, true, List, [], ◌∷◌, Ok, Err}
use Rattle.exact.specs.Among.{among}
use Rattle.quant.specs.Refusal.{number_of, Answer}
use Rattle.quant.specs.Aligned.{aligned_answer, placed_answer}
use Rattle.quant.specs.Phaser.{phased_answer}
use Rattle.quant.specs.Settings.{fitting_answer}
use Rattle.executor.specs.Osc.{moved_answer, swapped_answer}
use Rattle.pulse.specs.Weight.{weighed_answer}
use Rattle.tables.specs.Tables.{told_answer, naming_answer}
use Rattle.shape.specs.Parts.{parted_answer}
use Rattle.shape.specs.Envelope.{enveloped_answer}
use Rattle.placing.specs.Judged.{judged_answer}
use Rattle.sheet.specs.Sheet.{printed_answer}
use Rattle.crosstalk.specs.Crosstalk.{plan_answer}
use Rattle.stand_ins.specs.StandIns.{Call}
use Rattle.stand_ins.specs.ByValue as value
use Rattle.stand_ins.specs.Texts as text
use Rattle.stand_ins.specs.Buffers as buffer

-- a call; document 01's answer of what it gives back; its numbers, in document 01's order; and that what was lent to it is as it came
pub record Refusing : Type 1 where
  pub call : Call
  pub answer : call.Left → Answer
  pub numbers : List ℕ
  pub Kept : call.Given → call.Left → Type 0

-- refused: by one of the numbers, and all that was lent is as it came
abbrev pub Said : List ℕ → Type 0 → Answer → Type 0
Said numbers kept (Ok count) = Unit {0}
Said numbers kept (Err e) = (among numbers (number_of e.why) ≡ true) × kept

-- every input has an answer that the promise allows, and only one; and what is refused is refused as said
pub record Answers (r : Refusing) : Type 0 where
  pub answered : (x : r.call.Given) → (y : r.call.Left) × r.call.Promise x y
  pub only : (x : r.call.Given) (y z : r.call.Left) → r.call.Promise x y → r.call.Promise x z → y ≡ z
  pub said : (x : r.call.Given) (y : r.call.Left) → r.call.Promise x y → Said r.numbers (r.Kept x y) (r.answer y)

-- ---- the calls

pub data Which : Type 0 where
  align place phaser set-up : Which
  shift-phase set-phase shift_freq set_freq swap-phase : Which
  weigh lay-out measure envelope judge : Which
  state plan steps name-read : Which
  sheet-read sheet-print sheet-answer : Which
  mix-lists execute-owned : Which

-- nothing is lent
abbrev pub none : {A B : Type 0} → A → B → Type 0
none x y = Unit {0}

unfoldable pub refusing : Which → Refusing
refusing align = record { call = value.align; answer = aligned_answer; numbers = 8 ∷ []; Kept = none }
refusing place = record { call = value.place; answer = placed_answer; numbers = 8 ∷ 9 ∷ 10 ∷ []; Kept = none }
refusing phaser = record { call = value.phaser; answer = phased_answer; numbers = 8 ∷ []; Kept = none }
refusing set-up = record { call = value.set-up; answer = fitting_answer; numbers = 1 ∷ []; Kept = none }
refusing shift-phase = record { call = value.shift-phase; answer = moved_answer; numbers = 8 ∷ []; Kept = none }
refusing set-phase = record { call = value.set-phase; answer = moved_answer; numbers = 8 ∷ []; Kept = none }
refusing shift_freq = record { call = value.shift_freq; answer = moved_answer; numbers = 8 ∷ []; Kept = none }
refusing set_freq = record { call = value.set_freq; answer = moved_answer; numbers = 8 ∷ []; Kept = none }
refusing swap-phase = record { call = value.swap-phase; answer = swapped_answer; numbers = 8 ∷ []; Kept = none }
refusing weigh = record { call = value.weigh; answer = weighed_answer; numbers = 8 ∷ []; Kept = none }
refusing lay-out = record { call = value.lay-out; answer = parted_answer; numbers = 11 ∷ 12 ∷ []; Kept = none }
refusing measure = record { call = value.measure; answer = enveloped_answer; numbers = 11 ∷ 12 ∷ 8 ∷ []; Kept = none }
refusing envelope = record { call = buffer.envelope; answer = λ y. enveloped_answer y.answer; numbers = 11 ∷ 12 ∷ 8 ∷ []; Kept = λ x y. y.scratch ≡ x.scratch }
refusing judge = record { call = value.judge; answer = judged_answer; numbers = 8 ∷ 9 ∷ 10 ∷ 11 ∷ 12 ∷ []; Kept = none }
refusing state = record { call = value.state; answer = told_answer; numbers = 2 ∷ 7 ∷ []; Kept = none }
refusing plan = record { call = value.plan; answer = plan_answer; numbers = 13 ∷ 2 ∷ 17 ∷ 18 ∷ 7 ∷ []; Kept = none }
refusing steps = record { call = value.answer; answer = λ y. y; numbers = 13 ∷ 2 ∷ []; Kept = none }
refusing name-read = record { call = text.name-read; answer = naming_answer; numbers = 2 ∷ []; Kept = none }
refusing sheet-read = record { call = text.sheet-read; answer = λ y. y.reading.answer; numbers = 13 ∷ 15 ∷ 2 ∷ 17 ∷ 19 ∷ []; Kept = λ x y. y.matrix ≡ x.matrix }
refusing sheet-print = record { call = text.sheet-print; answer = λ y. printed_answer y.printed; numbers = 13 ∷ 2 ∷ 17 ∷ []; Kept = λ x y. y.out ≡ x.out }
refusing sheet-answer = record { call = text.sheet-answer; answer = λ y. printed_answer y.printed; numbers = 13 ∷ []; Kept = λ x y. y.out ≡ x.out }
-- of both the commands or pulses before the refused one remain, as `system` says of `execute` and `sample`
refusing mix-lists = record { call = buffer.mix-lists; answer = λ y. y.out.answer; numbers = 13 ∷ 8 ∷ 9 ∷ 10 ∷ 11 ∷ 12 ∷ []; Kept = λ x y. (y.work ≡ x.work) × (y.marks ≡ x.marks) }
refusing execute-owned = record { call = buffer.execute-owned; answer = λ y. y.result.answer; numbers = 13 ∷ 2 ∷ 4 ∷ 5 ∷ 6 ∷ 7 ∷ 8 ∷ 3 ∷ []; Kept = none }
