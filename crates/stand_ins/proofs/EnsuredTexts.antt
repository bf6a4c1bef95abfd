-- The promises of the calls on texts are the code's own (see EnsuredWhole.antt). Assumes nothing.
use mathlib.Core.Path.{refl}
use seplogic.Ra.Ura.{Ura}
use base.Logic.{SProp}
use prog.Memory.{Memory}
use prog.Routine.{Routine}
use types.Logic.{Logic}
use contract.Monad.{Fun}
use Rattle.hexadecimal.specs.contracts.read as hex-read
use Rattle.lines.specs.contracts.field.number_at as number-at
use Rattle.naming.specs.contracts.from_bytes as from_bytes
use Rattle.hexadecimal.specs.contracts.write as hex-write
use Rattle.decimal.specs.contracts.print.put_double as put-double
use Rattle.naming.specs.contracts.write as name-write
use Rattle.decimal.specs.contracts.number.read as decimal-read
use Rattle.decimal.specs.contracts.digits.figures as figures
use Rattle.fields.specs.contracts.value.number_in as number_in
use Rattle.fields.specs.contracts.value.whole_in as whole_in
use Rattle.fields.specs.contracts.value.name_in as name_in
use Rattle.fields.specs.contracts.value.shape_in as shape_in
use Rattle.fields.specs.contracts.value.flag_in as flag_in
use Rattle.fields.specs.contracts.value.level_in as level_in
use Rattle.fields.specs.contracts.pair.pair_in as pair_in
use Rattle.fields.specs.contracts.words.value_at as value-at
use Rattle.fields.specs.contracts.words.count as words_count
use Rattle.job.specs.contracts.line.read as job_read
use Rattle.job.specs.contracts.list.all_numbers as all-numbers
use Rattle.job.specs.contracts.turn.turn_by as turn_by
use Rattle.numbers.specs.contracts.numbers as numbers
use Rattle.sheet.specs.contracts.read.read as sheet-read
use Rattle.sheet.specs.contracts.print.print as sheet-print
use Rattle.sheet_answer.specs.contracts.answer as sheet-answer
use Rattle.job_sheet.specs.contracts.take_sheet as take-sheet
use Rattle.stand_ins.specs.Texts as call
use Rattle.stand_ins.proofs.Says.{Says}

module _ {M : Type 1} {𝓤 : Ura M} (𝓛 : Logic 𝓤) (mem : Memory → SProp 𝓤) (run : Routine → Fun 𝓤) where
  pub hex-read-says : Says 𝓤 hex-read.ended (hex-read.clauses 𝓛 mem run) (λ κs a r e. (call.hex-read).Promise (record { text = a.0.now; at = a.1.0 }) r)
  hex-read-says κs a g r e = (refl, refl)

  pub number-at-says : Says 𝓤 number-at.ended (number-at.clauses 𝓛 mem run) (λ κs a r e. (call.number-at).Promise (record { text = a.0.now; at = a.1.0 }) r)
  number-at-says κs a g r e = (refl, refl)

  pub name-read-says : Says 𝓤 from_bytes.ended (from_bytes.clauses 𝓛 mem run) (λ κs a r e. (call.name-read).Promise a.0.now r)
  name-read-says κs a g r e = (refl, refl)

  pub hex-write-says : Says 𝓤 hex-write.ended (hex-write.clauses 𝓛 mem run) (λ κs a r e. (call.hex-write).Promise (a.0, record { text = a.1.0.now; at = a.1.1.0 }) (record { answer = r; text = e.1.0.now }))
  hex-write-says κs a g r e = (refl, refl)

  pub put-double-says : Says 𝓤 put-double.ended (put-double.clauses 𝓛 mem run) (λ κs a r e. (call.put-double).Promise (a.0, record { text = a.1.0.now; at = a.1.1.0 }) (record { answer = r; text = e.1.0.now }))
  put-double-says κs a g r e = (refl, refl)

  pub name-write-says : Says 𝓤 name-write.ended (name-write.clauses 𝓛 mem run) (λ κs a r e. (call.name-write).Promise (a.0, record { text = a.1.0.now; at = a.1.1.0 }) (record { answer = r; text = e.1.0.now }))
  name-write-says κs a g r e = (refl, refl)

  pub decimal-read-says : Says 𝓤 decimal-read.ended (decimal-read.clauses 𝓛 mem run) (λ κs a r e. (call.decimal-read).Promise a.0.now r)
  decimal-read-says κs a g r e = (refl, refl)

  pub figures-says : Says 𝓤 figures.ended (figures.clauses 𝓛 mem run) (λ κs a r e. (call.figures).Promise a.0.now r)
  figures-says κs a g r e = (refl, refl)

  pub number_in_says : Says 𝓤 number_in.ended (number_in.clauses 𝓛 mem run) (λ κs a r e. (call.number_in).Promise (record { line = a.0.now; k = a.1.0; key = a.1.1.0.now }) r)
  number_in_says κs a g r e = (refl, refl)

  pub whole_in_says : Says 𝓤 whole_in.ended (whole_in.clauses 𝓛 mem run) (λ κs a r e. (call.whole_in).Promise (record { line = a.0.now; k = a.1.0; key = a.1.1.0.now }) r)
  whole_in_says κs a g r e = (refl, refl)

  pub name_in_says : Says 𝓤 name_in.ended (name_in.clauses 𝓛 mem run) (λ κs a r e. (call.name_in).Promise (record { line = a.0.now; k = a.1.0; key = a.1.1.0.now }) r)
  name_in_says κs a g r e = (refl, refl)

  pub shape_in_says : Says 𝓤 shape_in.ended (shape_in.clauses 𝓛 mem run) (λ κs a r e. (call.shape_in).Promise (record { line = a.0.now; k = a.1.0; key = a.1.1.0.now }) r)
  shape_in_says κs a g r e = (refl, refl)

  pub flag_in_says : Says 𝓤 flag_in.ended (flag_in.clauses 𝓛 mem run) (λ κs a r e. (call.flag_in).Promise (record { line = a.0.now; k = a.1.0; key = a.1.1.0.now }) r)
  flag_in_says κs a g r e = (refl, refl)

  pub level_in_says : Says 𝓤 level_in.ended (level_in.clauses 𝓛 mem run) (λ κs a r e. (call.level_in).Promise (record { line = a.0.now; k = a.1.0; key = a.1.1.0.now }) r)
  level_in_says κs a g r e = (refl, refl)

  pub pair_in_says : Says 𝓤 pair_in.ended (pair_in.clauses 𝓛 mem run) (λ κs a r e. (call.pair_in).Promise (record { line = a.0.now; k = a.1.0; first = a.1.1.0.now; l = a.1.1.1.0; second = a.1.1.1.1.0.now }) r)
  pair_in_says κs a g r e = (refl, refl)

  pub value-at-says : Says 𝓤 value-at.ended (value-at.clauses 𝓛 mem run) (λ κs a r e. (call.value-at).Promise (record { line = a.0.now; k = a.1.0; key = a.1.1.0.now }) r)
  value-at-says κs a g r e = (refl, refl)

  pub words-count-says : Says 𝓤 words_count.ended (words_count.clauses 𝓛 mem run) (λ κs a r e. (call.words_count).Promise a.0.now r)
  words-count-says κs a g r e = (refl, refl)

  pub job-read-says : Says 𝓤 job_read.ended (job_read.clauses 𝓛 mem run) (λ κs a r e. (call.job_read).Promise a.0.now r)
  job-read-says κs a g r e = (refl, refl)

  pub all-numbers-says : Says 𝓤 all-numbers.ended (all-numbers.clauses 𝓛 mem run) (λ κs a r e. (call.all-numbers).Promise (record { text = a.0.now; at = a.1.0 }) r)
  all-numbers-says κs a g r e = (refl, refl)

  pub turn-by-says : Says 𝓤 turn_by.ended (turn_by.clauses 𝓛 mem run) (λ κs a r e. (call.turn_by).Promise (record { line = a.0.now; k = 0; key = a.1.0.now }) r)
  turn-by-says κs a g r e = (refl, refl)

  pub list-numbers-says : Says 𝓤 numbers.ended (numbers.clauses 𝓛 mem run) (λ κs a r e. (call.list-numbers).Promise (a.0.now, a.1.0, a.1.1.0.now) (record { count = r; numbers = e.1.1.0.now }))
  list-numbers-says κs a g r e = (refl, refl)

  pub sheet-read-says : Says 𝓤 sheet-read.ended (sheet-read.clauses 𝓛 mem run) (λ κs a r e. (call.sheet-read).Promise (record { text = a.0.now; matrix = a.1.0.now }) (record { reading = r; matrix = e.1.0.now }))
  sheet-read-says κs a g r e = (refl, refl)

  pub sheet-print-says : Says 𝓤 sheet-print.ended (sheet-print.clauses 𝓛 mem run) (λ κs a r e. (call.sheet-print).Promise (record { count = a.0; names = a.1.0; matrix = a.1.1.0.now; out = a.1.1.1.0.now }) (record { printed = r; out = e.1.1.1.0.now }))
  sheet-print-says κs a g r e = (refl, refl)

  pub sheet-answer-says : Says 𝓤 sheet-answer.ended (sheet-answer.clauses 𝓛 mem run) (λ κs a r e. (call.sheet-answer).Promise (record { text = a.0.now; out = a.1.0.now }) (record { printed = r; out = e.1.0.now }))
  sheet-answer-says κs a g r e = (refl, refl)

  pub take-sheet-says : Says 𝓤 take-sheet.ended (take-sheet.clauses 𝓛 mem run) (λ κs a r e. (call.take-sheet).Promise (record { text = a.0.now; count = a.1.0; cross = a.1.1.0; factors = a.1.1.1.0.now }) (record { taken = r; factors = e.1.1.1.0.now }))
  take-sheet-says κs a g r e = (refl, refl)
