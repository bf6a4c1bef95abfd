-- Which of document 01's stand-ins are ruled out for which call, and the inputs that show it. Definitions only.
use Rattle.std.specs.Prelude.{List, Float, length, replicate}
use Rattle.exact.specs.Doubles.{nought, one}
use Rattle.tables.specs.declared.Tables.{Tables}
use Rattle.merge.specs.declared.work.Ends.{Ends}
use Rattle.merge.specs.Work.{Gathered}
use Rattle.commands.specs.Run.{Ran}
use Rattle.mixdown.specs.Sampled.{Rowed, mixed_down}
use Rattle.bench_table.specs.Numbers.{over}
use Rattle.bench_table.specs.Call.{channel}
use Rattle.stand_ins.specs.StandIns.{NotAllRefused, NotAlways, NotFixed, Row, I, Q, RowsMove}
use Rattle.stand_ins.specs.Whole.{anything, whole_system, row_left, row_came, answer_of, sampling_call, rows_left, first_pulse, first_bin, OnRows, plateau, on, execute, no-command, no-pulse, two-pulses, two-bins, else, sampling_of, Trial, try_of, mixer-numbers, iir-numbers, fir-numbers, bin-alone, bin-pair, pulse-alone, pulse-pair, pulse-of-each}
use Rattle.stand_ins.specs.ByValue as value
use Rattle.stand_ins.specs.Texts as text
use Rattle.stand_ins.specs.Buffers as lent
use Rattle.stand_ins.specs.Inputs as given

abbrev pub itself : {A : Type 0} → A → A
itself x = x

-- ---- the ten calls of `system`

pub record TenCalls : Type 1 where
  -- "all calls refused": of each call
  pub all-refused : (t : Trial) → NotAllRefused whole_system (try_of t).asking
  -- "rows untouched", "one fixed row": a sampling of a plateau, one of Hann's shape, one of a spline, and the four steps
  pub rows-move : (k : OnRows) → RowsMove whole_system row_left row_came (on 1 k).asking (on 0 k).asking
  -- "only the first pulse or bin sampled"
  pub first-pulse : NotAlways sampling_call rows_left first_pulse (sampling_of two-pulses)
  pub first-bin : NotAlways sampling_call rows_left first_bin (sampling_of two-bins)
  -- "a count not tied to the list"
  pub commands-counted : NotFixed whole_system answer_of anything (else execute).asking (else no-command).asking
  pub pulses-counted : NotFixed whole_system answer_of anything (on 0 plateau).asking (else no-pulse).asking

-- ---- by value

pub record ByValue : Type 1 where
  -- "one fixed .. cosine"
  pub cosine : NotFixed value.cosine itself anything nought one
  pub sine : NotFixed value.sine itself anything nought one
  pub cosine-wrapped : NotFixed value.cosine-wrapped itself anything nought one
  pub hann : NotFixed value.hann itself anything nought (over 5 10)
  pub spline-value : NotFixed value.spline-value itself anything (given.bending nought) (given.bending (over 5 10))
  pub point : NotFixed value.point itself anything (given.pointing 1) (given.pointing 0)
  pub both-cosine : NotFixed value.both (λ (y : Float × Float). y.0) anything nought one
  pub both-sine : NotFixed value.both (λ (y : Float × Float). y.1) anything nought one
  pub phaser-fixed : NotFixed value.phaser itself anything nought (over 5 10)
  -- "all calls refused"
  pub phaser : NotAllRefused value.phaser nought
  pub align : NotAllRefused value.align given.timed
  pub place : NotAllRefused value.place given.timed
  pub align-c : NotAllRefused value.align-c given.timed
  pub place-c : NotAllRefused value.place-c given.timed
  pub set-up : NotAllRefused value.set-up given.clocked
  pub shift-phase : NotAllRefused value.shift-phase given.turning
  pub set-phase : NotAllRefused value.set-phase given.turning
  pub shift_freq : NotAllRefused value.shift_freq given.turning
  pub set_freq : NotAllRefused value.set_freq given.turning
  pub swap-phase : NotAllRefused value.swap-phase given.swapping
  pub weigh : NotAllRefused value.weigh given.weighing
  pub lay-out : NotAllRefused value.lay-out given.curve
  pub measure : NotAllRefused value.measure given.bent
  pub judge : NotAllRefused value.judge given.pulsed
  pub state : NotAllRefused value.state given.looking
  pub find : NotAllRefused value.find given.looking
  pub find-shape : NotAllRefused value.find-shape given.shape-looking
  pub spline-check : NotAllRefused value.spline-check given.knotted
  pub spline-fine : NotAllRefused value.spline-fine (given.bending nought)
  pub plan : NotAllRefused value.plan given.planning
  pub answer : NotAllRefused value.answer given.fine

-- ---- texts

pub record Texts : Type 1 where
  -- "all calls refused"
  pub hex-read : NotAllRefused text.hex-read (given.first given.sixteen-digits)
  pub hex-write : NotAllRefused text.hex-write (0, given.first given.sixteen-digits)
  pub put-double : NotAllRefused text.put-double (nought, given.first given.sixteen-digits)
  pub number-at : NotAllRefused text.number-at (given.first given.blank-digits)
  pub name-read : NotAllRefused text.name-read given.q-text
  pub name-write : NotAllRefused text.name-write (channel, given.first given.q-text)
  pub decimal-read : NotAllRefused text.decimal-read given.one-text
  pub figures : NotAllRefused text.figures given.one-text
  pub number_in : NotAllRefused text.number_in (given.bare given.one-text)
  pub whole_in : NotAllRefused text.whole_in (given.bare given.one-text)
  pub name_in : NotAllRefused text.name_in (given.bare given.q-text)
  pub shape_in : NotAllRefused text.shape_in (given.bare given.q-text)
  pub flag_in : NotAllRefused text.flag_in (given.bare given.one-text)
  pub level_in : NotAllRefused text.level_in (given.bare given.one-text)
  pub pair_in : NotAllRefused text.pair_in given.bare-two
  pub value-at : NotAllRefused text.value-at (given.bare given.q-text)
  pub job_read : NotAllRefused text.job_read given.run-text
  pub all-numbers : NotAllRefused text.all-numbers (given.first given.one-text)
  pub turn_by : NotAllRefused text.turn_by given.turn-line
  pub sheet-read : NotAllRefused text.sheet-read (given.sheet 1)
  pub sheet-print : NotAllRefused text.sheet-print (given.printing 1)
  pub sheet-answer : NotAllRefused text.sheet-answer (given.answering 1)
  pub take-sheet : NotAllRefused text.take-sheet given.sheet-behind
  -- "a count not tied to the list"
  pub words-counted : NotFixed text.words_count itself anything given.one-text given.two-ones
  pub numbers-counted : NotFixed text.list-numbers (λ (y : text.Numbered). y.count) anything (given.listing given.one-text) (given.listing given.two-ones)
  pub columns-counted : NotFixed text.sheet-read (λ (y : text.Held). y.reading.answer) anything (given.sheet 1) (given.sheet 2)
  pub bytes_counted : NotFixed text.sheet-print (λ (y : text.Out). y.printed) anything (given.printing 1) (given.printing 2)
  pub answer-counted : NotFixed text.sheet-answer (λ (y : text.Out). y.printed) anything (given.answering 1) (given.answering 2)

-- ---- what is lent

-- one of two rows, of what a call is given or leaves
abbrev pub one_of : {A : Type 0} → (A → List Float) → (A → List Float) → Row → A → List Float
one_of i q I a = i a
one_of i q Q a = q a

abbrev pub step_left : Row → lent.Coded-rows → List Float
step_left = one_of (λ (y : lent.Coded-rows). y.i) (λ (y : lent.Coded-rows). y.q)

abbrev pub step_came : Row → lent.Step → List Float
step_came = one_of (λ (x : lent.Step). x.i) (λ (x : lent.Step). x.q)

abbrev pub both_left : Row → lent.Two → List Float
both_left = one_of (λ (y : lent.Two). y.i) (λ (y : lent.Two). y.q)

abbrev pub mixed_left : Row → lent.Mixed → List Float
mixed_left = one_of (λ (y : lent.Mixed). y.out.left.i) (λ (y : lent.Mixed). y.out.left.q)

abbrev pub mixed_came : Row → lent.Mixing → List Float
mixed_came = one_of (λ (x : lent.Mixing). x.lent.i) (λ (x : lent.Mixing). x.lent.q)

-- what the sum would be of the first pulse of each list alone; what the rows would be with the first pulse of all alone, and with the first bin of each
-- list alone
abbrev pub first_summed : lent.Summing → Gathered
first_summed x = lent.gathered_for (record { tables = lent.one_pulse x.tables; taking = x.taking; pulses = x.pulses; work = x.work; marks = x.marks })

abbrev pub mixed_by : Tables → Ends → lent.Mixing → Rowed
mixed_by t ends x = (mixed_down x.settings t x.taking ends x.bins x.work x.marks x.rows x.lent).left

abbrev pub first_mixed : lent.Mixing → Rowed
first_mixed x = mixed_by x.tables (record { ends = replicate 8 1 }) x

abbrev pub first_bin_mixed : lent.Mixing → Rowed
first_bin_mixed x = mixed_by (lent.one_bin x.tables) x.ends x

pub record Buffers : Type 1 where
  -- "all calls refused"
  pub mixer-c : NotAllRefused lent.mixer-c (given.stepping mixer-numbers 1)
  pub iir-c : NotAllRefused lent.iir-c (given.stepping iir-numbers 1)
  pub fir-c : NotAllRefused lent.fir-c (given.stepping fir-numbers 1)
  pub envelope : NotAllRefused lent.envelope given.laying
  pub mix-lists : NotAllRefused lent.mix-lists (given.mixing 1 bin-alone pulse-alone)
  pub execute-owned : NotAllRefused lent.execute-owned (given.owning 1)
  -- "rows untouched", "one fixed row"
  pub mixer-moves : RowsMove lent.mixer-c step_left step_came (given.stepping mixer-numbers 1) (given.stepping mixer-numbers 0)
  pub iir-moves : RowsMove lent.iir-c step_left step_came (given.stepping iir-numbers 1) (given.stepping iir-numbers 0)
  pub fir-moves : RowsMove lent.fir-c step_left step_came (given.stepping fir-numbers 1) (given.stepping fir-numbers 0)
  pub row-filtered : NotAlways lent.filter itself (λ (x : lent.Tapped). x.row) (given.tapped 1)
  pub row-moves : NotFixed lent.filter itself (λ (x : lent.Tapped). length x.row) (given.tapped 1) (given.tapped 0)
  pub plateau-moves : RowsMove lent.add-plateau both_left (one_of (λ (x : lent.Plateau). x.i) (λ (x : lent.Plateau). x.q)) (given.plateau 1) (given.plateau 0)
  pub envelope-moves : RowsMove lent.add-envelope both_left (one_of (λ (x : lent.Envelope). x.i) (λ (x : lent.Envelope). x.q)) (given.enveloped 1) (given.enveloped 0)
  pub lists-move : RowsMove lent.mix-lists mixed_left mixed_came (given.mixing 1 bin-alone pulse-alone) (given.mixing 0 bin-alone pulse-alone)
  pub part-laid : NotAlways lent.lay itself (λ (x : lent.Part). x.part) (given.parting one)
  pub part-moves : NotFixed lent.lay itself (λ (x : lent.Part). length x.part) (given.parting one) (given.parting nought)
  pub spline-laid : NotAlways lent.spline-over itself (λ (x : lent.Bends). x.part) (given.bends nought)
  pub spline-moves : NotFixed lent.spline-over itself (λ (x : lent.Bends). length x.part) (given.bends nought) (given.bends (over 5 10))
  pub scratch-filled : NotAlways lent.envelope (λ (y : lent.Points). y.scratch) (λ (x : lent.Laying). x.scratch) given.laying
  -- "only the first pulse or bin sampled"
  pub first-summed : NotAlways lent.sum-lists itself first_summed (given.summing bin-alone pulse-pair)
  pub first-mixed : NotAlways lent.mix-lists (λ (y : lent.Mixed). y.out.left) first_mixed (given.mixing 0 bin-alone pulse-pair)
  pub first-bin-mixed : NotAlways lent.mix-lists (λ (y : lent.Mixed). y.out.left) first_bin_mixed (given.mixing 0 bin-pair pulse-of-each)
  -- "a count not tied to the list"
  pub commands-counted : NotFixed lent.execute-owned (λ (y : Ran). y.result.answer) anything (given.owning 1) (given.owning 0)
  pub pulses-counted : NotFixed lent.mix-lists (λ (y : lent.Mixed). y.out.answer) anything (given.mixing 0 bin-alone pulse-alone) (given.mixing 0 bin-alone pulse-pair)
