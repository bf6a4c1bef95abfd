-- The ten calls of `system` as one call, what a stand-in of it would show, and what stand-ins are tried on: rows of one sample each, a channel `q` with a
-- pulse or two of amplitude 1 + i, one command. Definitions only.
use Rattle.quant.specs.Refusal.{Answer}
use Rattle.std.specs.Prelude.{ℕ, ◌+◌, ◌-◌, ◌*◌, Bool, true, false, cond, List, [], ◌∷◌, ◌++◌, ℤ, pos, negsuc, Float, length, take, replicate, Ok, Err}
use Rattle.std.specs.Float.Ieee.{neg}
use Rattle.spline.specs.Row as spline-row
use Rattle.pulse.specs.declared.envelope.Shape.TheVariants.{Plain, Hann, Spline}
use Rattle.pulse.specs.declared.list.Pulse.{Pulse}
use Rattle.pulse.specs.Bin.{no_numbers, row_of}
use Rattle.tables.specs.declared.Tables.{Tables}
use Rattle.tables.specs.Tables.{no_name, at_rest, fresh}
use Rattle.commands.specs.declared.command.Command.TheVariants.{Barrier}
use Rattle.commands.specs.declared.command.Arranged.{Arranged}
use Rattle.commands.specs.Step.{no_head}
use Rattle.crosstalk.specs.declared.names.Crosstalk.{Crosstalk}
use Rattle.mixdown.specs.Bins.{bins_by, merged_of}
use Rattle.mixdown.specs.Sampled.{Rowed, rowed}
use Rattle.sampler.specs.declared.Request.{Request}
use Rattle.sampler.specs.Prepared.{settings_of}
use Rattle.sampler_laws.specs.Added.{all_dues, with_all}
use Rattle.bench_table.specs.Numbers.{over, whole, wholes}
use Rattle.bench_table.specs.Call.{channel, bin_with, pulses_lent, no_crosstalk}
use Rattle.system.specs.System.{State, Outcome, Promised}
use Rattle.system.specs.System as system
use Rattle.system.specs.Said.{parts_of, with_pulses}
use Rattle.stand_ins.specs.StandIns.{Call, Row, I, Q}

-- ---- the call: a state and one of the ten, with what it is given

pub record Asking : Type 0 where
  pub state : State
  pub call : system.Call

abbrev pub is_done : Answer → Bool
is_done (Ok k) = true
is_done (Err e) = false

abbrev pub whole_system : Call
whole_system = record { Given = Asking; Left = Outcome; Promise = λ x o. Promised x.state x.call o; accepted = λ o. is_done o.answer }

-- ---- what is shown: the first or the second row, and the answer with its count

abbrev pub row_in : Row → Rowed → List Float
row_in I rows = rows.i
row_in Q rows = rows.q

abbrev pub row_left : Row → Outcome → List Float
row_left x o = row_in x o.after.rows

abbrev pub answer_of : Outcome → Answer
answer_of o = o.answer

-- ---- what a stand-in would show

-- the row as it came
abbrev pub row_came : Row → Asking → List Float
row_came x a = row_in x a.state.rows

-- one for all
abbrev pub anything : {A : Type 0} → A → Unit {0}
anything x = tt

-- ---- a sampling call by itself; the rows that it would leave with the first pulse alone, of all pulses after merging, and with the pulses of the
-- first bin alone

pub record Sampling : Type 0 where
  pub state : State
  pub request : Request
  pub cross : Crosstalk
  pub factors : List Float

abbrev pub asking_of : Sampling → Asking
asking_of x = record { state = x.state; call = system.sample x.request x.cross x.factors }

abbrev pub sampling_call : Call
sampling_call =
    record {
      Given = Sampling;
      Left = Outcome;
      Promise = λ x o. Promised x.state (asking_of x).call o;
      accepted = λ o. is_done o.answer;
    }

abbrev pub rows_left : Outcome → Rowed
rows_left o = o.after.rows

abbrev pub first_pulse : Sampling → Rowed
first_pulse x = (with_pulses x.state x.request x.cross x.factors 1).rows

abbrev pub first_bin : Sampling → Rowed
first_bin x =
    let s = x.state in
    let parts = parts_of s x.request x.cross x.factors in
    with_all (settings_of x.request) x.request.rows (all_dues (merged_of s.tables s.bins s.pulses parts) (take 1 (bins_by s.tables s.bins parts))) s.rows

-- ---- the states: rows that hold x; the rows of the channel's bins, and its pulses, each by its bin and its time

abbrev pub pulse_of : ℕ → Float → Pulse
pulse_of bin time = record { bin = bin; time = record { 0 = time }; amp = record { re = whole 1; im = whole 1 }; drag = record { re = whole 0; im = whole 0 } }

abbrev pub tables_of : ℕ → ℕ → Tables
tables_of bins pulses =
    record {
      amp = record { 0 = whole 0 };
      time = record { 0 = whole 0 };
      oversize = false;
      channels = record { name = channel; osc = at_rest; bins = bins; pulses = pulses } ∷ replicate 7 (fresh no_name at_rest);
      count = 1;
      shapes = replicate 8 no_name;
      named = 0;
    }

abbrev pub holding : Float → List (List Float) → List Pulse → State
holding x bins pulses =
    record {
      tables = tables_of (length bins) (length pulses);
      splines = replicate 8 no_numbers;
      bins = bins ++ replicate (512 - length bins) (no_head ++ no_numbers);
      pulses = pulses_lent pulses;
      rows = rowed (x ∷ []) (x ∷ []) (whole 0 ∷ []);
      work = replicate 8192 no_head;
      marks = replicate 8192 0;
    }

-- a spline's numbers: of degree 1 from 0 at -1 to 2 at 1, so that at 0 it is 1, and at 0.5 1.5
abbrev pub rising : List Float
rising = spline-row.row_of 1 (wholes (0 ∷ 2 ∷ [])) (neg (whole 1) ∷ neg (whole 1) ∷ whole 1 ∷ whole 1 ∷ [])

-- the row of a plateau as long, and of Hann's shape and that spline as wide, as the numbers say
abbrev pub plain : Float → List Float
plain plateau = row_of (bin_with Plain (whole 0) plateau) no_numbers

abbrev pub curved : Float → List Float
curved width = row_of (bin_with Hann width (whole 0)) no_numbers

abbrev pub bending : Float → List Float
bending width = row_of (bin_with Spline width (whole 0)) rising

-- ---- the calls

-- at rate 1, delay 0 and a level, two rows
abbrev pub request_at : ℤ → Request
request_at level = record { channel = channel; rate = record { 0 = whole 1 }; delay = record { 0 = whole 0 }; level = level; rows = 2 }

abbrev pub sample_at : ℤ → system.Call
sample_at level = system.sample (request_at level) no_crosstalk []

abbrev pub barrier : Arranged
barrier = record { command = Barrier; start = record { 0 = whole 0 }; span = record { 0 = whole 0 } }

-- the numbers of the three steps: each gives twice the sample; of the mixer the matrix, and no offsets
abbrev pub mixer-numbers : List Float
mixer-numbers = wholes (2 ∷ 0 ∷ 0 ∷ 2 ∷ [])

abbrev pub mixer-offsets : List Float
mixer-offsets = wholes (0 ∷ 0 ∷ [])

abbrev pub iir-numbers : List Float
iir-numbers = wholes (2 ∷ 0 ∷ 0 ∷ 1 ∷ 0 ∷ 0 ∷ [])

abbrev pub fir-numbers : List Float
fir-numbers = wholes (2 ∷ [])

-- a bin, and a pulse of it at 0; two pulses of it, at -0.5 and at 0: both start at sample 0
abbrev pub bin-alone : List (List Float)
bin-alone = plain (whole 1) ∷ []

abbrev pub pulse-alone : List Pulse
pulse-alone = pulse_of 0 (whole 0) ∷ []

abbrev pub pulse-pair : List Pulse
pulse-pair = pulse_of 0 (neg (over 5 10)) ∷ pulse_of 0 (whole 0) ∷ []

-- two bins, plateaus of 1 and of 0.5, one sample each; a pulse of each at 0
abbrev pub bin-pair : List (List Float)
bin-pair = plain (whole 1) ∷ plain (over 5 10) ∷ []

abbrev pub pulse-of-each : List Pulse
pulse-of-each = pulse_of 0 (whole 0) ∷ pulse_of 1 (whole 0) ∷ []

-- ---- what is tried, and what it comes to (proofs/Tried.antt): the count, and the sample that each of the two rows then holds

pub record Try : Type 0 where
  pub asking : Asking
  pub count : ℕ
  pub sample : ℕ

abbrev pub trying : State → system.Call → ℕ → ℕ → Try
trying s c count sample = record { asking = record { state = s; call = c }; count = count; sample = sample }

-- those that change rows, a sampling of a plateau, one of Hann's shape and one of a spline
pub data OnRows : Type 0 where
  plateau hann spline mixer iir fir : OnRows

-- the bin's row and the time of the one pulse that is stored; the call; its count; whether it leaves one more than the sample, or twice the sample
pub record Sort : Type 0 where
  pub bin : List Float
  pub time : Float
  pub call : system.Call
  pub count : ℕ
  pub adds : Bool

abbrev pub sort : OnRows → Sort
-- one sample at 0
sort plateau = record { bin = plain (whole 1); time = whole 0; call = sample_at (pos 0); count = 1; adds = true }
-- width 1 at 0.5 and level -1: the one sample is the middle of the shape; so too of the spline
sort hann = record { bin = curved (whole 1); time = over 5 10; call = sample_at (negsuc 0); count = 1; adds = true }
sort spline = record { bin = bending (whole 1); time = over 5 10; call = sample_at (negsuc 0); count = 1; adds = true }
sort mixer = record { bin = plain (whole 1); time = whole 0; call = system.mixer 2 mixer-numbers mixer-offsets; count = 0; adds = false }
sort iir = record { bin = plain (whole 1); time = whole 0; call = system.iir 2 iir-numbers; count = 0; adds = false }
sort fir = record { bin = plain (whole 1); time = whole 0; call = system.fir 2 fir-numbers; count = 0; adds = false }

-- on rows that hold x
abbrev pub on : ℕ → OnRows → Try
on x k = trying (holding (whole x) ((sort k).bin ∷ []) (pulse_of 0 (sort k).time ∷ [])) (sort k).call (sort k).count (cond (sort k).adds (x + 1) (2 * x))

-- the other calls; a list of no command; no pulse; two pulses in a bin; two bins with a pulse each
pub data Else : Type 0 where
  make add-channel add-shape add-spline execute no-command no-pulse two-pulses two-bins : Else

abbrev pub else : Else → Try
else make = trying (holding (whole 0) [] []) (system.make (whole 0) (whole 0) false) 0 0
else add-channel = trying (holding (whole 0) [] []) (system.add-channel channel at_rest) 0 0
else add-shape = trying (holding (whole 0) [] []) (system.add-shape channel) 0 0
else add-spline = trying (holding (whole 0) [] []) (system.add-spline channel 0 (wholes (1 ∷ [])) (wholes (0 ∷ 1 ∷ []))) 0 0
else execute = trying (holding (whole 0) [] []) (system.execute (barrier ∷ [])) 1 0
else no-command = trying (holding (whole 0) [] []) (system.execute []) 0 0
else no-pulse = trying (holding (whole 0) [] []) (sample_at (pos 0)) 0 0
else two-pulses = trying (holding (whole 0) bin-alone pulse-pair) (sample_at (pos 0)) 2 2
else two-bins = trying (holding (whole 0) bin-pair pulse-of-each) (sample_at (pos 0)) 2 2

-- a sampling of both: of two pulses, and of two bins
abbrev pub sampling_of : Else → Sampling
sampling_of k = record { state = (else k).asking.state; request = request_at (pos 0); cross = no_crosstalk; factors = [] }

pub data Trial : Type 0 where
  ones noughts : OnRows → Trial
  also : Else → Trial

abbrev pub try_of : Trial → Try
try_of (ones k) = on 1 k
try_of (noughts k) = on 0 k
try_of (also k) = else k
