-- The other calls on what is lent: what each promises, as its contract has it, and when it has accepted. Definitions only.
use Rattle.quant.specs.Refusal.{Answer}
use Rattle.std.specs.Prelude.{ℕ, ◌≡◌, Bool, List, map, eqb, Float, length, Result}
use Rattle.quant.specs.declared.refusal.Refusal.{Refusal}
use Rattle.shape.specs.declared.parts.Parts.{Parts}
use Rattle.quant.specs.declared.complex.Complex.{Complex}
use Rattle.quant.specs.declared.settings.Settings.{Settings}
use Rattle.mixer.specs.Mixer.{Mixer}
use Rattle.iir.specs.Iir.{Iir}
use Rattle.ring.specs.Ring.{filtered_or_kept}
use Rattle.fir.specs.Fir.{Fir}
use Rattle.host.specs.Coded.{Coded}
use Rattle.mix.specs.Part.{first_row, second_row}
use Rattle.mix.specs.Plateau.{carried, real, imaginary}
use Rattle.mix.specs.Envelope.{shaped_by}
use Rattle.points.specs.Points.{points}
use Rattle.spline.specs.Value.{value_in}
use Rattle.shape.specs.Envelope.{limit_of, enveloped_of, scratch_after}
use Rattle.pulse.specs.declared.list.Pulse.{Pulse}
use Rattle.tables.specs.declared.Channel.{Channel}
use Rattle.tables.specs.declared.Tables.{Tables}
use Rattle.merge.specs.declared.taking.Taking.{Taking}
use Rattle.merge.specs.declared.work.Ends.{Ends}
use Rattle.merge.specs.Taking.{parts_in}
use Rattle.merge.specs.Work.{Gathered, gathered_of}
use Rattle.commands.specs.declared.command.Arranged.{Arranged}
use Rattle.commands.specs.Run.{Ran}
use Rattle.owned.specs.Owned.{executed_owned}
use Rattle.mixdown.specs.Sampled.{Rowed, Out, mixed_down}
use Rattle.system.specs.System.{State}
use Rattle.stand_ins.specs.StandIns.{Call, equation}
use Rattle.stand_ins.specs.Whole.{is_done}
use Rattle.stand_ins.specs.ByValue.{always, Bent, parts_for, has_points}

-- ---- the steps over the C border: one or two rows, numbers, of the mixer offsets too; a code, 0 or the refusal's number

pub record Step : Type 0 where
  pub rows : ℕ
  pub i : List Float
  pub q : List Float
  pub numbers : List Float
  pub offsets : List Float

pub record Coded-rows : Type 0 where
  pub code : ℕ
  pub i : List Float
  pub q : List Float

-- a step's contract, of what it is lent, its answer and what it leaves
abbrev pub Stepping : Type 1
Stepping = ℕ → List Float → List Float → List Float → List Float → Answer → List Float → List Float → Type 0

abbrev pub step-c : Stepping → Call
step-c P =
    record {
      Given = Step;
      Left = Coded-rows;
      Promise = λ x y. Coded (λ (r : Answer). P x.rows x.i x.q x.numbers x.offsets r y.i y.q) y.code;
      accepted = λ y. eqb y.code 0;
    }

abbrev pub mixer-c : Call
mixer-c = step-c (λ n i q m o r j p. Mixer n i q m o r j p)

abbrev pub iir-c : Call
iir-c = step-c (λ n i q m o r j p. Iir n i q m r j p)

abbrev pub fir-c : Call
fir-c = step-c (λ n i q m o r j p. Fir n i q m r j p)

-- ---- one row through taps; nothing is refused

pub record Tapped : Type 0 where
  pub row : List Float
  pub taps : List Float

abbrev pub filter : Call
filter = equation (λ (x : Tapped). filtered_or_kept x.taps x.row) always

-- ---- one pulse onto the rows; nothing is refused

pub record Two : Type 0 where
  pub i : List Float
  pub q : List Float

pub record Plateau : Type 0 where
  pub rows : ℕ
  pub i : List Float
  pub q : List Float
  pub start : ℕ
  pub count : ℕ
  pub carrier : Complex
  pub rotation : Complex

module _ (x : Plateau) (y : Two) where
  abbrev pub PlateauI : Type 0
  PlateauI = y.i ≡ first_row x.rows x.start x.count x.i x.q (carried real x.carrier x.rotation)

  abbrev pub PlateauQ : Type 0
  PlateauQ = y.q ≡ second_row x.rows x.start x.count x.i x.q (carried imaginary x.carrier x.rotation)

abbrev pub add-plateau : Call
add-plateau = record { Given = Plateau; Left = Two; Promise = λ x y. PlateauI x y × PlateauQ x y; accepted = always }

pub record Envelope : Type 0 where
  pub rows : ℕ
  pub i : List Float
  pub q : List Float
  pub start : ℕ
  pub points : List Float
  pub amp : Complex
  pub drag : Complex
  pub carrier : Complex
  pub rotation : Complex

module _ (x : Envelope) (y : Two) where
  abbrev pub EnvelopeI : Type 0
  EnvelopeI = y.i ≡ first_row x.rows x.start (length x.points) x.i x.q (shaped_by real x.amp x.drag x.rotation x.points x.carrier)

  abbrev pub EnvelopeQ : Type 0
  EnvelopeQ = y.q ≡ second_row x.rows x.start (length x.points) x.i x.q (shaped_by imaginary x.amp x.drag x.rotation x.points x.carrier)

abbrev pub add-envelope : Call
add-envelope = record { Given = Envelope; Left = Two; Promise = λ x y. EnvelopeI x y × EnvelopeQ x y; accepted = always }

-- ---- the points of a part

pub record Part : Type 0 where
  pub part : List Float
  pub start : Float
  pub step : Float

abbrev pub lay : Call
lay = equation (λ (x : Part). points (length x.part) 0 x.start x.step) always

-- ---- a spline's values at the points of a part

pub record Bends : Type 0 where
  pub part : List Float
  pub row : List Float

abbrev pub spline-over : Call
spline-over = equation (λ (x : Bends). map (value_in x.row) x.part) always

-- ---- an envelope's points in the scratch

pub record Laying : Type 0 where
  pub bent : Bent
  pub scratch : List Float

pub record Points : Type 0 where
  pub answer : Result ℕ Refusal
  pub scratch : List Float

-- its parts, in the room that row and scratch leave
abbrev pub parts_laid : Laying → Result Parts Refusal
parts_laid x = parts_for x.bent.curve (limit_of x.bent.curve.room (length x.scratch))

module _ (x : Laying) (y : Points) where
  abbrev pub PointsAnswer : Type 0
  PointsAnswer = y.answer ≡ enveloped_of x.bent.shape x.bent.numbers (parts_laid x)

  abbrev pub PointsLaid : Type 0
  PointsLaid = y.scratch ≡ scratch_after x.bent.shape x.bent.numbers (parts_laid x) x.scratch

abbrev pub envelope : Call
envelope = record { Given = Laying; Left = Points; Promise = λ x y. PointsAnswer x y × PointsLaid x y; accepted = λ y. has_points y.answer }

-- ---- the lists that take part, summed into the work rows; and mixed onto the rows

pub record Summing : Type 0 where
  pub tables : Tables
  pub taking : Taking
  pub pulses : List Pulse
  pub work : List (List Float)
  pub marks : List ℕ

abbrev pub gathered_for : Summing → Gathered
gathered_for x = gathered_of x.tables (parts_in x.taking) x.pulses x.work x.marks

abbrev pub sum-lists : Call
sum-lists = equation gathered_for always

pub record Mixing : Type 0 where
  pub settings : Settings
  pub tables : Tables
  pub taking : Taking
  pub ends : Ends
  pub bins : List (List Float)
  pub work : List (List Float)
  pub marks : List ℕ
  pub rows : ℕ
  pub lent : Rowed

pub record Mixed : Type 0 where
  pub out : Out
  pub work : List (List Float)
  pub marks : List ℕ

abbrev pub mixed_for : Mixing → Out
mixed_for x = mixed_down x.settings x.tables x.taking x.ends x.bins x.work x.marks x.rows x.lent

module _ (x : Mixing) (y : Mixed) where
  abbrev pub MixedOut : Type 0
  MixedOut = y.out ≡ mixed_for x

  abbrev pub MixedStay : Type 0
  MixedStay = (y.work ≡ x.work) × (y.marks ≡ x.marks)

abbrev pub mix-lists : Call
mix-lists = record { Given = Mixing; Left = Mixed; Promise = λ x y. MixedOut x y × MixedStay x y; accepted = λ y. is_done y.out.answer }

-- the tables with one pulse, or with one bin, for each channel: what a stand-in would sum, or mix, by
abbrev pub one_pulse : Tables → Tables
one_pulse t =
    record {
      amp = t.amp;
      time = t.time;
      oversize = t.oversize;
      channels = map (λ (c : Channel). record { name = c.name; osc = c.osc; bins = c.bins; pulses = 1 }) t.channels;
      count = t.count;
      shapes = t.shapes;
      named = t.named;
    }

abbrev pub one_bin : Tables → Tables
one_bin t =
    record {
      amp = t.amp;
      time = t.time;
      oversize = t.oversize;
      channels = map (λ (c : Channel). record { name = c.name; osc = c.osc; bins = 1; pulses = c.pulses }) t.channels;
      count = t.count;
      shapes = t.shapes;
      named = t.named;
    }

-- ---- the command call for a caller that owns its arrays: the first so many commands of an array

pub record Owning : Type 0 where
  pub state : State
  pub commands : List Arranged
  pub count : ℕ

abbrev pub ran_owned : Owning → Ran
ran_owned x = executed_owned x.state.tables x.state.splines x.commands x.count x.state.bins x.state.pulses

abbrev pub is_run : Ran → Bool
is_run r = is_done r.result.answer

abbrev pub execute-owned : Call
execute-owned = equation ran_owned is_run
