-- The calls that take values and give one back: what each promises, as its contract has it, and when it has accepted. Definitions only.
use Rattle.tables.specs.declared.Untold.{Untold}
use Rattle.quant.specs.declared.aligned.Misplaced.{Misplaced}
use Rattle.quant.specs.declared.aligned.Start.{Start}
use Rattle.std.specs.Prelude.{ℕ, Bool, true, false, not, List, eqb, ℤ, Float, Option, Some, None, Result}
use Rattle.quant.specs.declared.complex.Complex.{Complex}
use Rattle.quant.specs.declared.refusal.Refusal.{Refusal}
use Rattle.shape.specs.declared.parts.Parts.{Parts}
use Rattle.pulse.specs.declared.weight.Weight.{Weight}
use Rattle.trig.specs.Reduce.{wrapped}
use Rattle.trig.specs.Trig.{cosine_at, cosine_of, sine_of, Both}
use Rattle.naming.specs.declared.Name.{Name}
use Rattle.quant.specs.declared.quantity.Frequency.{Frequency}
use Rattle.quant.specs.declared.quantity.Time.{Time}
use Rattle.quant.specs.declared.settings.Settings.{Settings}
use Rattle.quant.specs.Aligned.{aligned_of, placed_of, aligned_answer, placed_answer}
use Rattle.quant.specs.Phaser.{phased_of, phased_answer}
use Rattle.quant.specs.Settings.{fitting_of, fitting_answer}
use Rattle.rows.specs.Rows as rows
use Rattle.executor.specs.declared.osc.OscState.{OscState}
use Rattle.executor.specs.declared.osc.Moved.{Moved}
use Rattle.executor.specs.declared.osc.Swapped.{Swapped}
use Rattle.executor.specs.Osc.{shifted_phase, set_phase_to, shifted_freq, set_freq_to, swapped_phases, moved_answer, swapped_answer}
use Rattle.spline.specs.Spline.{is_spline}
use Rattle.spline.specs.Value.{value_in, fine_in}
use Rattle.pulse.specs.declared.bin.Bin.{Bin}
use Rattle.pulse.specs.declared.envelope.Shape.{Shape}
use Rattle.pulse.specs.declared.list.Pulse.{Pulse}
use Rattle.pulse.specs.Weight.{weighed_of, weighed_answer}
use Rattle.tables.specs.declared.Tables.{Tables}
use Rattle.tables.specs.Tables as tables
use Rattle.points.specs.Points.{point_at}
use Rattle.shape.specs.Hann.{hann_of}
use Rattle.shape.specs.Parts.{parted_of, parted_answer}
use Rattle.shape.specs.Envelope.{least, enveloped_of, enveloped_answer}
use Rattle.placing.specs.declared.Judged.{Judged}
use Rattle.placing.specs.Judged.{judged, judged_answer}
use Rattle.crosstalk.specs.declared.names.Crosstalk.{Crosstalk}
use Rattle.crosstalk.specs.Crosstalk.{Plan, planned, is_refused}
use Rattle.host.specs.declared.Index.{Index}
use Rattle.host.specs.declared.Place.{Place}
use Rattle.host.specs.Places.{index_of, place_of}
use Rattle.stand_ins.specs.StandIns.{Call, equation}
use Rattle.stand_ins.specs.Whole.{is_done}

-- ---- cosine and sine: nothing is refused

abbrev pub always : {A : Type 0} → A → Bool
always x = true

abbrev pub is_true : Bool → Bool
is_true b = b

abbrev pub cosine : Call
cosine = equation cosine_of always

abbrev pub sine : Call
sine = equation sine_of always

abbrev pub cosine-wrapped : Call
cosine-wrapped = equation (λ (x : Float). cosine_at (wrapped x)) always

abbrev pub hann : Call
hann = equation hann_of always

abbrev pub both : Call
both = record { Given = Float; Left = Float × Float; Promise = λ x y. Both x y.0 y.1; accepted = always }

-- ---- a point

pub record Pointing : Type 0 where
  pub start : Float
  pub step : Float
  pub index : ℕ

abbrev pub point : Call
point = equation (λ (x : Pointing). point_at x.start x.step x.index) always

-- ---- alignment: a time, a rate and a level; a phase; the clock

pub record Timed : Type 0 where
  pub time : Float
  pub rate : Float
  pub level : ℤ

abbrev pub is_index : Option Float → Bool
is_index y = is_done (aligned_answer y)

abbrev pub align : Call
align = equation (λ (x : Timed). aligned_of x.time x.rate x.level) is_index

abbrev pub is_start : Result Start Misplaced → Bool
is_start y = is_done (placed_answer y)

abbrev pub place : Call
place = equation (λ (x : Timed). placed_of (aligned_of x.time x.rate x.level)) is_start

-- over the C border
abbrev pub align-c : Call
align-c = equation (λ (x : Timed). index_of (aligned_of x.time x.rate x.level)) (λ (y : Index). eqb y.code 0)

abbrev pub place-c : Call
place-c = equation (λ (x : Timed). place_of (placed_of (aligned_of x.time x.rate x.level))) (λ (y : Place). eqb y.code 0)

abbrev pub is_pair : Option Complex → Bool
is_pair y = is_done (phased_answer y)

abbrev pub phaser : Call
phaser = equation phased_of is_pair

pub record Clocked : Type 0 where
  pub rate : Frequency
  pub delay : Time
  pub level : ℤ

abbrev pub is_fit : Option Settings → Bool
is_fit y = is_done (fitting_answer y)

abbrev pub set-up : Call
set-up = equation (λ (x : Clocked). fitting_of x.rate x.delay x.level) is_fit

-- ---- the oscillators: a state, a number and a time

pub record Turning : Type 0 where
  pub osc : OscState
  pub number : Float
  pub time : Float

abbrev pub has_moved : Moved → Bool
has_moved y = is_done (moved_answer y)

abbrev pub shift-phase : Call
shift-phase = equation (λ (x : Turning). shifted_phase x.osc x.number) has_moved

abbrev pub set-phase : Call
set-phase = equation (λ (x : Turning). set_phase_to x.osc x.number x.time) has_moved

abbrev pub shift_freq : Call
shift_freq = equation (λ (x : Turning). shifted_freq x.osc x.number x.time) has_moved

abbrev pub set_freq : Call
set_freq = equation (λ (x : Turning). set_freq_to x.osc x.number x.time) has_moved

pub record Swapping : Type 0 where
  pub one : OscState
  pub two : OscState
  pub time : Float

abbrev pub swap-phase : Call
swap-phase = equation (λ (x : Swapping). swapped_phases x.one x.two x.time) (λ (y : Swapped). is_done (swapped_answer y))

-- ---- a pulse: its weight, its envelope's parts, its place

pub record Weighing : Type 0 where
  pub amplitude : Float
  pub phase : Float
  pub drag : Float

abbrev pub is_fine : Option Weight → Bool
is_fine y = is_done (weighed_answer y)

abbrev pub weigh : Call
weigh = equation (λ (x : Weighing). weighed_of x.amplitude x.phase x.drag) is_fine

pub record Curve : Type 0 where
  pub width : Float
  pub plateau : Float
  pub offset : Float
  pub rate : Float
  pub dt : Float
  pub room : ℕ

abbrev pub parts_for : Curve → ℕ → Result Parts Refusal
parts_for x room = parted_of x.width x.plateau x.offset x.rate x.dt room

abbrev pub is_within : Result Parts Refusal → Bool
is_within y = is_done (parted_answer y)

abbrev pub lay-out : Call
lay-out = equation (λ (x : Curve). parts_for x x.room) is_within

abbrev pub has_points : Result ℕ Refusal → Bool
has_points y = is_done (enveloped_answer y)

-- of a shape, with the numbers of a spline beside it
pub record Bent : Type 0 where
  pub shape : Shape
  pub numbers : List Float
  pub curve : Curve

abbrev pub measure : Call
measure = equation (λ (x : Bent). enveloped_of x.shape x.numbers (parts_for x.curve (least x.curve.room 65536))) has_points

pub record Pulsed : Type 0 where
  pub settings : Settings
  pub bin : Bin
  pub numbers : List Float
  pub pulse : Pulse
  pub len : ℕ

abbrev pub is_placed : Result Judged Refusal → Bool
is_placed y = is_done (judged_answer y)

abbrev pub judge : Call
judge = equation (λ (x : Pulsed). judged x.settings x.bin x.numbers x.pulse x.len) is_placed

-- ---- a spline: of any row of numbers its value, and whether the way to it is fine; whether degree, controls and knots are one's

pub record Bending : Type 0 where
  pub row : List Float
  pub at : Float

abbrev pub spline-value : Call
spline-value = equation (λ (x : Bending). value_in x.row x.at) always

abbrev pub spline-fine : Call
spline-fine = equation (λ (x : Bending). fine_in x.row x.at) is_true

pub record Knotted : Type 0 where
  pub degree : ℕ
  pub controls : ℕ
  pub knots : List Float

abbrev pub spline-check : Call
spline-check = equation (λ (x : Knotted). is_spline x.degree x.controls x.knots) is_true

-- ---- the tables: a channel's state, its place, a shape's place; the plan of a sampling

pub record Looking : Type 0 where
  pub tables : Tables
  pub name : Name

abbrev pub is_known : Result OscState Untold → Bool
is_known y = is_done (tables.told_answer y)

abbrev pub state : Call
state = equation (λ (x : Looking). tables.state_of x.tables x.name) is_known

abbrev pub is_there : Option ℕ → Bool
is_there (Some i) = true
is_there None = false

abbrev pub find : Call
find = equation (λ (x : Looking). tables.found x.tables x.name) is_there

abbrev pub find-shape : Call
find-shape = equation (λ (x : Looking). tables.shape_found x.tables x.name) is_there

pub record Planning : Type 0 where
  pub tables : Tables
  pub channel : Name
  pub cross : Crosstalk
  pub factors : List Float

abbrev pub plan : Call
plan = equation (λ (x : Planning). planned x.tables x.channel x.cross x.factors) (λ (y : Plan). not (is_refused y))

-- ---- what the steps on rows answer: whether the sizes fit, and whether the numbers are fine

pub record Verdict : Type 0 where
  pub fits : Bool
  pub fine : Bool

abbrev pub answer : Call
answer = equation (λ (x : Verdict). rows.answer_of x.fits x.fine) is_done
