-- The whole system: what a caller holds between calls, the calls, what each promises (its contract, word for word) and what it then comes to, by
-- the public definitions of its own crate. Definitions only.
use Rattle.quant.specs.Refusal.{Answer}
use Rattle.std.specs.Prelude.{ℕ, ◌≡◌, Bool, List, Float, length, get_or, Ok, Err}
use Rattle.std.specs.Float.{nan}
use Rattle.naming.specs.declared.Name.{Name}
use Rattle.rows.specs.Rows as rows
use Rattle.mixer.specs.Mixer.{Mixer, corrected_row, mixer_answer}
use Rattle.iir.specs.Section.{sections_of}
use Rattle.iir.specs.Filter.{filtered}
use Rattle.iir.specs.Iir.{Iir, iir_answer}
use Rattle.ring.specs.Ring.{filtered_row}
use Rattle.fir.specs.Fir.{Fir, fir_fits}
use Rattle.executor.specs.declared.osc.OscState.{OscState}
use Rattle.tables.specs.declared.Tables.{Tables}
use Rattle.tables.specs.declared.Tabled.{Tabled}
use Rattle.tables.specs.Tables.{Formed, formed, made, with_added, with_added_shape, with_added_spline}
use Rattle.pulse.specs.declared.list.Pulse.{Pulse}
use Rattle.commands.specs.declared.command.Arranged.{Arranged}
use Rattle.commands.specs.Run.{Ran, ran_to, executed}
use Rattle.crosstalk.specs.declared.names.Crosstalk.{Crosstalk}
use Rattle.mixdown.specs.Sampled.{Rowed, rowed}
use Rattle.sampler.specs.declared.Request.{Request}
use Rattle.sampler.specs.Sampler.{Left, left, sampled}

-- ---- what a caller holds

-- the tables, the shapes' rows, the bins and the pulses, into which only our calls write; and what it lends: rows I and Q with the scratch, work rows and
-- marks
pub record State : Type 0 where
  pub tables : Tables
  pub splines : List (List Float)
  pub bins : List (List Float)
  pub pulses : List Pulse
  pub rows : Rowed
  pub work : List (List Float)
  pub marks : List ℕ

-- ---- the calls, with what each is given besides: to make tables, both tolerances and the oversize choice; for a spline its degree, controls and knots; for a
-- step, whether there are one or two rows, and its numbers (of the mixer the matrix and the offsets)
pub data Call : Type 0 where
  make : Float → Float → Bool → Call
  add-channel : Name → OscState → Call
  add-shape : Name → Call
  add-spline : Name → ℕ → List Float → List Float → Call
  execute : List Arranged → Call
  sample : Request → Crosstalk → List Float → Call
  mixer : ℕ → List Float → List Float → Call
  iir : ℕ → List Float → Call
  fir : ℕ → List Float → Call

-- what happens next: a call; or the caller lends other rows, scratch, work rows and marks, of any size, or writes into them
pub data Event : Type 0 where
  calls : Call → Event
  lends : Rowed → List (List Float) → List ℕ → Event

pub record Outcome : Type 0 where
  pub answer : Answer
  pub after : State

abbrev pub told : Answer → State → Outcome
told a s = record { answer = a; after = s }

-- ---- the state with some of it another

abbrev pub with_tables : State → Tables → State
with_tables s t = record { tables = t; splines = s.splines; bins = s.bins; pulses = s.pulses; rows = s.rows; work = s.work; marks = s.marks }

abbrev pub with_shapes : State → Tables → List (List Float) → State
with_shapes s t splines = record { tables = t; splines = splines; bins = s.bins; pulses = s.pulses; rows = s.rows; work = s.work; marks = s.marks }

abbrev pub with_stored : State → Tables → List (List Float) → List Pulse → State
with_stored s t bins pulses = record { tables = t; splines = s.splines; bins = bins; pulses = pulses; rows = s.rows; work = s.work; marks = s.marks }

abbrev pub with_lent : State → Rowed → List (List Float) → List ℕ → State
with_lent s rows work marks = record { tables = s.tables; splines = s.splines; bins = s.bins; pulses = s.pulses; rows = rows; work = work; marks = marks }

-- the scratch is not lent to a step
abbrev pub with_rows : State → List Float → List Float → State
with_rows s i q = with_lent s (rowed i q s.rows.scratch) s.work s.marks

-- ---- what a call promises

-- the contract of each call, of an answer and what is left
unfoldable pub Contract : State → Call → Answer → State → Type 0
Contract s (make amp time oversize) a u = record { answer = a; tables = u.tables } ≡ made amp time oversize
Contract s (add-channel n o) a u = record { answer = a; tables = u.tables } ≡ with_added s.tables n o
Contract s (add-shape n) a u = formed (record { answer = a; tables = u.tables }) u.splines ≡ with_added_shape s.tables n s.splines
Contract s (add-spline n p c t) a u = formed (record { answer = a; tables = u.tables }) u.splines ≡ with_added_spline s.tables n p c t s.splines
Contract s (execute commands) a u = ran_to (record { answer = a; tables = u.tables }) u.bins u.pulses ≡ executed s.tables s.splines commands s.bins s.pulses
Contract s (sample r c factors) a u = left a u.rows u.work u.marks ≡ sampled s.tables r c factors s.bins s.pulses s.rows s.work s.marks
Contract s (mixer n m o) a u = Mixer n s.rows.i s.rows.q m o a u.rows.i u.rows.q
Contract s (iir n sections) a u = Iir n s.rows.i s.rows.q sections a u.rows.i u.rows.q
Contract s (fir n taps) a u = Fir n s.rows.i s.rows.q taps a u.rows.i u.rows.q

-- the state s, with what the call may write taken from u; the rest it is not lent, or is lent to read only
unfoldable pub written : State → Call → State → State
written s (make amp time oversize) u = with_tables s u.tables
written s (add-channel n o) u = with_tables s u.tables
written s (add-shape n) u = with_shapes s u.tables u.splines
written s (add-spline n p c t) u = with_shapes s u.tables u.splines
written s (execute commands) u = with_stored s u.tables u.bins u.pulses
written s (sample r c factors) u = with_lent s u.rows u.work u.marks
written s (mixer n m o) u = with_rows s u.rows.i u.rows.q
written s (iir n sections) u = with_rows s u.rows.i u.rows.q
written s (fir n taps) u = with_rows s u.rows.i u.rows.q

-- what the caller holds then: what the call returned and left; a refused `make` returns no tables to work with, and the caller keeps its own
abbrev pub adopted : Answer → State → State → State
adopted (Ok k) s u = u
adopted (Err e) s u = s

unfoldable pub held : State → Call → Answer → State → State
held s (make amp time oversize) a u = adopted a s u
held s (add-channel n o) a u = u
held s (add-shape n) a u = u
held s (add-spline n p c t) a u = u
held s (execute commands) a u = u
held s (sample r c factors) a u = u
held s (mixer n m o) a u = u
held s (iir n sections) a u = u
held s (fir n taps) a u = u

-- the contract holds of the answer and of what the call returned and left, which the caller then holds
pub record Promised (s : State) (c : Call) (o : Outcome) : Type 0 where
  pub left : State
  pub contract : Contract s c o.answer left
  pub rest : left ≡ written s c left
  pub after : o.after ≡ held s c o.answer left

-- ---- what a call comes to

abbrev pub tabled : State → Tabled → Outcome
tabled s x = told x.answer (with_tables s x.tables)

abbrev pub has_formed : State → Formed → Outcome
has_formed s x = told x.tabled.answer (with_shapes s x.tabled.tables x.rows)

-- tables made anew: refused, the caller keeps its own
abbrev pub remade : State → Tabled → Outcome
remade s x = told x.answer (adopted x.answer s (with_tables s x.tables))

abbrev pub has_run : State → Ran → Outcome
has_run s x = told x.result.answer (with_stored s x.result.tables x.bins x.pulses)

abbrev pub has_sampled : State → Left → Outcome
has_sampled s x = told x.answer (with_lent s x.rows x.work x.marks)

-- a step: what it answers, and the rows that it leaves where it is done
pub record Step : Type 0 where
  pub answer : Answer
  pub i : List Float
  pub q : List Float

abbrev pub stepped : State → Step → Outcome
stepped s x = told x.answer (with_rows s (rows.after x.answer x.i s.rows.i) (rows.after x.answer x.q s.rows.q))

abbrev pub mixer_step : Rowed → ℕ → List Float → List Float → Step
mixer_step st n m o =
    record {
      answer = mixer_answer n st.i st.q m o;
      i = corrected_row (get_or m 0 nan) (get_or m 1 nan) (get_or o 0 nan) st.i st.q;
      q = corrected_row (get_or m 2 nan) (get_or m 3 nan) (get_or o 1 nan) st.i st.q;
    }

abbrev pub iir_step : Rowed → ℕ → List Float → Step
iir_step st n sections =
    record {
      answer = iir_answer n (length st.i) (length st.q) sections;
      i = filtered (sections_of sections) st.i;
      q = filtered (sections_of sections) st.q;
    }

abbrev pub fir_step : Rowed → ℕ → List Float → Step
fir_step st n taps =
    record {
      answer = rows.answer_of (fir_fits n (length st.i) (length st.q) (length taps)) (rows.all_finite taps);
      i = filtered_row taps st.i;
      q = filtered_row taps st.q;
    }

-- Every call has an answer: this is a function of every state and every call, with no case left out; and it is the one outcome that the call's
-- promise allows (proofs/Promised.antt).
unfoldable pub outcome : State → Call → Outcome
outcome s (make amp time oversize) = remade s (made amp time oversize)
outcome s (add-channel n o) = tabled s (with_added s.tables n o)
outcome s (add-shape n) = has_formed s (with_added_shape s.tables n s.splines)
outcome s (add-spline n p c t) = has_formed s (with_added_spline s.tables n p c t s.splines)
outcome s (execute commands) = has_run s (executed s.tables s.splines commands s.bins s.pulses)
outcome s (sample r c factors) = has_sampled s (sampled s.tables r c factors s.bins s.pulses s.rows s.work s.marks)
outcome s (mixer n m o) = stepped s (mixer_step s.rows n m o)
outcome s (iir n sections) = stepped s (iir_step s.rows n sections)
outcome s (fir n taps) = stepped s (fir_step s.rows n taps)
