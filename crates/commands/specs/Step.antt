-- What one command comes to: it stops the run, or it goes on with other tables, with or without a pulse to store. Document 01,
-- "Oscillators": what each command does to its channel. Definitions only.
use Rattle.std.specs.Prelude.{ℕ, Bool, true, false, cond, List, ◌++◌, Float, get_or, replicate, set, Option, Some, None}
use Rattle.exact.specs.Doubles.{nought}
use Rattle.naming.specs.declared.Name.{Name}
use Rattle.quant.specs.declared.refusal.Refusal.{Refusal}
use Rattle.quant.specs.declared.refusal.Refusal.TheVariants.{Unfit, UnknownChannel, NotFinite}
use Rattle.naming.specs.Name.{same_name}
use Rattle.executor.specs.declared.osc.OscState.{OscState}
use Rattle.executor.specs.declared.osc.Moved.{Moved}
use Rattle.executor.specs.declared.osc.Swapped.{Swapped}
use Rattle.executor.specs.Osc.{shifted_phase, set_phase_to, shifted_freq, set_freq_to, swapped_phases}
use Rattle.pulse.specs.declared.list.Pulse.{Pulse}
use Rattle.pulse.specs.List.{stored}
use Rattle.pulse.specs.Bin.{no_numbers}
use Rattle.tables.specs.declared.Tables.{Tables}
use Rattle.tables.specs.Tables.{found, channel_at, with_channel}
use Rattle.commands.specs.declared.command.Command.{Command}
use Rattle.commands.specs.declared.command.Command.TheVariants as C
use Rattle.commands.specs.declared.step.Step.{Step}

-- no pulse, and no head of a bin
abbrev pub no_pulse : Pulse
no_pulse = record { bin = 0; time = record { 0 = nought }; amp = record { re = nought; im = nought }; drag = record { re = nought; im = nought } }

abbrev pub no_head : List Float
no_head = replicate 5 nought

-- behind the eight names: the place of no spline
abbrev pub no_spline : ℕ
no_spline = 8

-- the numbers at a place of the shapes' rows
abbrev pub numbers_at : List (List Float) → ℕ → List Float
numbers_at splines k = get_or splines k no_numbers

-- refused: the tables as they came
abbrev pub stops : Tables → Refusal → Step
stops t r =
    record { stop = true; why = r; put = false; from = 0; count = 0; pulse = no_pulse; opens = false; at = 0; head = no_head; spline = no_spline; tables = t }

-- accepted, with nothing to store
abbrev pub goes_on : Tables → Step
goes_on t =
    record { stop = false; why = Unfit; put = false; from = 0; count = 0; pulse = no_pulse; opens = false; at = 0; head = no_head; spline = no_spline; tables = t }

-- the bins and the pulses afterwards
abbrev pub bins_after : Step → List (List Float) → List (List Float) → List (List Float)
bins_after s splines bins = cond s.opens (set bins s.at (s.head ++ numbers_at splines s.spline)) bins

abbrev pub pulses_after : Step → List Pulse → List Pulse
pulses_after s pulses = cond s.put (stored s.from s.count s.pulse pulses) pulses

-- ---- oscillators

abbrev pub with_osc : Tables → ℕ → OscState → Tables
with_osc t i o = with_channel t i (record { name = (channel_at t i).name; osc = o; bins = (channel_at t i).bins; pulses = (channel_at t i).pulses })

-- 8 where a number worked out is not finite; else other tables
abbrev pub unless_refused : Bool → Tables → Tables → Step
unless_refused refused t after = cond refused (stops t NotFinite) (goes_on after)

abbrev pub turned : Tables → ℕ → Moved → Step
turned t i m = unless_refused m.refused t (with_osc t i m.osc)

abbrev pub unmoved : OscState → Moved
unmoved o = record { refused = false; osc = o }

-- what a command to one channel does to its oscillator at a time
unfoldable pub moved_by : Command → Float → OscState → Moved
moved_by (C.ShiftPhase n x) time o = shifted_phase o x.0
moved_by (C.SetPhase n x) time o = set_phase_to o x.0 time
moved_by (C.ShiftFreq n x) time o = shifted_freq o x.0 time
moved_by (C.SetFreq n x) time o = set_freq_to o x.0 time
moved_by (C.Play p) time o = unmoved o
moved_by (C.SwapPhase n m) time o = unmoved o
moved_by C.Barrier time o = unmoved o

-- 7, then 8
unfoldable pub turned_at : Tables → Option ℕ → Command → Float → Step
turned_at t None c time = stops t UnknownChannel
turned_at t (Some i) c time = turned t i (moved_by c time (channel_at t i).osc)

-- ---- two oscillators

abbrev pub swapped_to : Tables → ℕ → ℕ → Swapped → Step
swapped_to t i j s = unless_refused s.refused t (with_osc (with_osc t i s.one) j s.two)

-- "One missing: 7"
unfoldable pub swapped_at : Tables → Option ℕ → Option ℕ → Float → Step
swapped_at t None b time = stops t UnknownChannel
swapped_at t (Some i) None time = stops t UnknownChannel
swapped_at t (Some i) (Some j) time = swapped_to t i j (swapped_phases (channel_at t i).osc (channel_at t j).osc time)

-- "Equal names: accepted after 2 and 4, even if unknown"
abbrev pub swapped_between : Tables → Name → Name → Float → Step
swapped_between t n m time = cond (same_name n m) (goes_on t) (swapped_at t (found t n) (found t m) time)
