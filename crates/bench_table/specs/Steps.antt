-- The bench examples B5, B7, B8 and B9: a filtered row, a fused sum, a summed list and an oscillator's commands, and what a line claims of each.
-- Definitions only.
use Rattle.std.specs.Prelude.{ℕ, ◌≡◌, false, List, [], ◌∷◌, map, pos, Float, length, replicate, Ok}
use Rattle.std.specs.Float.{binary64}
use Rattle.fma.specs.Fused.{fma}
use Rattle.quant.specs.declared.complex.Complex.{Complex}
use Rattle.iir.specs.Iir.{Iir}
use Rattle.pulse.specs.declared.envelope.Shape.TheVariants.{Plain}
use Rattle.pulse.specs.declared.list.Pulse.{Pulse}
use Rattle.pulse.specs.Bin.{no_numbers}
use Rattle.merge.specs.Sum.{plus_p, summed}
use Rattle.executor.specs.declared.osc.OscState.{OscState}
use Rattle.executor.specs.declared.osc.Moved.{Moved}
use Rattle.executor.specs.Osc.{set_freq_to, set_phase_to, shifted_freq}
use Rattle.tables.specs.declared.Tables.{Tables}
use Rattle.commands.specs.declared.command.Command.{Command}
use Rattle.commands.specs.declared.command.Command.TheVariants as C
use Rattle.commands.specs.declared.command.Arranged.{Arranged}
use Rattle.commands.specs.Run.{done_at, executed}
use Rattle.bench_table.specs.Numbers.{whole}
use Rattle.bench_table.specs.Call.{bin_with, pulse_at, channel, tables_with, bins_lent, pulses_lent, sampled_on}

-- one claim and another
infixr 50 ◌and◌
pub data Both (A B : Type 0) : Type 0 where
  ◌and◌ : A → B → Both A B

-- ---- B5: a section on a row; the second row has no samples

pub record Filtering : Type 0 where
  pub section : List Float
  pub row : List Float
  pub gives : List Float

-- what `iir` answers and leaves
abbrev pub Filters : Filtering → Type 0
Filters l = Iir 1 l.row [] l.section (Ok 0) l.gives []

-- ---- B7: fused x*y + z

pub record Fusing : Type 0 where
  pub x : Float
  pub y : Float
  pub z : Float
  pub gives : Float

-- what `mul_add` answers
abbrev pub Fuses : Fusing → Type 0
Fuses l = fma binary64 l.x l.y l.z ≡ l.gives

-- ---- B8: pulses of one bin, told by their times; each kept time stands first among those that are added up there

pub record Merging : Type 0 where
  pub times : List Float
  pub tolerance : Float
  pub kept : List (List Float)

-- the pulses of any bin with any amp and drag at each time: one; one with others added; one for each group of times
module _ (bin : ℕ) (amp drag : Float → Complex) where
  abbrev pub weighted : Float → Pulse
  weighted time = record { bin = bin; time = record { 0 = time }; amp = amp time; drag = drag time }

  abbrev pub joined_to : Pulse → List Float → Pulse
  joined_to k [] = k
  joined_to k (time ∷ times) = joined_to (plus_p k (weighted time)) times

  abbrev pub joined : List (List Float) → List Pulse
  joined [] = []
  joined ([] ∷ groups) = joined groups
  joined ((time ∷ times) ∷ groups) = joined_to (weighted time) times ∷ joined groups

-- what a channel's list is summed to; and `sample` adds as many pulses as are kept
pub record Merges (l : Merging) : Type 0 where
  pub sum : (bin : ℕ) (amp drag : Float → Complex) → summed l.tolerance (map (weighted bin amp drag) l.times) ≡ joined bin amp drag l.kept
  pub sample : (sampled_on l.tolerance (bin_with Plain (whole 0) (whole 1)) (map pulse_at l.times) (pos 0) 16).answer ≡ Ok (length l.kept)

-- ---- B9: commands one after another, each at its time, and the phase after each

pub data Turn : Type 0 where
  SetFreq : Float → Turn
  SetPhase : Float → Turn
  ShiftFreq : Float → Turn

pub record Turned : Type 0 where
  pub turn : Turn
  pub at : Float
  pub phase : Float

pub record Turning : Type 0 where
  pub base : Float
  pub turns : List Turned

-- what `set_freq`, `set_phase` and `shift_freq` answer
abbrev pub turned : OscState → Turn → Float → Moved
turned s (SetFreq f) t = set_freq_to s f t
turned s (SetPhase p) t = set_phase_to s p t
turned s (ShiftFreq f) t = shifted_freq s f t

-- the same as a command of the list that `execute` takes
abbrev pub command_of : Turn → Command
command_of (SetFreq f) = C.SetFreq channel (record { 0 = f })
command_of (SetPhase p) = C.SetPhase channel (record { 0 = p })
command_of (ShiftFreq f) = C.ShiftFreq channel (record { 0 = f })

-- at its time, with span 0
abbrev pub arranged : Turned → Arranged
arranged l = record { command = command_of l.turn; start = record { 0 = l.at }; span = record { 0 = whole 0 } }

-- tables whose one channel has this oscillator
abbrev pub with_osc : OscState → Tables
with_osc s = tables_with (whole 0) s 0

-- accepted, and the phase; `execute` runs it, one command, and leaves the channel with this oscillator
pub record Phased (s : OscState) (l : Turned) : Type 0 where
  pub accepted : (turned s l.turn l.at).refused ≡ false
  pub phase-is : (turned s l.turn l.at).osc.phase.0 ≡ l.phase
  pub execute : (executed (with_osc s) (replicate 8 no_numbers) (arranged l ∷ []) (bins_lent (bin_with Plain (whole 0) (whole 0))) (pulses_lent [])).result ≡ done_at (with_osc (turned s l.turn l.at).osc) 1

-- each from where the one before it left the oscillator
abbrev pub Follow : OscState → List Turned → Type 0
Follow s [] = Unit {0}
Follow s (l ∷ ls) = Both (Phased s l) (Follow (turned s l.turn l.at).osc ls)

-- from delta 0 and phase 0 on
abbrev pub Turns : Turning → Type 0
Turns l = Follow (record { base = record { 0 = l.base }; delta = record { 0 = whole 0 }; phase = record { 0 = whole 0 } }) l.turns
