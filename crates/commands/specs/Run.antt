-- Document 01: the order for a command, "2, 4, 5, 6, 7, 8, 3", and a list of commands: "A list over 1,024 commands: 13 before any"; "Only
-- earlier commands of the same call remain"; the place of a refusal and the count of an acceptance are the commands run. Definitions only.
use Rattle.quant.specs.Refusal.{refuse}
use Rattle.std.specs.Prelude.{ℕ, suc, Bool, ◌&&◌, cond, List, [], ◌∷◌, leb, eqb, Float, length, Ok}
use Rattle.quant.specs.declared.refusal.Refusal.{Refusal}
use Rattle.quant.specs.declared.refusal.Refusal.TheVariants.{Malformed, Oversize, WrongSize}
use Rattle.pulse.specs.declared.list.Pulse.{Pulse}
use Rattle.tables.specs.declared.Tables.{Tables}
use Rattle.tables.specs.declared.Tabled.{Tabled}
use Rattle.tables.specs.Tables.{found}
use Rattle.commands.specs.declared.command.Command.{Command}
use Rattle.commands.specs.declared.command.Command.TheVariants as C
use Rattle.commands.specs.declared.command.Arranged.{Arranged}
use Rattle.commands.specs.declared.step.Step.{Step}
use Rattle.commands.specs.Command.{well_formed, too_long}
use Rattle.commands.specs.Step.{stops, goes_on, bins_after, pulses_after, turned_at, swapped_between}
use Rattle.commands.specs.Play.{played}

-- a command that meets neither 2 nor 4
unfoldable pub acted : Tables → List (List Float) → List (List Float) → Float → Float → Command → Step
acted t splines bins start span (C.Play p) = played t splines bins start span p
acted t splines bins start span (C.ShiftPhase n x) = turned_at t (found t n) (C.ShiftPhase n x) start
acted t splines bins start span (C.SetPhase n x) = turned_at t (found t n) (C.SetPhase n x) start
acted t splines bins start span (C.ShiftFreq n x) = turned_at t (found t n) (C.ShiftFreq n x) start
acted t splines bins start span (C.SetFreq n x) = turned_at t (found t n) (C.SetFreq n x) start
acted t splines bins start span (C.SwapPhase n m) = swapped_between t n m start
acted t splines bins start span C.Barrier = goes_on t

-- one command
abbrev pub step_of : Tables → List (List Float) → List (List Float) → Arranged → Step
step_of t splines bins a =
    cond (well_formed a) (cond (too_long t a) (stops t Oversize) (acted t splines bins a.start.0 a.span.0 a.command)) (stops t Malformed)

-- ---- a list of commands

-- how a call ended, with the bins and the pulses that it left
pub record Ran : Type 0 where
  pub result : Tabled
  pub bins : List (List Float)
  pub pulses : List Pulse

abbrev pub ran_to : Tabled → List (List Float) → List Pulse → Ran
ran_to r bins pulses = record { result = r; bins = bins; pulses = pulses }

abbrev pub done_at : Tables → ℕ → Tabled
done_at t k = record { answer = Ok k; tables = t }

abbrev pub refused_at : Tables → Refusal → ℕ → Tabled
refused_at t r k = record { answer = refuse r k; tables = t }

-- commands in turn, of which k have run, up to the first that is refused
unfoldable pub ran : ℕ → Tables → List (List Float) → List Arranged → List (List Float) → List Pulse → Ran
ran k t splines [] bins pulses = ran_to (done_at t k) bins pulses
ran k t splines (a ∷ more) bins pulses =
    let s = step_of t splines bins a in
    cond s.stop (ran_to (refused_at t s.why k) bins pulses) (ran (suc k) s.tables splines more (bins_after s splines bins) (pulses_after s pulses))

-- 64 bins and 1,024 pulses for each of 8 channels, and a row for each of 8 shapes
abbrev pub sizes_fit : ℕ → ℕ → ℕ → ℕ → Bool
sizes_fit commands splines bins pulses = leb commands 1024 && eqb splines 8 && eqb bins 512 && eqb pulses 8192

abbrev pub executed : Tables → List (List Float) → List Arranged → List (List Float) → List Pulse → Ran
executed t splines commands bins pulses =
    cond (sizes_fit (length commands) (length splines) (length bins) (length pulses))
    (ran 0 t splines commands bins pulses)
    (ran_to (refused_at t WrongSize 0) bins pulses)
