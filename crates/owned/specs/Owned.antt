-- Document 01, "A list over 1,024 commands: 13 before any", for a caller that owns its arrays and counts its commands. Definitions only.
use Rattle.std.specs.Prelude.{ℕ, cond, List, leb, Float, take}
use Rattle.quant.specs.declared.refusal.Refusal.TheVariants.{WrongSize}
use Rattle.pulse.specs.declared.list.Pulse.{Pulse}
use Rattle.tables.specs.declared.Tables.{Tables}
use Rattle.tables.specs.declared.Tabled.{Tabled}
use Rattle.commands.specs.declared.command.Arranged.{Arranged}
use Rattle.commands.specs.Run.{Ran, ran_to, refused_at, executed}
use Rattle.owned.specs.declared.Executed.{Executed}

-- the first `count` commands; with a count over 1,024 13, at place 0, and all as it came
abbrev pub executed_owned : Tables → List (List Float) → List Arranged → ℕ → List (List Float) → List Pulse → Ran
executed_owned t splines commands count bins pulses =
    cond (leb count 1024) (executed t splines (take count commands) bins pulses) (ran_to (refused_at t WrongSize 0) bins pulses)

-- how many are handed on, and what is answered: none, and 13, where the count is over 1,024
abbrev pub to_run : ℕ → ℕ
to_run count = cond (leb count 1024) count 0

abbrev pub told_of : ℕ → Tabled → Tabled
told_of count r = cond (leb count 1024) r (refused_at r.tables WrongSize 0)

abbrev pub executed_with : ℕ → Tabled → List Pulse → Executed
executed_with count r pulses = record { tabled = told_of count r; pulses = pulses }
