-- Words for the laws of the command call: a run that goes on in a second call. Definitions only.
use Rattle.quant.specs.Refusal.{Answer, refuse}
use Rattle.std.specs.Prelude.{ℕ, ◌+◌, List, Float, Ok, Err}
use Rattle.commands.specs.declared.command.Arranged.{Arranged}
use Rattle.commands.specs.Run.{Ran, ran_to, executed}

-- an answer whose count or place is n more
abbrev pub further : ℕ → Answer → Answer
further n (Ok k) = Ok (n + k)
further n (Err e) = refuse e.why (n + e.place)

-- the same run, counted from n on
abbrev pub counted_from : ℕ → Ran → Ran
counted_from n r = ran_to (record { answer = further n r.result.answer; tables = r.result.tables }) r.bins r.pulses

-- where a call was done, a second call with what it left and the same shapes' rows, its commands counted after those of the first; where it
-- was refused, no second
unfoldable pub second_call : Answer → Ran → List (List Float) → List Arranged → Ran
second_call (Err e) first splines commands = first
second_call (Ok n) first splines commands = counted_from n (executed first.result.tables splines commands first.bins first.pulses)
