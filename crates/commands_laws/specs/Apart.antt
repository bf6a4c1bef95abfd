-- Words for the law that channels do not meet: the commands of a list that are for one channel, and what that channel sees. Swaps, which
-- are for two channels, are left aside. Definitions only.
use Rattle.quant.specs.Refusal.{Answer}
use Rattle.std.specs.Prelude.{ℕ, ◌≡◌, Bool, true, false, ◌&&◌, not, cond, List, [], ◌∷◌, Float, Some, Ok, Err}
use Rattle.naming.specs.declared.Name.{Name}
use Rattle.naming.specs.Name.{same_name}
use Rattle.pulse.specs.declared.list.Pulse.{Pulse}
use Rattle.tables.specs.declared.Tables.{Tables}
use Rattle.tables.specs.Tables.{shapes_in, found, channel_at}
use Rattle.commands.specs.declared.command.Command.{Command}
use Rattle.commands.specs.declared.command.Command.TheVariants as C
use Rattle.commands.specs.declared.command.Arranged.{Arranged}
use Rattle.commands.specs.Command.{is_swap}
use Rattle.commands.specs.Play.{rows_of}
use Rattle.commands_laws.specs.Sound.{list_of}

-- whether a command is for the channel of that name
unfoldable pub is_for : Name → Command → Bool
is_for n (C.Play p) = same_name p.channel n
is_for n (C.ShiftPhase m x) = same_name m n
is_for n (C.SetPhase m x) = same_name m n
is_for n (C.ShiftFreq m x) = same_name m n
is_for n (C.SetFreq m x) = same_name m n
is_for n (C.SwapPhase a b) = true
is_for n C.Barrier = false

-- the commands of a list that are for a channel
unfoldable pub only_for : Name → List Arranged → List Arranged
only_for n [] = []
only_for n (a ∷ more) = cond (is_for n a.command) (a ∷ only_for n more) (only_for n more)

unfoldable pub no_swaps : List Arranged → Bool
no_swaps [] = true
no_swaps (a ∷ more) = not (is_swap a.command) && no_swaps more

unfoldable pub is_done : Answer → Bool
is_done (Ok k) = true
is_done (Err e) = false

-- the channel named n stands at the same place i of both tables and looks the same: what its commands go by, its state and counts, its
-- bins' rows and its records
pub record SameTo (n : Name) (i : ℕ) (t u : Tables) (bins rows : List (List Float)) (pulses records : List Pulse) : Type 0 where
  pub here : found t n ≡ Some i
  pub there : found u n ≡ Some i
  pub amp : t.amp.0 ≡ u.amp.0
  pub time : t.time.0 ≡ u.time.0
  pub oversize : t.oversize ≡ u.oversize
  pub shapes : shapes_in t ≡ shapes_in u
  pub channel : channel_at t i ≡ channel_at u i
  pub its-rows : rows_of t bins i ≡ rows_of u rows i
  pub its-list : list_of t pulses i ≡ list_of u records i
