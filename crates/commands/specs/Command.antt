-- Document 01: what a command carries and how long it takes. "2: a number in a command is not finite; width below 0; a name breaks the
-- rule"; "Required is width for a flexible play, width + plateau for another, 0 for the rest". Definitions only.
use Rattle.std.specs.Prelude.{Bool, true, false, ◌&&◌, not, cond, Float, Option, Some, None}
use Rattle.std.specs.Float.{binary64}
use Rattle.std.specs.Float.Ieee.{add, lt}
use Rattle.std.specs.Float.Ieee.Scale.{finite}
use Rattle.exact.specs.Doubles.{nought}
use Rattle.naming.specs.declared.Name.{Name}
use Rattle.naming.specs.Name.{is_name}
use Rattle.tables.specs.declared.Tables.{Tables}
use Rattle.tables.specs.Tables.{no_name}
use Rattle.commands.specs.declared.command.Play.{Play}
use Rattle.commands.specs.declared.command.Command.{Command}
use Rattle.commands.specs.declared.command.Command.TheVariants as C
use Rattle.commands.specs.declared.command.Arranged.{Arranged}

-- the name of a shape, where there is one
abbrev pub good_shape : Option Name → Bool
good_shape None = true
good_shape (Some n) = is_name n

-- the names of a play
abbrev pub good_names : Play → Bool
good_names p = is_name p.channel && good_shape p.shape

-- the numbers of a play, the plateau of a flexible one too
abbrev pub good_numbers : Play → Bool
good_numbers p =
    finite p.amplitude.0
    && finite p.width.0
    && finite p.plateau.0
    && finite p.drag
    && finite p.frequency.0
    && finite p.phase.0
    && not (lt p.width.0 nought)

unfoldable pub good : Command → Bool
good (C.Play p) = good_names p && good_numbers p
good (C.ShiftPhase n x) = is_name n && finite x.0
good (C.SetPhase n x) = is_name n && finite x.0
good (C.ShiftFreq n x) = is_name n && finite x.0
good (C.SetFreq n x) = is_name n && finite x.0
good (C.SwapPhase n m) = is_name n && is_name m
good C.Barrier = true

-- whether a command meets no 2; every command carries a start and a span
abbrev pub well_formed : Arranged → Bool
well_formed a = finite a.start.0 && finite a.span.0 && good a.command

-- how long a command takes at least
unfoldable pub required : Command → Float
required (C.Play p) = cond p.flexible p.width.0 (add binary64 p.width.0 p.plateau.0)
required (C.ShiftPhase n x) = nought
required (C.SetPhase n x) = nought
required (C.ShiftFreq n x) = nought
required (C.SetFreq n x) = nought
required (C.SwapPhase n m) = nought
required C.Barrier = nought

-- "4: required duration > span + time tolerance, oversize not allowed"; both sums are rounded and may be infinite
abbrev pub too_long : Tables → Arranged → Bool
too_long t a = not t.oversize && lt (add binary64 a.span.0 t.time.0) (required a.command)

-- the channel that a command names; of a swap the first, of a barrier none
abbrev pub named : Command → Name
named (C.Play p) = p.channel
named (C.ShiftPhase n x) = n
named (C.SetPhase n x) = n
named (C.ShiftFreq n x) = n
named (C.SetFreq n x) = n
named (C.SwapPhase n m) = n
named C.Barrier = no_name

-- whether it is for two channels
unfoldable pub is_swap : Command → Bool
is_swap (C.Play p) = false
is_swap (C.ShiftPhase m x) = false
is_swap (C.SetPhase m x) = false
is_swap (C.ShiftFreq m x) = false
is_swap (C.SetFreq m x) = false
is_swap (C.SwapPhase a b) = true
is_swap C.Barrier = false
