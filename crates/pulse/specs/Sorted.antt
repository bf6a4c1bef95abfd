-- A channel's list as it stands: each record before the next, and every time a number. Definitions only.
use Rattle.std.specs.Prelude.{Bool, true, ◌&&◌, not, List, [], ◌∷◌}
use Rattle.std.specs.Float.Ieee.{is_nan}
use Rattle.pulse.specs.declared.list.Pulse.{Pulse}
use Rattle.pulse.specs.List.{stays_before}

unfoldable pub sorted : List Pulse → Bool
sorted [] = true
sorted (q ∷ []) = true
sorted (q ∷ r ∷ rs) = stays_before q r && sorted (r ∷ rs)

-- no time is a NaN
unfoldable pub timed : List Pulse → Bool
timed [] = true
timed (q ∷ qs) = not (is_nan q.time.0) && timed qs
