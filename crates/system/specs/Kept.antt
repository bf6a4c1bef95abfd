-- Request P1: "a stored pulse keeps its spline when the name is replaced". A pulse tells its bin by its place, and the bin's row has the spline's numbers:
-- so the row has to stay. Definitions only.
use Rattle.std.specs.Prelude.{ℕ, ◌+◌, ◌*◌, ◌<◌, ◌≡◌, false, List, [], ◌∷◌, get_or}
use Rattle.naming.specs.declared.Name.{Name}
use Rattle.naming.specs.Name.{same_name}
use Rattle.tables.specs.Tables.{channel_at}
use Rattle.system.specs.System.{State, Call, make, add-channel, add-shape, add-spline, execute, sample, mixer, iir, fir, Event, calls, lends, with_lent, outcome}

-- a call that neither makes tables anew nor replaces the channel of a name
unfoldable pub Spares : Name → Call → Type 0
Spares name (make amp time oversize) = ⊥
Spares name (add-channel n o) = same_name name n ≡ false
Spares name (add-shape n) = Unit {0}
Spares name (add-spline n p c t) = Unit {0}
Spares name (execute commands) = Unit {0}
Spares name (sample r c factors) = Unit {0}
Spares name (mixer n m o) = Unit {0}
Spares name (iir n sections) = Unit {0}
Spares name (fir n taps) = Unit {0}

unfoldable pub AllSpare : Name → List Event → Type 0
AllSpare name [] = Unit {0}
AllSpare name (calls c ∷ more) = Spares name c × AllSpare name more
AllSpare name (lends rows work marks ∷ more) = AllSpare name more

-- the state behind a run
unfoldable pub after : State → List Event → State
after s [] = s
after s (calls c ∷ more) = after (outcome s c).after more
after s (lends rows work marks ∷ more) = after (with_lent s rows work marks) more

-- bin k of the channel at place i, which is there in s, is there in u, with the same row
pub record Kept (s : State) (i k : ℕ) (u : State) : Type 0 where
  pub there : k < (channel_at u.tables i).bins
  pub same : get_or u.bins (64 * i + k) [] ≡ get_or s.bins (64 * i + k) []
