-- Document 01, "Placing and sampling": "point i is fused i*dx + x0". Definitions only.
use Rattle.std.specs.Prelude.{ℕ, zero, suc, List, [], ◌∷◌, pos, Float}
use Rattle.std.specs.Float.{binary64}
use Rattle.std.specs.Float.Ieee.{of_int}
use Rattle.fma.specs.Fused.{fma}

-- an index as a double; exact up to 2^53
abbrev pub number : ℕ → Float
number i = of_int binary64 (pos i)

abbrev pub point_at : Float → Float → ℕ → Float
point_at x dx i = fma binary64 (number i) dx x

-- n points from the i-th on
unfoldable pub points : ℕ → ℕ → Float → Float → List Float
points zero i x dx = []
points (suc n) i x dx = point_at x dx i ∷ points n (suc i) x dx
