-- Each number of a list whose numbers are all finite. Assumes nothing.
use Prim.Native.Nat.{ℕ, zero, suc, ◌<◌}
use native.Mathlib.Omega.{arith}
use mathlib.Core.Path.{◌≡◌}
use mathlib.Core.Bool.{true}
use mathlib.Core.List.{List, [], ◌∷◌}
use lib.ListN.{length, get_or}
use lib.Ieee.{Float, nan}
use lib.Ieee.Scale.{finite}
use Rattle.exact.proofs.Truth.{both}
use Rattle.rows.specs.Rows.{all_finite}

pub finite-at : (l : List Float) (k : ℕ) → all_finite l ≡ true → k < length l → finite (get_or l k nan) ≡ true
unfolding all_finite
finite-at [] k e h = absurd (omega arith)
finite-at (x ∷ l) zero e h = (both (finite x) (all_finite l) e).0
finite-at (x ∷ l) (suc k) e h = finite-at l k (both (finite x) (all_finite l) e).1 (omega arith)
