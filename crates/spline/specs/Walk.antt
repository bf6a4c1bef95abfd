-- What the code goes by. Definitions only.
use Rattle.std.specs.Prelude.{◌≡◌, ℕ, zero, suc, ◌+◌, ◌-◌, ◌^◌, ◌<◌, ◌≤◌, Bool, true, false, ◌&&◌, List, length, slice_index_or, Float}
use Rattle.std.specs.Float.{nan, binary64}
use Rattle.std.specs.Float.Ieee.{sub, lt}
use Rattle.std.specs.Float.Ieee.Scale.{finite}
use Rattle.exact.specs.Value.{AtMost}
use Rattle.spline.specs.Spline.{control_at, knot_at, d_at}

-- a degree, and a span of the domain
pub record Within (p k : ℕ) : Type 0 where
  pub degree : p ≤ 5
  pub from : p ≤ k
  pub below : k < 32

-- six numbers hold d[r] to d[p] after round r
pub record Column (row : List Float) (p k : ℕ) (x : Float) (r : ℕ) (d : List Float) : Type 0 where
  pub six : length d ≡ 6
  pub at : (j : ℕ) → r ≤ j → j ≤ p → slice_index_or d j nan ≡ d_at row p k x r j

-- of all numbers of a step only hi - lo and the last sum are tested: that is finite only where all others but hi - lo are (`judged`)

-- hi - lo of d[j] in round r + 1
abbrev pub wide_at : List Float → ℕ → ℕ → ℕ → ℕ → Float
wide_at row p k r j = sub binary64 (knot_at row (j + k - r)) (knot_at row (j + k - p))

-- finite for d[r+1] to d[r+m] in round r + 1
unfoldable pub wide_round : List Float → ℕ → ℕ → ℕ → ℕ → Bool
wide_round row p k r zero = true
wide_round row p k r (suc m) = wide_round row p k r m && finite (wide_at row p k r (r + suc m))

-- and in the first rounds, so many
unfoldable pub wide_rounds : List Float → ℕ → ℕ → ℕ → Bool
wide_rounds row p k zero = true
wide_rounds row p k (suc r) = wide_rounds row p k r && wide_round row p k r (p - r)

-- of at most 2 ^ 1000
abbrev pub Tamed : Float → Type 0
Tamed = AtMost (2 ^ 2074)

-- a spline of which all controls and knots are at most 2^1000 in size and no knot falls: no step can overflow (`tame_fine`), and the span of a point can
-- be found from that of the last one
pub record Tame (row : List Float) (p n : ℕ) : Type 0 where
  pub control : (i : ℕ) → i < n → Tamed (control_at row i)
  pub knot : (i : ℕ) → i ≤ n + p → Tamed (knot_at row i)
  pub rises : (i : ℕ) → i < n + p → lt (knot_at row (i + 1)) (knot_at row i) ≡ false
