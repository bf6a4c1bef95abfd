-- Document 01, "Placing and sampling": the values at an envelope's points. Definitions only.
use Rattle.std.specs.Prelude.{ℕ, zero, suc, ◌-◌, ◌*◌, ◌^◌, ◌<◌, ◌≤◌, Bool, true, ◌&&◌, List, [], ◌∷◌, length, slice_index_or, Float}
use Rattle.std.specs.Float.{nan}
use Rattle.exact.specs.Doubles.{one}
use Rattle.exact.specs.Value.{AtMost}
use Rattle.spline.specs.Value.{value_in, fine_in}
use Rattle.pulse.specs.declared.envelope.Shape.{Shape}
use Rattle.pulse.specs.declared.envelope.Shape.TheVariants.{Plain, Hann, Spline}
use Rattle.points.specs.Points.{point_at}
use Rattle.shape.specs.Hann.{hann_of}

-- the value of a shape at a point, with the numbers of a spline beside it: no shape holds 1
unfoldable pub envelope_at : Shape → List Float → Float → Float
envelope_at Plain numbers x = one
envelope_at Hann numbers x = hann_of x
envelope_at Spline numbers x = value_in numbers x

-- whether a point meets no 8: with request P1 "8 also where a step of the recurrence at a point taken is not finite"
unfoldable pub point_fine : Shape → List Float → Float → Bool
point_fine Plain numbers x = true
point_fine Hann numbers x = true
point_fine Spline numbers x = fine_in numbers x

module _ (shape : Shape) (numbers : List Float) where
  -- at n points from the i-th on
  unfoldable pub values : ℕ → ℕ → Float → Float → List Float
  values zero i x dx = []
  values (suc n) i x dx = envelope_at shape numbers (point_at x dx i) ∷ values n (suc i) x dx

  unfoldable pub all_fine : List Float → Bool
  all_fine [] = true
  all_fine (x ∷ xs) = point_fine shape numbers x && all_fine xs

-- of at most 2 ^ 100
abbrev pub Moderate : Float → Type 0
Moderate = AtMost (2 ^ 1174)

-- of at most 7/8
abbrev pub Near : Float → Type 0
Near = AtMost (7 * 2 ^ 1071)

-- some points, but no more than an envelope has, of which the first and the last are near
pub record EndsNear (part : List Float) : Type 0 where
  pub some : 0 < length part
  pub few : length part ≤ 65536
  pub first : Near (slice_index_or part 0 nan)
  pub last : Near (slice_index_or part (length part - 1) nan)
