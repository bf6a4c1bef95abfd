-- Document 01, "Placing and sampling": the envelope's points in the scratch. "With a plateau it holds 1"; "all checks come before the first
-- store, and the rest of the scratch stays"; refusal 8 for "each point taken, but not x0, dx, x2 alone". Definitions only.
use Rattle.quant.specs.Refusal.{Answer, refuse}
use Rattle.std.specs.Prelude.{ℕ, ◌-◌, ◌≤◌, Bool, cond, ◌&&◌, List, ◌++◌, drop, replicate, nat_le, Float, Result, Ok, Err}
use Rattle.quant.specs.declared.refusal.Refusal.{Refusal}
use Rattle.exact.specs.Doubles.{one}
use Rattle.quant.specs.declared.refusal.Refusal.TheVariants.{NotFinite}
use Rattle.rows.specs.Rows.{all_finite}
use Rattle.shape.specs.declared.parts.Parts.{Parts}
use Rattle.points.specs.Points.{points}
use Rattle.pulse.specs.declared.envelope.Shape.{Shape}
use Rattle.pulse.specs.declared.envelope.Shape.TheVariants.{Spline}
use Rattle.shape.specs.Segment.{values, all_fine}

-- the smaller of two
abbrev pub least : ℕ → ℕ → ℕ
least a b = cond (nat_le a b) a b

-- Room for the envelope: what is left of the row, where the scratch has n samples. Document 01 lends a scratch no shorter than the row, and rows have
-- at most 65,536 samples; for a call with another scratch or room these are the limits.
abbrev pub limit_of : ℕ → ℕ → ℕ
limit_of room n = least (least room n) 65536

-- each point taken is finite
unfoldable pub finite_points : Parts → Bool
finite_points p = all_finite (points p.start 0 p.x0 p.dx) && all_finite (points (p.length - p.end) 0 p.x2 p.dx)

-- of a spline every step at each point taken
abbrev pub steps_fine : List Float → Parts → Bool
steps_fine numbers p =
    all_fine Spline numbers (points p.start 0 p.x0 p.dx) && all_fine Spline numbers (points (p.length - p.end) 0 p.x2 p.dx)

-- ---- of a shape, with the numbers of a spline beside it
module _ (shape : Shape) (numbers : List Float) where
  -- the envelope: its head, the plateau of ones, its tail
  unfoldable pub shape_of : Parts → List Float
  shape_of p =
      values shape numbers p.start 0 p.x0 p.dx
      ++ (replicate (p.end - p.start) one ++ values shape numbers (p.length - p.end) 0 p.x2 p.dx)

  -- each point taken is finite, and so is every step on the way to its value
  unfoldable pub fine_points : Parts → Bool
  fine_points p =
      finite_points p
      && (all_fine shape numbers (points p.start 0 p.x0 p.dx) && all_fine shape numbers (points (p.length - p.end) 0 p.x2 p.dx))

  abbrev pub filled_of : Parts → Result ℕ Refusal
  filled_of p = cond (fine_points p) (Ok p.length) (Err NotFinite)

  abbrev pub scratch_filled : Parts → List Float → List Float
  scratch_filled p old = cond (fine_points p) (shape_of p ++ drop p.length old) old

  -- what the call answers, and the scratch afterwards; refused, it stays as it came
  abbrev pub enveloped_of : Result Parts Refusal → Result ℕ Refusal
  enveloped_of (Ok p) = filled_of p
  enveloped_of (Err r) = Err r

  abbrev pub scratch_after : Result Parts Refusal → List Float → List Float
  scratch_after (Ok p) old = scratch_filled p old
  scratch_after (Err r) old = old

-- what the cases answer
abbrev pub enveloped_answer : Result ℕ Refusal → Answer
enveloped_answer (Ok n) = Ok 0
enveloped_answer (Err r) = refuse r 0

-- parts in order, within a scratch of n samples
pub record Fitting (p : Parts) (n : ℕ) : Type 0 where
  pub head : p.start ≤ p.end
  pub tail : p.end ≤ p.length
  pub room : p.length ≤ n
