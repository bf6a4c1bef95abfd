-- The values of a part and its points' fineness, of every shape; and what each shape's own code has to show of them. Assumes nothing.
use Rattle.std.proofs.Common.{◌≡◌, ℕ, zero, suc, ◌+◌, ◌-◌, ◌<◌, true, ◌&&◌, List, [], ◌∷◌, map, length, get_or, drop, replicate, sym, refl, ap, ◌∙◌, add-one, drop-cons}
use lib.Ieee.{Float, nan}
use Rattle.exact.specs.Doubles.{one}
use Rattle.points.specs.Points.{point_at, points}
use Rattle.points.proofs.Turns.{points-length}
use Rattle.pulse.specs.declared.envelope.Shape.{Shape}
use Rattle.pulse.specs.declared.envelope.Shape.TheVariants.{Plain, Hann, Spline}
use Rattle.rows.proofs.Valued.{constant}
use Rattle.spline.specs.Value.{value_in, AlwaysFine}
use Rattle.shape.specs.declared.parts.Parts.{Parts}
use Rattle.shape.specs.Envelope.{finite_points, steps_fine, fine_points}
use Rattle.shape.specs.Hann.{hann_of}
use Rattle.shape.specs.Segment.{envelope_at, point_fine, values, all_fine}

-- ---- the values
pub each-valued : (shape : Shape) (numbers : List Float) (n i : ℕ) (x dx : Float) → map (envelope_at shape numbers) (points n i x dx) ≡ values shape numbers n i x dx
unfolding points values
each-valued shape numbers zero i x dx = refl
each-valued shape numbers (suc n) i x dx = ap (λ (l : List Float). envelope_at shape numbers (point_at x dx i) ∷ l) (each-valued shape numbers n (suc i) x dx)

module _ (numbers : List Float) (n : ℕ) (x dx : Float) where
  pub plain-values : replicate n one ≡ values Plain numbers n 0 x dx
  unfolding envelope_at
  plain-values =
      ap (λ (k : ℕ). replicate k one) (sym (points-length n 0 x dx))
      ∙ sym (constant one (points n 0 x dx))
      ∙ each-valued Plain numbers n 0 x dx

  pub hann-values : map hann_of (points n 0 x dx) ≡ values Hann numbers n 0 x dx
  unfolding envelope_at
  hann-values = each-valued Hann numbers n 0 x dx

  pub spline-values : map (value_in numbers) (points n 0 x dx) ≡ values Spline numbers n 0 x dx
  unfolding envelope_at
  spline-values = each-valued Spline numbers n 0 x dx

-- ---- the points' fineness
module _ (shape : Shape) (numbers : List Float) where
  -- what is judged from k on is the k-th and what is judged after it
  pub fine-next : (l : List Float) (k : ℕ) → k < length l → all_fine shape numbers (drop k l) ≡ (point_fine shape numbers (get_or l k nan) && all_fine shape numbers (drop (k + 1) l))
  unfolding all_fine
  fine-next l k h =
      ap (all_fine shape numbers) (drop-cons l k nan h)
      ∙ ap (λ (n : ℕ). point_fine shape numbers (get_or l k nan) && all_fine shape numbers (drop n l)) (sym (add-one k))

  pub always : ((x : Float) → point_fine shape numbers x ≡ true) → (l : List Float) → true ≡ all_fine shape numbers l
  unfolding all_fine
  always f [] = refl
  always f (x ∷ l) = rw (f x) (always f l)

-- a spline meets 8 at some points; no shape and Hann at none
module _ (numbers : List Float) (l : List Float) where
  pub plain-fine : true ≡ all_fine Plain numbers l
  unfolding point_fine
  plain-fine = always Plain numbers (λ x. refl) l

  pub hann-fine : true ≡ all_fine Hann numbers l
  unfolding point_fine
  hann-fine = always Hann numbers (λ x. refl) l

  pub spline-fine : AlwaysFine numbers → true ≡ all_fine Spline numbers l
  unfolding point_fine
  spline-fine f = always Spline numbers f l

-- ---- what each shape's points answer, where they are finite
module _ (numbers : List Float) (p : Parts) (known : finite_points p ≡ true) where
  pub plain-judged : true ≡ fine_points Plain numbers p
  unfolding fine_points
  plain-judged = rw (known, ← plain-fine numbers (points p.start 0 p.x0 p.dx), ← plain-fine numbers (points (p.length - p.end) 0 p.x2 p.dx))

  pub hann-judged : true ≡ fine_points Hann numbers p
  unfolding fine_points
  hann-judged = rw (known, ← hann-fine numbers (points p.start 0 p.x0 p.dx), ← hann-fine numbers (points (p.length - p.end) 0 p.x2 p.dx))

  pub spline-judged : steps_fine numbers p ≡ fine_points Spline numbers p
  unfolding fine_points
  spline-judged = rw known
