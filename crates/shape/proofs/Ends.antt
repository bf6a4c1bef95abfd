-- All points of a segment are finite exactly where its first and its last are, and where its start and its step are not too large. Assumes nothing.
use Rattle.std.proofs.Common.{◌≡◌, ℕ, zero, suc, ◌+◌, ◌-◌, ◌<◌, ◌≤◌, Bool, true, false, ◌&&◌, T, refl, subst, le_of_suc-le-suc, not-suc-le-zero, arith}
use lib.Ieee.{Float}
use lib.Ieee.Fits.{and_i, and_l, and_r}
use lib.Ieee.Scale.{finite}
use Rattle.rows.specs.Rows.{all_finite}
use Rattle.points.specs.Points.{point_at, points}
use Rattle.exact.specs.Value.{sign_of, units_of}
use Rattle.exact.proofs.Value.{own}
use Rattle.exact.proofs.Finite.{smaller-finite}
use Rattle.points.proofs.Fused.{point-finite}
use Rattle.points.proofs.Between.{points-between}
use Rattle.shape.specs.Segment.{Moderate}

module _ (x dx : Float) where
  abbrev fine : ℕ → Type 0
  fine i = T (finite (point_at x dx i))

  -- n points from the i-th on
  all-fine : (n i : ℕ) → ((k : ℕ) → k < n → fine (i + k)) → T (all_finite (points n i x dx))
  unfolding all_finite points
  all-fine zero i f = tt
  all-fine (suc n) i f =
      let here : fine i = subst fine (omega arith) (f 0 (omega arith)) in
      and_i (finite (point_at x dx i)) (all_finite (points n (suc i) x dx)) here (all-fine n (suc i) (λ k h. subst fine (omega arith) (f (suc k) (omega arith))))

  each-fine : (n i : ℕ) → T (all_finite (points n i x dx)) → (k : ℕ) → k < n → fine (i + k)
  unfolding all_finite points
  each-fine zero i t k h = absurd (not-suc-le-zero h)
  each-fine (suc n) i t zero h = subst fine (omega arith) (and_l (finite (point_at x dx i)) (all_finite (points n (suc i) x dx)) t)
  each-fine (suc n) i t (suc k) h = subst fine (omega arith) (each-fine n (suc i) (and_r (finite (point_at x dx i)) (all_finite (points n (suc i) x dx)) t) k (le_of_suc-le-suc h))

  same : (a b : Bool) → (T a → T b) → (T b → T a) → a ≡ b
  same true true f g = refl
  same false false f g = refl
  same true false f g = absurd (f tt)
  same false true f g = absurd (g tt)

  pub ends : (n : ℕ) → 0 < n → n ≤ 65536 → (finite (point_at x dx 0) && finite (point_at x dx (n - 1))) ≡ all_finite (points n 0 x dx)
  ends n h l =
      same (finite (point_at x dx 0) && finite (point_at x dx (n - 1))) (all_finite (points n 0 x dx))
      (λ t. all-fine n 0 (λ k g. subst fine (omega arith) (points-between (λ (z : Float). T (finite z)) (record { smaller = smaller-finite; known = λ z t. t }) x dx k (n - 1) (omega arith) (omega arith) (and_l (finite (point_at x dx 0)) (finite (point_at x dx (n - 1))) t) (and_r (finite (point_at x dx 0)) (finite (point_at x dx (n - 1))) t))))
      (λ t. let first : fine 0 = subst fine (omega arith) (each-fine n 0 t 0 h) in
      let last : fine (n - 1) = subst fine (omega arith) (each-fine n 0 t (n - 1) (omega arith)) in
      and_i (finite (point_at x dx 0)) (finite (point_at x dx (n - 1))) first last)

  -- they are finite where x and dx are not too large
  pub moderate_ends : (n : ℕ) → n ≤ 65536 → Moderate x → Moderate dx → true ≡ all_finite (points n 0 x dx)
  moderate_ends n l p q =
      same true (all_finite (points n 0 x dx))
      (λ t. all-fine n 0 (λ k h. point-finite x dx (sign_of x) (sign_of dx) (units_of x) (units_of dx) (0 + k) (omega arith) p.small q.small (own x p.fit p.known) (own dx q.fit q.known)))
      (λ t. tt)
