-- Request P1: "a degree 0..5, degree + 1 to 32 controls and knots (controls + degree + 1 of them, not falling)"; "inside it is the de Boor
-- recurrence on the domain's last span that starts at or below the point, with one rounding per operation in a written order, 0/0 taken as 0".
-- p is the degree, n the count of controls, t the knots, c the controls' numbers, from 0. Definitions only.
use Rattle.std.specs.Prelude.{ℕ, zero, suc, ◌+◌, ◌-◌, ◌<◌, ◌≤◌, Bool, true, cond, not, ◌&&◌, List, [], ◌∷◌, length, ◌==◌, nat_le, nat_lt, slice_index_or, Float}
use Rattle.std.specs.Float.{nan}
use Rattle.std.specs.Float.Ieee.{binary64, add, sub, mul, div, lt, le, eq}
use Rattle.std.specs.Float.Ieee.Scale.{finite}
use Rattle.exact.specs.Doubles.{nought, one}

-- ---- 16: what a spline may be

-- no knot is below the one before it; 0 and -0 do not fall
unfoldable pub not_falling : List Float → Bool
not_falling [] = true
not_falling (a ∷ []) = true
not_falling (a ∷ b ∷ l) = not (lt b a) && not_falling (b ∷ l)

-- a degree of at most 5, degree + 1 to 32 controls
abbrev pub sizes_fit : ℕ → ℕ → Bool
sizes_fit p n = nat_le p 5 && nat_lt p n && nat_le n 32

-- and controls + degree + 1 knots
abbrev pub counts_fit : ℕ → ℕ → ℕ → Bool
counts_fit p n knots = sizes_fit p n && knots == n + p + 1

unfoldable pub is_spline : ℕ → ℕ → List Float → Bool
is_spline p n t = counts_fit p n (length t) && not_falling t

-- the same sizes, as facts
pub record Sizes (p n : ℕ) : Type 0 where
  pub degree : p ≤ 5
  pub some : p < n
  pub most : n ≤ 32

-- ---- a spline's row of 72 numbers: degree, count of controls, 32 controls, 38 knots

abbrev pub control_at : List Float → ℕ → Float
control_at row i = slice_index_or row (2 + i) nan

abbrev pub knot_at : List Float → ℕ → Float
knot_at row i = slice_index_or row (34 + i) nan

-- "The domain is t[p] to t[n], both ends in it."
unfoldable pub in_domain : List Float → ℕ → ℕ → Float → Bool
in_domain row p n x = le (knot_at row p) x && le x (knot_at row n)

-- "k is the largest of p..n-1 with t[k] <= x": of p to p+m; p where there is none
unfoldable pub span_to : List Float → ℕ → Float → ℕ → ℕ
span_to row p x zero = p
span_to row p x (suc m) = cond (le (knot_at row (p + suc m)) x) (p + suc m) (span_to row p x m)

abbrev pub span_at : List Float → ℕ → ℕ → Float → ℕ
span_at row p n x = span_to row p x (n - 1 - p)

-- ---- the recurrence

-- "alpha = (x - lo) / (hi - lo), where 0/0 is +0", of the two differences
abbrev pub alpha_of : Float → Float → Float
alpha_of from wide = cond (eq from nought && eq wide nought) nought (div binary64 from wide)

-- alpha at x
abbrev pub share : Float → Float → Float → Float
share x lo hi = alpha_of (sub binary64 x lo) (sub binary64 hi lo)

abbrev pub all_seven : Float → Float → Float → Float → Float → Float → Float → Bool
all_seven a b c d e f g = finite a && finite b && finite c && finite d && finite e && finite f && finite g

-- ---- one step at x, with lo and hi, from d[j-1] and d[j]
module _ (x lo hi a b : Float) where
  -- "d[j] = (1 - alpha)*d[j-1] + alpha*d[j]"
  unfoldable pub blend_of : Float
  blend_of = add binary64 (mul binary64 (sub binary64 one (share x lo hi)) a) (mul binary64 (share x lo hi) b)

  -- 8: "a difference, quotient, 1 - alpha, product or sum at a point taken that is not finite"
  unfoldable pub fine_step : Bool
  unfolding blend_of
  fine_step =
      all_seven (sub binary64 x lo) (sub binary64 hi lo) (share x lo hi) (sub binary64 one (share x lo hi))
      (mul binary64 (sub binary64 one (share x lo hi)) a)
      (mul binary64 (share x lo hi) b)
      blend_of

-- ---- on the span k: "d[j] = c[j+k-p] for j = 0..p. For r = 1..p, and for j = p down to r: with lo = t[j+k-p] and hi = t[j+1+k-r]"
module _ (row : List Float) (p k : ℕ) (x : Float) where
  -- d[j] after round r
  unfoldable pub d_at : ℕ → ℕ → Float
  d_at zero j = control_at row (j + k - p)
  d_at (suc r) j = blend_of x (knot_at row (j + k - p)) (knot_at row (j + 1 + k - suc r)) (d_at r (j - 1)) (d_at r j)

  -- whether the controls and the steps that it comes of are finite; d[p] after round p comes of every step
  unfoldable pub fine_at : ℕ → ℕ → Bool
  fine_at zero j = finite (control_at row (j + k - p))
  fine_at (suc r) j = fine_at r (j - 1) && fine_at r j && fine_step x (knot_at row (j + k - p)) (knot_at row (j + 1 + k - suc r)) (d_at r (j - 1)) (d_at r j)
