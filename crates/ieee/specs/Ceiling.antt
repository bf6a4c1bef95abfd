-- roundToIntegralTowardPositive of IEEE 754-2019, 5.9: the least whole number that is not below x. A NaN and an infinity come back as they are. The result has the sign of x, a zero
-- too (6.3), so that -0.5 gives -0. A finite x is a fraction a / d of two whole numbers, with a sign.
use Rattle.std.specs.Prelude.{ℕ, ◌+◌, ◌-◌, ◌*◌, ◌/◌, ◌%◌, ◌<◌, ◌≤◌, Bool, true, false, T, ◌==◌, Float}
use Rattle.std.specs.Float.{nan, inf, fin, binary64}
use Rattle.std.specs.Float.Ieee.{up, down, round, le}
use Rattle.std.specs.Float.Ieee.Exact.{HasValue}

-- the whole part of a / d
abbrev pub whole_part : ℕ → ℕ → ℕ
whole_part a d = a / d

-- the least whole number that is not below a / d
abbrev pub whole_above : ℕ → ℕ → ℕ
whole_above a d = (a + (d - 1)) / d

-- the size of the ceiling of a / d, which is negative where s is true
abbrev pub whole_toward : Bool → ℕ → ℕ → ℕ
whole_toward true a d = whole_part a d
whole_toward false a d = whole_above a d

unfoldable pub ceiling : Float → Float
ceiling nan = nan
ceiling (inf s) = inf s
ceiling (fin s m e) = round binary64 s (whole_toward s (m * up e) (down e)) 1

-- ---- what is proved of it (proofs/Ceiling.antt)

-- finite, with no fraction
abbrev pub is_whole : Float → Bool
is_whole nan = false
is_whole (inf s) = false
is_whole (fin s m e) = m * up e % down e == 0

-- y is the least whole number that is not below x
pub record LeastWhole (x y : Float) : Type 0 where
  pub whole : T (is_whole y)
  pub reaches : T (le x y)
  pub least : (z : Float) → T (is_whole z) → T (le x z) → T (le y z)

-- n is the least whole number that is not below a / d
pub record CeilOf (a d n : ℕ) : Type 0 where
  pub reaches : a ≤ n * d
  pub near : n * d < a + d

-- n is the greatest whole number that is not above a / d
pub record FloorOf (a d n : ℕ) : Type 0 where
  pub reaches : n * d ≤ a
  pub near : a < n * d + d

-- n is a / d rounded toward positive, both negative where s is true
abbrev pub TowardPositive : Bool → ℕ → ℕ → ℕ → Type 0
TowardPositive false a d n = CeilOf a d n
TowardPositive true a d n = FloorOf a d n

-- y is the whole number n, and n is a / d rounded toward positive, both negative where s is true
pub record CeilingAt (s : Bool) (a d : ℕ) (y : Float) : Type 0 where
  pub n : ℕ
  pub value : HasValue y s n 1
  pub toward : TowardPositive s a d n
