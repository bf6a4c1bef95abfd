-- A finite double as a whole number over 2 ^ 1074, the smallest positive double. Definitions only.
use Rattle.std.specs.Prelude.{ℕ, ◌*◌, ◌/◌, ◌^◌, ◌≤◌, Bool, false, T, Float}
use Rattle.std.specs.Float.{nan, inf, fin, binary64}
use Rattle.std.specs.Float.Ieee.{up, down, fits}
use Rattle.std.specs.Float.Ieee.Scale.{finite}
use Rattle.std.specs.Float.Ieee.Exact.{HasValue}
use Rattle.exact.specs.Signed.{Signed, signed}

-- x is finite, has the sign s (true: negative) and is n / 2 ^ 1074 in size
abbrev pub Units : Float → Bool → ℕ → Type 0
Units x s n = HasValue x s n (2 ^ 1074)

-- the sign and the size in units of a finite x; what they say of a NaN or an infinity is never used
abbrev pub sign_of : Float → Bool
sign_of nan = false
sign_of (inf s) = s
sign_of (fin s m e) = s

abbrev pub units_of : Float → ℕ
units_of nan = 0
units_of (inf s) = 0
units_of (fin s m e) = m * up e * 2 ^ 1074 / down e

-- a finite double times 2 ^ 1074
abbrev pub value_of : Float → Signed
value_of x = signed (sign_of x) (units_of x)

-- z is a double of at most m units in size
pub record AtMost (m : ℕ) (z : Float) : Type 0 where
  pub fit : T (fits binary64 z)
  pub known : T (finite z)
  pub small : units_of z ≤ m
