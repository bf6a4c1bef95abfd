-- The reduction of an angle by TAU: r = x % TAU; above PI less TAU, below -PI plus TAU. And what it is for that to be exact. Definitions only.
use Rattle.std.specs.Prelude.{◌≡◌, ◌⊎◌, true, false, cond, ◌≤◌, T, Float}
use Rattle.std.specs.Float.{binary64}
use Rattle.std.specs.Float.Ieee.{of_bits, rem, sub, add, neg, lt, ne, fits}
use Rattle.std.specs.Float.Ieee.Scale.{finite}
use Rattle.exact.specs.Doubles.{nought}
use Rattle.exact.specs.Value.{units_of, value_of}
use Rattle.exact.specs.Signed.{Signed, Same, times, plus_s}

-- 6.283185307179586
abbrev pub TAU : Float
TAU = of_bits binary64 0x401921FB54442D18

-- 3.141592653589793
abbrev pub PI : Float
PI = of_bits binary64 0x400921FB54442D18

unfoldable pub wrapped : Float → Float
wrapped r = cond (lt PI r) (sub binary64 r TAU) (cond (lt r (neg PI)) (add binary64 r TAU) r)

unfoldable pub reduced : Float → Float
reduced x = wrapped (rem binary64 x TAU)

-- r is a finite double, at most PI in size, and x less k TAU exactly, for a whole number k: r + TAU k = x, over 2 ^ 1074
pub record Reduction (x r : Float) : Type 0 where
  pub fit : T (fits binary64 r)
  pub known : T (finite r)
  pub small : units_of r ≤ units_of PI
  pub k : Signed
  pub exact : Same (plus_s (value_of r) (times (units_of TAU) k)) (value_of x)

-- x is not between -TAU and TAU: TAU or more in size, or a NaN
abbrev pub Far : Float → Type 0
Far x = (lt x TAU ≡ false) ⊎ (lt (neg TAU) x ≡ false)

-- r is between -PI and PI, and not zero
pub record Inside (r : Float) : Type 0 where
  pub below : lt r PI ≡ true
  pub above : lt (neg PI) r ≡ true
  pub some : ne r nought ≡ true
