-- The exact carrier: "amplitude times start times rotation to the power k, with the computed doubles read as exact fractions". A double is a
-- whole number over 2 ^ 1074, so a product of j doubles is a whole number over 2 ^ 1074 to the power j. Definitions only.
use Rattle.std.specs.Prelude.{ℕ, zero, suc, ◌+◌, ◌*◌, ◌^◌, ◌≤◌, Float, T}
use Rattle.std.specs.Float.{binary64}
use Rattle.std.specs.Float.Ieee.{fits}
use Rattle.std.specs.Float.Ieee.Scale.{finite}
use Rattle.exact.specs.Signed.{Signed, Apart, times, plus_s, less_s, times_s}
use Rattle.exact.specs.Value.{units_of, value_of}
use Rattle.quant.specs.declared.complex.Complex.{Complex}
use Rattle.quant.specs.Complex.{times_c}
use Rattle.mix.specs.Plateau.{carrier_after}

-- ---- complex whole numbers

pub record Gauss : Type 0 where
  pub re : Signed
  pub im : Signed

abbrev pub one_g : Gauss
one_g = record { re = record { plus = 1; less = 0 }; im = record { plus = 0; less = 0 } }

abbrev pub times_g : Gauss → Gauss → Gauss
times_g x y = record { re = less_s (times_s x.re y.re) (times_s x.im y.im); im = plus_s (times_s x.re y.im) (times_s x.im y.re) }

unfoldable pub power_g : Gauss → ℕ → Gauss
power_g x zero = one_g
power_g x (suc k) = times_g (power_g x k) x

-- ---- doubles read exactly

abbrev pub exactly : Complex → Gauss
exactly z = record { re = value_of z.re; im = value_of z.im }

-- times 2 ^ 1074 to the power k + 2
abbrev pub carrier_exactly : Complex → Complex → Complex → ℕ → Gauss
carrier_exactly amp start rotation k = times_g (times_g (exactly amp) (exactly start)) (power_g (exactly rotation) k)

-- the sum of the absolute parts, times 2 ^ 1074
abbrev pub absolute : Complex → ℕ
absolute z = units_of z.re + units_of z.im

-- the sum of the squares of the parts, times 2 ^ 2148
abbrev pub squares : Complex → ℕ
squares z = units_of z.re * units_of z.re + units_of z.im * units_of z.im

-- ---- the words of the theorem

-- two finite doubles
pub record Held (z : Complex) : Type 0 where
  pub re-fits : T (fits binary64 z.re)
  pub im-fits : T (fits binary64 z.im)
  pub re-finite : T (finite z.re)
  pub im-finite : T (finite z.im)

-- "m between 2 ^ -200 and 2 ^ 200; the squares of the start pair and of the rotation pair each sum to at most 1 + 2 ^ -44"
pub record Tame (amp start rotation : Complex) : Type 0 where
  pub amp-held : Held amp
  pub start-held : Held start
  pub rotation-held : Held rotation
  pub lowest : 2 ^ 874 ≤ absolute amp
  pub highest : absolute amp ≤ 2 ^ 1274
  pub start-turns : squares start ≤ 2 ^ 2148 + 2 ^ 2104
  pub rotation-turns : squares rotation ≤ 2 ^ 2148 + 2 ^ 2104

-- x is finite and lies within (k + 1) 2 ^ -49 m of the exact part w: both sides times 2 ^ 49 and 2 ^ 1074 to the power k + 2
pub record Near (x : Float) (w : Signed) (k m : ℕ) : Type 0 where
  pub is_finite : T (finite x)
  pub apart : Apart (times (2 ^ 49 * (2 ^ 1074) ^ suc k) (value_of x)) (times (2 ^ 49) w) (suc k * m * (2 ^ 1074) ^ suc k)

-- "lies within (k+1)·2^-49·m of the exact product", of the carrier after k steps: both its parts
pub record CarrierNear (amp start rotation : Complex) (k : ℕ) : Type 0 where
  pub re : Near (carrier_after k (times_c start amp) rotation).re (carrier_exactly amp start rotation k).re k (absolute amp)
  pub im : Near (carrier_after k (times_c start amp) rotation).im (carrier_exactly amp start rotation k).im k (absolute amp)
