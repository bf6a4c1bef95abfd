-- Where the answers are exact: 1 and a zero at a zero angle, NaN of a NaN and of the infinities; and that of a finite double they are
-- finite doubles. Assumes nothing.
use mathlib.Core.Path.{◌≡◌, refl, ap, ◌∙◌}
use mathlib.Core.List.{List, [], ◌∷◌}
use mathlib.Core.Bool.{Bool, true, false}
use lib.Dec.{T, lit≤}
use lib.IntN.{pos}
use lib.Ieee.{Float, nan, inf, fin, binary64, of_bits, sub, mul, fits}
use lib.Ieee.Fits.{sub-fits, mul-fits}
use lib.Ieee.Bits.{of_bits-fits}
use lib.Ieee.Scale.{finite}
use Rattle.exact.specs.Doubles.{one}
use Rattle.exact.specs.Value.{sign_of, units_of}
use Rattle.exact.proofs.Value.{zero_is}
use Rattle.trig.specs.Reduce.{reduced}
use Rattle.trig.specs.Trig.{horner, evens, odds, cosine_at, sine_at, cosine_of, sine_of}
use Rattle.trig.proofs.Multiple.{reduces, zero-sign, reduced-zero, reduced-nan, reduced-inf}
use Rattle.trig.proofs.Bound.{cosine-near, sine-near}

-- ---- at a zero
cosine-at-zero : (s : Bool) → cosine_at (fin s 0 (pos 0)) ≡ one
unfolding cosine_at horner mul sub of_bits
cosine-at-zero true = refl
cosine-at-zero false = refl

sine-at-zero : (s : Bool) → sine_at (fin s 0 (pos 0)) ≡ fin s 0 (pos 0)
unfolding sine_at horner mul sub of_bits
sine-at-zero true = refl
sine-at-zero false = refl

-- where the reduced angle is a zero, that is x's: cosine is 1, and sine is a zero of x's sign
module _ (x : Float) (f : T (fits binary64 x)) (t : T (finite x)) (z : units_of (reduced x) ≡ 0) where
  angle_zero : reduced x ≡ fin (sign_of x) 0 (pos 0)
  angle_zero = let R = reduces x f t in zero_is (reduced x) R.fit R.known z ∙ ap (λ (s : Bool). fin s 0 (pos 0)) (zero-sign x f t z)

  pub cosine-zero : cosine_of x ≡ one
  unfolding cosine_of
  cosine-zero = ap cosine_at angle_zero ∙ cosine-at-zero (sign_of x)

  pub sine-zero : sine_of x ≡ fin (sign_of x) 0 (pos 0)
  unfolding sine_of
  sine-zero = ap sine_at angle_zero ∙ sine-at-zero (sign_of x)

-- so it is at the zeros themselves
pub cosine-of-zero : (s : Bool) → cosine_of (fin s 0 (pos 0)) ≡ one
unfolding cosine_of
cosine-of-zero s = ap cosine_at (reduced-zero s) ∙ cosine-at-zero s

pub sine-of-zero : (s : Bool) → sine_of (fin s 0 (pos 0)) ≡ fin s 0 (pos 0)
unfolding sine_of
sine-of-zero s = ap sine_at (reduced-zero s) ∙ sine-at-zero s

-- ---- of what is not finite
cosine-at-nan : cosine_at nan ≡ nan
unfolding cosine_at horner mul sub of_bits
cosine-at-nan = refl

sine-at-nan : sine_at nan ≡ nan
unfolding sine_at mul
sine-at-nan = refl

pub cosine-nan : cosine_of nan ≡ nan
unfolding cosine_of
cosine-nan = ap cosine_at reduced-nan ∙ cosine-at-nan

pub sine-nan : sine_of nan ≡ nan
unfolding sine_of
sine-nan = ap sine_at reduced-nan ∙ sine-at-nan

pub cosine-inf : (s : Bool) → cosine_of (inf s) ≡ nan
unfolding cosine_of
cosine-inf s = ap cosine_at (reduced-inf s) ∙ cosine-at-nan

pub sine-inf : (s : Bool) → sine_of (inf s) ≡ nan
unfolding sine_of
sine-inf s = ap sine_at (reduced-inf s) ∙ sine-at-nan

-- ---- the answers are doubles, and finite where x is
horner-fits : (y c : Float) (cs : List Float) → T (fits binary64 c) → T (fits binary64 (horner y c cs))
unfolding horner
horner-fits y c [] t = t
horner-fits y c (d ∷ ds) t = sub-fits binary64 c (mul binary64 y (horner y d ds))

pub cosine-fits : (x : Float) → T (fits binary64 (cosine_of x))
unfolding cosine_of cosine_at
cosine-fits x = horner-fits (mul binary64 (reduced x) (reduced x)) one evens (of_bits-fits binary64 _)

pub sine-fits : (x : Float) → T (fits binary64 (sine_of x))
unfolding sine_of sine_at
sine-fits x = mul-fits binary64 (reduced x) (horner (mul binary64 (reduced x) (reduced x)) one odds)

pub cosine-finite : (x : Float) → T (fits binary64 x) → T (finite x) → T (finite (cosine_of x))
cosine-finite x f t = (cosine-near x f t 21 (lit≤ tt)).known

pub sine-finite : (x : Float) → T (fits binary64 x) → T (finite x) → T (finite (sine_of x))
sine-finite x f t = (sine-near x f t 21 (lit≤ tt)).known
