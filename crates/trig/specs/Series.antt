-- The power series of cosine and sine at a fraction, summed term by term over whole numbers; and what it is to lie within 2 ^ -48 of such
-- a sum. Definitions only.
use Rattle.std.specs.Prelude.{Bool, false, not, ◌&&◌, ℕ, zero, suc, ◌+◌, ◌*◌, ◌^◌, T, Float}
use Rattle.std.specs.Float.Ieee.{unlike}
use Rattle.std.specs.Float.Ieee.Scale.{finite}
use Rattle.exact.specs.Value.{sign_of, units_of, value_of}
use Rattle.exact.specs.Signed.{Signed, Apart, signed, times, plus_s}

-- p!
unfoldable pub factorial : ℕ → ℕ
factorial zero = 1
factorial (suc p) = suc p * factorial p

-- whether k is odd: the sign of (-1) ^ k (true: negative)
unfoldable pub odd : ℕ → Bool
odd zero = false
odd (suc k) = not (odd k)

-- a signed whole number over a natural one
pub record Fraction : Type 0 where
  pub top : Signed
  pub bottom : ℕ

-- a / b + c / d = (d a + b c) / (b d)
abbrev pub plus_f : Fraction → Fraction → Fraction
plus_f f g =
    record {
      top = plus_s (times g.bottom f.top) (times f.bottom g.top);
      bottom = f.bottom * g.bottom;
    }

-- term k of cosine's series (o = 0) or of sine's (o = 1) at r, which is x / q with the sign s: (-1) ^ k r ^ p / p!, where p = 2 k + o. The
-- power of r is negative where r is and p is odd
unfoldable pub term : Bool → ℕ → ℕ → ℕ → ℕ → Fraction
term s x q o k =
    let p = 2 * k + o in
    record { top = signed (unlike (odd k) (s && odd p)) (x ^ p); bottom = q ^ p * factorial p }

-- the sum of n terms, 0 to n - 1
unfoldable pub partial : Bool → ℕ → ℕ → ℕ → ℕ → Fraction
partial s x q o zero = record { top = signed false 0; bottom = 1 }
partial s x q o (suc n) = plus_f (partial s x q o n) (term s x q o n)

-- n terms at a finite double r, which is a whole number over 2 ^ 1074
unfoldable pub cosine_sum : Float → ℕ → Fraction
cosine_sum r n = partial (sign_of r) (units_of r) (2 ^ 1074) 0 n

unfoldable pub sine_sum : Float → ℕ → Fraction
sine_sum r n = partial (sign_of r) (units_of r) (2 ^ 1074) 1 n

-- v is finite, and within 2 ^ -48 of a / b. v is n / 2 ^ 1074, so 2 ^ 48 b n and 2 ^ 48 2 ^ 1074 a are at most 2 ^ 1074 b apart
pub record within (v : Float) (f : Fraction) : Type 0 where
  pub known : T (finite v)
  pub near : Apart (times (2 ^ 48 * f.bottom) (value_of v)) (times (2 ^ 48 * 2 ^ 1074) f.top) (2 ^ 1074 * f.bottom)
