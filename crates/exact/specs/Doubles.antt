-- Doubles that the documents write as decimals, by their bits; and zeros, by their signs. Definitions only.
use Rattle.std.specs.Prelude.{Bool, false, ◌&&◌, zero, suc, pos, Float}
use Rattle.std.specs.Float.{nan, inf, fin, binary64}
use Rattle.std.specs.Float.Ieee.{of_bits}

-- 0.0
abbrev pub nought : Float
nought = of_bits binary64 0

-- -0.0
abbrev pub minus_nought : Float
minus_nought = of_bits binary64 0x8000_0000_0000_0000

-- 1.0
abbrev pub one : Float
one = of_bits binary64 0x3ff0_0000_0000_0000

-- 2.0
abbrev pub two : Float
two = of_bits binary64 0x4000_0000_0000_0000

-- the zero with a sign (true: -0)
abbrev pub zero_of : Bool → Float
zero_of s = fin s 0 (pos 0)

-- the zero with the sign s, plus x: x itself; and where x is a zero too, -0 if both are, else +0
abbrev pub beside_zero : Bool → Float → Float
beside_zero s nan = nan
beside_zero s (inf t) = inf t
beside_zero s (fin t zero d) = zero_of (s && t)
beside_zero s (fin t (suc n) d) = fin t (suc n) d

-- x, but +0 for either zero
abbrev pub plain_zero : Float → Float
plain_zero = beside_zero false
