-- Tried on small numbers, each answer worked out: no fixed answer is right, the error of a sum has a sign, and a tie is not settled. Assumes nothing.
use mathlib.Core.Path.{◌≡◌, refl}
use mathlib.Core.Bool.{false}
use lib.Ieee.{Float, binary64, of_bits, eq, neg, add, sub, mul, sum, round}
use Rattle.exact.specs.Doubles.{nought, one}
use Rattle.roundoff.specs.Roundoff.{sum_off, product_off, enclosure_of}

-- 2 ^ -53, 2 ^ -52, 2 ^ -104 and 1 + 2 ^ -52
abbrev half : Float
half = of_bits binary64 0x3ca0_0000_0000_0000

abbrev last : Float
last = of_bits binary64 0x3cb0_0000_0000_0000

abbrev least : Float
least = of_bits binary64 0x3970_0000_0000_0000

abbrev over : Float
over = of_bits binary64 0x3ff0_0000_0000_0001

-- 1 + 2 ^ -53 is rounded to 1, so 2 ^ -53 is lost; 1 - 2 ^ -53 is a double
pub lost : sum_off one half ≡ neg half
unfolding of_bits neg add sub sum round
lost = refl

pub nothing-lost : sum_off one (neg half) ≡ nought
unfolding of_bits neg add sub sum round
nothing-lost = refl

-- the square of 1 + 2 ^ -52 is rounded to 1 + 2 ^ -51, and 2 ^ -104 is lost
pub product-lost : product_off over one last over one last ≡ neg least
unfolding of_bits neg add sub mul sum round
product-lost = refl

-- 1 + 2 ^ -53 is a tie; 1 - 2 ^ -106 can only be rounded to 1, and 1 + 2 ^ -52 - 2 ^ -106 to 1 + 2 ^ -52
pub tie_unsettled : eq (enclosure_of one (neg half) nought).off nought ≡ false
unfolding of_bits neg add sub mul sum round eq
tie_unsettled = refl

pub one-settled : enclosure_of one (mul binary64 half half) nought ≡ record { far = one; off = nought }
unfolding of_bits add sub mul sum round
one-settled = refl

pub other-settled : enclosure_of over (mul binary64 half half) nought ≡ record { far = over; off = nought }
unfolding of_bits add sub mul sum round
other-settled = refl
