-- What is tried by doubles: numbers of a size that leaves room for the product's digits, their upper parts, and the two ends of the fused sum. Definitions only.
use Rattle.std.specs.Prelude.{Bool, not, cond, ◌&&◌, ◌||◌, ℕ, ◌+◌, ◌%◌, ◌^◌, eqb, leb, Float}
use Rattle.std.specs.Int.Bits.{bit_and}
use Rattle.std.specs.Float.{binary64}
use Rattle.std.specs.Float.Ieee.{is_nan, of_bits, to_bits, add, mul}
use Rattle.roundoff.specs.declared.Enclosure.{Enclosure}
use Rattle.roundoff.specs.Roundoff.{sum_off, product_off, enclosure_of}

-- not a NaN; 0, or a size of 2 ^ -485 at least, whose bits are these
abbrev pub roomy_of : Float → Bool
roomy_of x = not (is_nan x) && (eqb (to_bits binary64 x % 2 ^ 63) 0 || leb 0x21a0_0000_0000_0000 (to_bits binary64 x % 2 ^ 63))

-- the last 27 of the bits rounded away; a carry may raise the exponent
unfoldable pub upper_bits : ℕ → ℕ
upper_bits b = bit_and (b + 0x400_0000) 0xffff_ffff_f800_0000

abbrev pub upper_of : Float → Float
upper_of x = cond (is_nan x) x (of_bits binary64 (upper_bits (to_bits binary64 x)))

-- a is h + l, and x is g + m
abbrev pub trial_of : Float → Float → Float → Float → Float → Float → Float → Enclosure
trial_of a h l x g m c = enclosure_of (add binary64 (mul binary64 a x) c) (sum_off (mul binary64 a x) c) (product_off a h l x g m)
