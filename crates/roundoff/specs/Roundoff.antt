-- What a rounded sum and a rounded product are off by, as doubles that a program computes. Definitions only.
use Rattle.std.specs.Prelude.{Float}
use Rattle.std.specs.Float.{binary64}
use Rattle.std.specs.Float.Ieee.{of_bits, add, sub, mul}
use Rattle.roundoff.specs.declared.Enclosure.{Enclosure}

-- Knuth's two-sum: a + b, rounded, less a + b
abbrev pub sum_off : Float → Float → Float
sum_off a b =
    let s = add binary64 a b in
    let v = sub binary64 s a in
    add binary64 (sub binary64 (sub binary64 s v) a) (sub binary64 v b)

-- a x, rounded, less a x, where a is h + l and x is g + m
abbrev pub product_off : Float → Float → Float → Float → Float → Float → Float
product_off a h l x g m =
    sub binary64 (sub binary64 (sub binary64 (sub binary64 (mul binary64 a x) (mul binary64 h g)) (mul binary64 h m)) (mul binary64 l g)) (mul binary64 l m)

-- 1 + 2 ^ -50 and 1 - 2 ^ -50: t + e, exactly, lies between the rounded sum times the one and times the other
abbrev pub ABOVE : Float
ABOVE = of_bits binary64 0x3ff0_0000_0000_0004

abbrev pub BELOW : Float
BELOW = of_bits binary64 0x3fef_ffff_ffff_fff8

-- so s - (t + e), exactly, lies between these two, of which the first is the farther from s; both are rounded
abbrev pub far_end : Float → Float → Float → Float
far_end s t e = sub binary64 s (mul binary64 (add binary64 t e) ABOVE)

abbrev pub near_end : Float → Float → Float → Float
near_end s t e = sub binary64 s (mul binary64 (add binary64 t e) BELOW)

-- the first, and by how much it is more than the second
abbrev pub enclosure_of : Float → Float → Float → Enclosure
enclosure_of s t e = record { far = far_end s t e; off = sub binary64 (far_end s t e) (near_end s t e) }
