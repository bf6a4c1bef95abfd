-- Cosine and sine of a double: the order of the operations, written down once. Every product and every difference rounds once. Definitions only.
use Rattle.std.specs.Prelude.{◌≡◌, List, [], ◌∷◌, Float}
use Rattle.std.specs.Float.{binary64}
use Rattle.std.specs.Float.Ieee.{of_bits, sub, mul}
use Rattle.exact.specs.Doubles.{one}
use Rattle.trig.specs.Reduce.{reduced}

-- Horner's rule with alternating signs: c - y (d - y (e - ..))
unfoldable pub horner : Float → Float → List Float → Float
horner y c [] = c
horner y c (d ∷ ds) = sub binary64 c (mul binary64 y (horner y d ds))

-- the doubles nearest to 1 / (2 k)!, for k from 1 to 13
abbrev pub evens : List Float
evens =
    of_bits binary64 0x3FE0000000000000  -- 1 / 2!, 0.5
    ∷ of_bits binary64 0x3FA5555555555555  -- 1 / 4!, 0.041666666666666664
    ∷ of_bits binary64 0x3F56C16C16C16C17  -- 1 / 6!, 0.001388888888888889
    ∷ of_bits binary64 0x3EFA01A01A01A01A  -- 1 / 8!, 2.48015873015873e-5
    ∷ of_bits binary64 0x3E927E4FB7789F5C  -- 1 / 10!, 2.755731922398589e-7
    ∷ of_bits binary64 0x3E21EED8EFF8D898  -- 1 / 12!, 2.08767569878681e-9
    ∷ of_bits binary64 0x3DA93974A8C07C9D  -- 1 / 14!, 1.1470745597729725e-11
    ∷ of_bits binary64 0x3D2AE7F3E733B81F  -- 1 / 16!, 4.779477332387385e-14
    ∷ of_bits binary64 0x3CA6827863B97D97  -- 1 / 18!, 1.5619206968586225e-16
    ∷ of_bits binary64 0x3C1E542BA4020225  -- 1 / 20!, 4.110317623312165e-19
    ∷ of_bits binary64 0x3B90CE396DB7F853  -- 1 / 22!, 8.896791392450574e-22
    ∷ of_bits binary64 0x3AFF2CF01972F578  -- 1 / 24!, 1.6117375710961184e-24
    ∷ of_bits binary64 0x3A688E85FC6A4E5A  -- 1 / 26!, 2.4795962632247976e-27
    ∷ []

-- the doubles nearest to 1 / (2 k + 1)!, for k from 1 to 13
abbrev pub odds : List Float
odds =
    of_bits binary64 0x3FC5555555555555  -- 1 / 3!, 0.16666666666666666
    ∷ of_bits binary64 0x3F81111111111111  -- 1 / 5!, 0.008333333333333333
    ∷ of_bits binary64 0x3F2A01A01A01A01A  -- 1 / 7!, 0.0001984126984126984
    ∷ of_bits binary64 0x3EC71DE3A556C734  -- 1 / 9!, 2.7557319223985893e-6
    ∷ of_bits binary64 0x3E5AE64567F544E4  -- 1 / 11!, 2.505210838544172e-8
    ∷ of_bits binary64 0x3DE6124613A86D09  -- 1 / 13!, 1.6059043836821613e-10
    ∷ of_bits binary64 0x3D6AE7F3E733B81F  -- 1 / 15!, 7.647163731819816e-13
    ∷ of_bits binary64 0x3CE952C77030AD4A  -- 1 / 17!, 2.8114572543455206e-15
    ∷ of_bits binary64 0x3C62F49B46814157  -- 1 / 19!, 8.22063524662433e-18
    ∷ of_bits binary64 0x3BD71B8EF6DCF572  -- 1 / 21!, 1.9572941063391263e-20
    ∷ of_bits binary64 0x3B4761B41316381A  -- 1 / 23!, 3.868170170630684e-23
    ∷ of_bits binary64 0x3AB3F3CCDD165FA9  -- 1 / 25!, 6.446950284384474e-26
    ∷ of_bits binary64 0x3A1D1AB1C2DCCEA3  -- 1 / 27!, 9.183689863795546e-29
    ∷ []

-- of a reduced angle r, where y is r r rounded: 1 - y (1/2! - y (1/4! - ..)), and r (1 - y (1/3! - y (1/5! - ..)))
unfoldable pub cosine_at : Float → Float
cosine_at r = horner (mul binary64 r r) one evens

unfoldable pub sine_at : Float → Float
sine_at r = mul binary64 r (horner (mul binary64 r r) one odds)

-- of any double
unfoldable pub cosine_of : Float → Float
cosine_of x = cosine_at (reduced x)

unfoldable pub sine_of : Float → Float
sine_of x = sine_at (reduced x)

-- c is x's cosine and s its sine
pub record Both (x c s : Float) : Type 0 where
  pub cos : c ≡ cosine_of x
  pub sin : s ≡ sine_of x
