-- Complex numbers as pairs of doubles: "complex products are two products and one sum each". Definitions only.
use Rattle.std.specs.Prelude.{Float}
use Rattle.std.specs.Float.{binary64}
use Rattle.std.specs.Float.Ieee.{add, sub, mul}
use Rattle.exact.specs.Doubles.{nought, one}
use Rattle.quant.specs.declared.complex.Complex.{Complex}

-- the product, its left factor first
abbrev pub times_c : Complex → Complex → Complex
times_c x y =
    record {
      re = sub binary64 (mul binary64 x.re y.re) (mul binary64 x.im y.im);
      im = add binary64 (mul binary64 x.re y.im) (mul binary64 x.im y.re);
    }

abbrev pub plus_c : Complex → Complex → Complex
plus_c x y = record { re = add binary64 x.re y.re; im = add binary64 x.im y.im }

-- times a real number
abbrev pub scaled_c : Complex → Float → Complex
scaled_c x k = record { re = mul binary64 x.re k; im = mul binary64 x.im k }

-- times i, which is (0.0, 1.0)
abbrev pub turned_c : Complex → Complex
turned_c x = times_c x (record { re = nought; im = one })
