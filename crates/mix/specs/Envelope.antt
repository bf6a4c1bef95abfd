-- Document 01, "Placing and sampling": "Slope = (right - left)/2, with 0.0 beyond both ends. Mixing adds carrier*(amp*env + (drag*rate)*slope)";
-- "then carrier *= rotation". Definitions only.
use Rattle.std.specs.Prelude.{List, [], ◌∷◌, get_or, Float}
use Rattle.std.specs.Float.{binary64}
use Rattle.std.specs.Float.Ieee.{add, sub, div}
use Rattle.exact.specs.Doubles.{nought, two}
use Rattle.quant.specs.declared.complex.Complex.{Complex}
use Rattle.quant.specs.Complex.{times_c, plus_c, scaled_c}

abbrev pub slope_of : Float → Float → Float
slope_of left right = div binary64 (sub binary64 right left) two

-- carrier*(amp*env + drag*slope), the product's left factor first; drag is times the rate already
abbrev pub wave_of : Complex → Complex → Complex → Float → Float → Float → Complex
wave_of z amp drag left env right = times_c z (plus_c (scaled_c amp env) (scaled_c drag (slope_of left right)))

-- samples with the wave at each point added; the point before the first of them is `left`
unfoldable pub shaped : (Complex → Float) → Complex → Complex → Complex → Float → List Float → Complex → List Float → List Float
shaped part amp drag d left [] z xs = xs
shaped part amp drag d left (e ∷ es) z [] = []
shaped part amp drag d left (e ∷ es) z (x ∷ xs) =
    add binary64 x (part (wave_of z amp drag left e (get_or es 0 nought))) ∷ shaped part amp drag d e es (times_c z d) xs

-- from the first point on
abbrev pub shaped_by : (Complex → Float) → Complex → Complex → Complex → List Float → Complex → List Float → List Float
shaped_by part amp drag d points z xs = shaped part amp drag d nought points z xs
