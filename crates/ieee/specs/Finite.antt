-- isFinite of IEEE 754-2019, 5.7.2: "isFinite(x) is true if and only if x is zero, subnormal or normal (not infinite or NaN)."
use Rattle.std.specs.Prelude.{Bool, Float}
use Rattle.std.specs.Float.Ieee.Scale.{finite}

abbrev pub is_finite : Float → Bool
is_finite x = finite x
