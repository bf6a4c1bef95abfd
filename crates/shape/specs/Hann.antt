-- Document 01, "Placing and sampling": "Value: (1 + cos(TAU*x))/2", with our cosine. Each operation rounds once. Definitions only.
use Rattle.std.specs.Prelude.{Float}
use Rattle.std.specs.Float.{binary64}
use Rattle.std.specs.Float.Ieee.{add, mul, div}
use Rattle.exact.specs.Doubles.{one, two}
use Rattle.trig.specs.Reduce.{TAU, wrapped}
use Rattle.trig.specs.Trig.{cosine_at, cosine_of}

unfoldable pub hann_of : Float → Float
hann_of x = div binary64 (add binary64 one (cosine_of (mul binary64 TAU x))) two

-- with one TAU at most off the angle or on; up to 7/8 in size that is the value
unfoldable pub hann_wrapped : Float → Float
hann_wrapped x = div binary64 (add binary64 one (cosine_at (wrapped (mul binary64 TAU x)))) two
