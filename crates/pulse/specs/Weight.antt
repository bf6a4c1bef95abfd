-- Document 01, "Lists and merging": "An amplitude equal to 0 or at most the amplitude tolerance in size stores nothing. amp =
-- amplitude*(cos, sin); drag = amp*i*coefficient". Each number worked out is judged. Definitions only.
use Rattle.quant.specs.Refusal.{Answer, refuse}
use Rattle.std.specs.Prelude.{Bool, ◌&&◌, ◌||◌, cond, Float, Option, Some, None, Ok}
use Rattle.std.specs.Float.Ieee.{eq, le, neg}
use Rattle.std.specs.Float.Ieee.Scale.{finite}
use Rattle.exact.specs.Doubles.{nought}
use Rattle.quant.specs.declared.complex.Complex.{Complex}
use Rattle.quant.specs.declared.refusal.Refusal.TheVariants as refusal
use Rattle.quant.specs.Complex.{scaled_c, turned_c}
use Rattle.quant.specs.Phaser.{phased_of}
use Rattle.pulse.specs.declared.weight.Weight.{Weight}

-- equal to 0, or at most the tolerance in size
abbrev pub negligible : Float → Float → Bool
negligible a tolerance = eq a nought || (le (neg tolerance) a && le a tolerance)

abbrev pub finite_c : Complex → Bool
finite_c z = finite z.re && finite z.im

-- amp and drag from amplitude, (cos, sin) and coefficient
abbrev pub weight_of : Float → Complex → Float → Weight
weight_of a u k = record { amp = scaled_c u a; drag = scaled_c (turned_c (scaled_c u a)) k }

unfoldable pub weighed : Float → Option Complex → Float → Option Weight
weighed a None k = None
weighed a (Some u) k =
    cond (finite_c (scaled_c u a) && finite_c (scaled_c (turned_c (scaled_c u a)) k)) (Some (weight_of a u k)) None

abbrev pub weighed_of : Float → Float → Float → Option Weight
weighed_of a phase k = weighed a (phased_of phase) k

-- what the cases answer
abbrev pub weighed_answer : Option Weight → Answer
weighed_answer (Some w) = Ok 0
weighed_answer None = refuse refusal.NotFinite 0
