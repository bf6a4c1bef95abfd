-- Document 01: cosine and sine, "taken for a phase at x = round(phase*TAU)". Definitions only.
use Rattle.quant.specs.Refusal.{Answer, refuse}
use Rattle.std.specs.Prelude.{Bool, true, false, Float, Option, Some, None, Ok}
use Rattle.std.specs.Float.{binary64}
use Rattle.std.specs.Float.Ieee.{mul}
use Rattle.std.specs.Float.Ieee.Scale.{finite}
use Rattle.trig.specs.Reduce.{TAU}
use Rattle.trig.specs.Trig.{cosine_of, sine_of}
use Rattle.quant.specs.declared.complex.Complex.{Complex}
use Rattle.quant.specs.declared.refusal.Refusal.TheVariants as refusal

abbrev pub radians_of : Float → Float
radians_of p = mul binary64 p TAU

-- (cos x, sin x)
abbrev pub pair_at : Float → Complex
pair_at x = record { re = cosine_of x; im = sine_of x }

abbrev pub phased : Bool → Float → Option Complex
phased true x = Some (pair_at x)
phased false x = None

abbrev pub phased_of : Float → Option Complex
phased_of p = phased (finite (radians_of p)) (radians_of p)

-- what the cases answer
abbrev pub phased_answer : Option Complex → Answer
phased_answer (Some z) = Ok 0
phased_answer None = refuse refusal.NotFinite 0
