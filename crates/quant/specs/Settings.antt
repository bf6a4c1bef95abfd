-- Document 01, refusal 1: "sample rate, 1/rate, delay, tolerance or align level unfit: not finite, rate not above 0, tolerance below 0, level outside its range". Definitions only.
use Rattle.quant.specs.Refusal.{Answer, refuse}
use Rattle.std.specs.Prelude.{Bool, true, false, ◌&&◌, ℤ, pos, negsuc, Float, Option, Some, None, Ok}
use Rattle.quant.specs.declared.settings.Settings.{Settings}
use Rattle.std.specs.Int.Signed.{le_z}
use Rattle.std.specs.Float.{binary64}
use Rattle.std.specs.Float.Ieee.{div, lt, le}
use Rattle.std.specs.Float.Ieee.Scale.{finite}
use Rattle.exact.specs.Doubles.{nought, one}
use Rattle.quant.specs.declared.quantity.Frequency.{Frequency}
use Rattle.quant.specs.declared.quantity.Time.{Time}
use Rattle.quant.specs.declared.refusal.Refusal.TheVariants as refusal

-- finite and above 0; finite and not below 0, so that -0 is a tolerance; from -20 to 20
abbrev pub is_rate : Float → Bool
is_rate x = finite x && lt nought x

abbrev pub is_tolerance : Float → Bool
is_tolerance x = finite x && le nought x

abbrev pub is_level : ℤ → Bool
is_level l = le_z (negsuc 19) l && le_z l (pos 20)

abbrev pub fitting : Bool → Frequency → Time → ℤ → Option Settings
fitting true rate delay level = Some (record { rate = rate; dt = record { 0 = div binary64 one rate.0 }; delay = delay; level = level })
fitting false rate delay level = None

abbrev pub fitting_of : Frequency → Time → ℤ → Option Settings
fitting_of rate delay level =
    fitting (is_rate rate.0 && finite (div binary64 one rate.0) && finite delay.0 && is_level level) rate delay level

-- what the cases answer
abbrev pub fitting_answer : Option Settings → Answer
fitting_answer (Some s) = Ok 0
fitting_answer None = refuse refusal.Unfit 0
