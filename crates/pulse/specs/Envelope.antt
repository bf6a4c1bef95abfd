-- Document 01, "Lists and merging": "`Envelope`: no shape adds width to plateau and makes width 0; width 0 then drops the shape". Definitions only.
use Rattle.std.specs.Prelude.{Bool, true, false, cond, Float}
use Rattle.std.specs.Float.{binary64}
use Rattle.std.specs.Float.Ieee.{add, eq}
use Rattle.exact.specs.Doubles.{nought}
use Rattle.pulse.specs.declared.envelope.Envelope.{Envelope}
use Rattle.pulse.specs.declared.envelope.Shape.{Shape}
use Rattle.pulse.specs.declared.envelope.Shape.TheVariants.{Plain, Hann, Spline}

-- an envelope's three parts
abbrev pub parts : Shape → Float → Float → Envelope
parts s w p = record { shape = s; width = record { 0 = w }; plateau = record { 0 = p } }

-- whether there is a shape
abbrev pub is_shaped : Shape → Bool
is_shaped Plain = false
is_shaped Hann = true
is_shaped Spline = true

unfoldable pub envelope_of : Shape → Float → Float → Envelope
envelope_of s w p = cond (is_shaped s) (cond (eq w nought) (parts Plain w p) (parts s w p)) (parts Plain nought (add binary64 p w))
