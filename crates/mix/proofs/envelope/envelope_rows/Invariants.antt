-- `mix::envelope::envelope_rows` meets its contract. The invariant is that of `envelope_row` for each row, from the second sample on; the carrier's
-- imaginary part is that of the carrier before it, turned. Assumes nothing.
use Prim.Native.Nat.{◌*◌, ◌<◌, ◌^◌}
use mathlib.Core.Path.{◌≡◌}
use mathlib.Core.List.{◌++◌}
use lib.ListN.{length, take, drop, get_or}
use lib.Ieee.{Float}
use Rattle.exact.specs.Doubles.{nought}
use Rattle.quant.specs.declared.complex.Complex.{Complex}
use Rattle.quant.specs.Complex.{times_c}
use Rattle.mix.specs.Plateau.{real, imaginary}
use Rattle.mix.specs.Envelope.{shaped}
use Rattle.mix.proofs.Turns.{Laid}
use Rattle.mix.proofs.envelope.envelope_rows.Given as goal

-- a carrier whose imaginary part is still to be turned
abbrev pub ahead : Float → Complex → Complex → Complex
ahead re last d = record { re = re; im = (times_c last d).im }

abbrev pub invariant-loop-k : goal.invariant-loop-k
invariant-loop-k l =
    Laid (take l.initial.k l.initial.i ++ shaped real l.amp l.drag l.rotation l.initial.left (drop l.initial.k l.points) (ahead l.initial.re l.initial.last l.rotation) (drop l.initial.k l.initial.i)) l.initial.i l.i l.k (shaped real l.amp l.drag l.rotation l.left (drop l.k l.points) (ahead l.re l.last l.rotation) (drop l.k l.i))
    × Laid (take l.initial.k l.initial.q ++ shaped imaginary l.amp l.drag l.rotation l.initial.left (drop l.initial.k l.points) (ahead l.initial.re l.initial.last l.rotation) (drop l.initial.k l.initial.q)) l.initial.q l.q l.k (shaped imaginary l.amp l.drag l.rotation l.left (drop l.k l.points) (ahead l.re l.last l.rotation) (drop l.k l.q))
    × (l.here ≡ get_or l.points l.k nought)
    × (length l.i ≡ length l.points)
    × (length l.q ≡ length l.points)
    × (8 * length l.points < 2 ^ 63)
