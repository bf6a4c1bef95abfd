-- `mix::one_row::envelope_row` meets its contract. The invariant: the samples laid so far and the points that are left, on the rest, make up the row;
-- `here` is the next point. Assumes nothing.
use mathlib.Core.Path.{◌≡◌}
use lib.ListN.{length, drop, get_or}
use Rattle.exact.specs.Doubles.{nought}
use Rattle.mix.specs.Plateau.{real}
use Rattle.mix.specs.Envelope.{shaped, shaped_by}
use Rattle.mix.proofs.Turns.{Laid}
use Rattle.mix.proofs.one_row.envelope_row.Given as goal

abbrev pub invariant-loop-k : goal.invariant-loop-k
invariant-loop-k l = Laid (shaped_by real l.amp l.drag l.rotation l.points l.initial.z l.initial.i) l.initial.i l.i l.k (shaped real l.amp l.drag l.rotation l.left (drop l.k l.points) l.z (drop l.k l.i)) × (l.here ≡ get_or l.points l.k nought) × (length l.initial.i ≡ length l.points)
