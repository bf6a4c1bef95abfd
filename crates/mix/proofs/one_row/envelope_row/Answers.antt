use native.Mathlib.Omega.{arith}
use Rattle.mix.specs.Plateau.{real}
use Rattle.mix.proofs.Turns.{envelope-turn, envelope-end}
use Rattle.mix.proofs.one_row.envelope_row.Goals as goal

pub loop-k-preserved : goal.loop-k-preserved
loop-k-preserved c =
    let at = c.loop-k in
    let a = c.args in
    rw (c.mul-z.ensures, c.wave.ensures)
    (envelope-turn real a.amp a.drag a.rotation a.points.now _ _ at.i at.k at.left at.z at.here c.point-right.result at.invariant.1 c.point-right.ensures (omega arith) (omega (arith, at.invariant.0.same, at.invariant.2)) at.invariant.0, c.point-right.ensures, at.invariant.2)

pub returns : goal.returns
returns c =
    let at = c.loop-k in
    let a = c.args in
    envelope-end real a.amp a.drag a.rotation a.points.now _ _ at.i at.k at.left at.z (omega arith) (omega (arith, at.invariant.0.same, at.invariant.2)) at.invariant.0
