use Rattle.std.proofs.Common.{length, arith}
use Rattle.points.proofs.Turns.{turn, all_laid}
use Rattle.points.proofs.lay_each.Goals as goal

pub loop-i-preserved : goal.loop-i-preserved
loop-i-preserved c =
    let at = c.loop-i in
    let a = c.args in
    turn a.part.now at.part _ at.i a.x a.dx c.point.result c.point.ensures (omega arith) at.invariant.1 at.invariant.2

pub returns : goal.returns
returns c =
    let at = c.loop-i in
    let a = c.args in
    all_laid at.part _ at.i (length a.part.now) a.x a.dx (omega arith) (omega (arith, at.invariant.1)) at.invariant.2
