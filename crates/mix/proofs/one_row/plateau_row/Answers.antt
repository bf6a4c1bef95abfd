use native.Mathlib.Omega.{arith}
use Rattle.mix.specs.Plateau.{real}
use Rattle.mix.proofs.Turns.{plateau-turn, plateau-end}
use Rattle.mix.proofs.one_row.plateau_row.Goals as goal

pub loop-x-preserved : goal.loop-x-preserved
loop-x-preserved c =
    let at = c.loop-x in
    rw c.mul-z.ensures (plateau-turn real _ _ at.x-items at.x-index at.z c.args.rotation (omega arith) at.invariant)

pub returns : goal.returns
returns c =
    let at = c.loop-x in
    plateau-end real _ _ at.x-items at.x-index at.z c.args.rotation (omega arith) at.invariant
