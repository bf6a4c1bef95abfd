use native.Mathlib.Omega.{arith}
use Rattle.mix.specs.Plateau.{real, imaginary}
use Rattle.mix.proofs.Turns.{plateau-turn, plateau-end}
use Rattle.mix.proofs.plateau.plateau_rows.Goals as goal

pub loop-k-preserved : goal.loop-k-preserved
loop-k-preserved c =
    let at = c.loop-k in
    let d = c.args.rotation in
    rw c.mul-z.ensures
    (plateau-turn real _ _ at.i at.k at.z d (omega arith) at.invariant.0, plateau-turn imaginary _ _ at.q at.k at.z d (omega (arith, at.invariant.0.same, at.invariant.1.same, at.invariant.2)) at.invariant.1, at.invariant.2)

pub returns-clause-i_after : goal.returns-clause-i_after
returns-clause-i_after c =
    let at = c.loop-k in
    plateau-end real _ _ at.i at.k at.z c.args.rotation (omega arith) at.invariant.0

pub returns-clause-q_after : goal.returns-clause-q_after
returns-clause-q_after c =
    let at = c.loop-k in
    plateau-end imaginary _ _ at.q at.k at.z c.args.rotation (omega (arith, at.invariant.0.same, at.invariant.1.same, at.invariant.2)) at.invariant.1
