use Rattle.std.proofs.Common.{sym}
use Rattle.shape.proofs.Filling.{filled, all_laid}
use Rattle.shape.proofs.envelope.fill.Goals as goal

pub returns-clause-scratch_after : goal.returns-clause-scratch_after
returns-clause-scratch_after c =
    let a = c.args in
    let old = a.scratch.now in
    (filled a.shape a.numbers.now a.p old (sym c.if-not-fine_points.ensures) _
    (all_laid a.shape a.numbers.now a.p old c.requires.0 _ _ _ c.sample.ensures (c.fill.ensures.after (λ y h. h)) c.sample-2.ensures)).1
