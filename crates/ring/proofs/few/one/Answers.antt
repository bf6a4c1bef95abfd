-- `ring::few::one` meets its contract. Assumes nothing.
use Rattle.ring.proofs.Moving.{move-one}
use Rattle.ring.proofs.few.one.Goals as goal

pub returns : goal.returns
returns c =
    let a = c.args in
    move-one a.taps.now a.ring.now a.row.now a.k a.s c.requires.slot c.sum_one-sum.result c.requires.left c.requires.turn c.sum_one-sum.ensures
