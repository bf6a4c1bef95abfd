-- `ring::few::two` meets its contract. Assumes nothing.
use Rattle.ring.proofs.Moving.{move-two}
use Rattle.ring.proofs.few.two.Goals as goal

pub returns : goal.returns
returns c =
    let a = c.args in
    move-two a.taps.now a.ring.now a.row.now a.k a.s c.requires.slot c.sum_two-sums.result.first c.sum_two-sums.result.second c.requires.left c.requires.turn c.sum_two-sums.ensures.first c.sum_two-sums.ensures.second
