-- What was put are the samples, and then the sums.
use Rattle.ring.proofs.Moving.{put_all, move-eight}
use Rattle.ring.proofs.eight.eight.Goals as goal

pub returns : goal.returns
returns c =
    let a = c.args in
    let left = c.requires.left in
    move-eight a.taps.now a.ring.now a.row.now a.k a.s c.requires.slot _ _ _ _ left c.requires.turn (put_all _ a.row.now a.k left c.put_eight.ensures) c.sum_all.ensures c.put_eight-2.ensures c.put_eight-3.ensures
