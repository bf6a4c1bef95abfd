use Rattle.std.proofs.Common.{map, length, refl, ap, ◌∙◌, subst, arith}
use Rattle.rows.proofs.Turns.{upto}
use Rattle.rows.proofs.Valued.{valued-turn, valued-all}
use Rattle.shape.specs.Hann.{hann_of, hann_wrapped}
use Rattle.shape.specs.Segment.{EndsNear}
use Rattle.shape.proofs.Near.{near-valued}
use Rattle.shape.proofs.segment.sample_hann.Goals as goal

pub loop-y-init : goal.loop-y-init
unfolding upto
loop-y-init c = record { within = omega arith; same = refl; done = refl }

pub loop-y-preserved : goal.loop-y-preserved
loop-y-preserved c = valued-turn _ _ _ _ (omega arith) c.loop-y.invariant _ c.hann_wrapped.ensures

pub loop-y-else-ends_near-init : goal.loop-y-else-ends_near-init
unfolding upto
loop-y-else-ends_near-init c = record { within = omega arith; same = refl; done = refl }

pub loop-y-else-ends_near-preserved : goal.loop-y-else-ends_near-preserved
loop-y-else-ends_near-preserved c = valued-turn _ _ _ _ (omega arith) c.loop-y-else-ends_near.invariant _ c.hann.ensures

pub returns-after-loop-y : goal.returns-after-loop-y
returns-after-loop-y c =
    let a = c.args in
    valued-all _ _ _ _ (omega arith) c.loop-y.invariant
    ∙ ap (map hann_wrapped) c.lay.ensures
    ∙ near-valued (length a.part.now) a.x a.dx (subst EndsNear c.lay.ensures (c.ends_near.ensures c.if-ends_near.true))

pub returns-after-loop-y-else-ends_near : goal.returns-after-loop-y-else-ends_near
returns-after-loop-y-else-ends_near c = valued-all _ _ _ _ (omega arith) c.loop-y-else-ends_near.invariant ∙ ap (map hann_of) c.lay.ensures
