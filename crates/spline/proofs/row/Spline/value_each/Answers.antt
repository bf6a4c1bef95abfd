use Rattle.std.proofs.Common.{refl, arith}
use Rattle.rows.proofs.Turns.{upto}
use Rattle.rows.proofs.Valued.{valued-turn, valued-all}
use Rattle.spline.proofs.row.Spline.value_each.Goals as goal

pub loop-x-init : goal.loop-x-init
unfolding upto
loop-x-init c = record { within = omega arith; same = refl; done = refl }

pub loop-x-preserved : goal.loop-x-preserved
loop-x-preserved c = valued-turn _ _ _ _ (omega arith) c.loop-x.invariant _ c.value.ensures

pub returns : goal.returns
returns c = valued-all _ _ _ _ (omega arith) c.loop-x.invariant
