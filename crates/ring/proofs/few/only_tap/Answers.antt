use borrow.Author.Rules.{rules}
use mathlib.Core.Path.{refl}
use native.Mathlib.Omega.{arith}
use Rattle.rows.proofs.Turns.{upto}
use Rattle.rows.proofs.Valued.{valued-turn, valued-all}
use Rattle.ring.specs.Inside.{by_tap}
use Rattle.ring.proofs.few.only_tap.Goals as goal

pub loop-x-init : goal.loop-x-init
unfolding upto
loop-x-init c = record { within = search rules; same = refl; done = refl }

pub loop-x-preserved : goal.loop-x-preserved
loop-x-preserved c =
    let at = c.loop-x in
    valued-turn (by_tap c.args.tap) c.args.row.now at.row at.x-index (omega arith) at.invariant _ refl

pub returns : goal.returns
returns c =
    let at = c.loop-x in
    valued-all (by_tap c.args.tap) c.args.row.now at.row at.x-index (omega arith) at.invariant
