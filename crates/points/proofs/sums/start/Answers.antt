-- `points::sums::start` meets its contract: it gives x back, or what stands for x. Assumes nothing.
use Rattle.std.proofs.Common.{◌≡◌, true, false, T, sym, subst}
use Rattle.std.proofs.lemmas.Bool.{not-true}
use lib.Ieee.{Float, eq, ne}
use Rattle.exact.specs.Doubles.{nought}
use Rattle.points.proofs.Starts.{start-above, start-below, start-at}
use Rattle.points.proofs.sums.start.Goals as goal

-- x is not a zero
other : (x : Float) → ne x nought ≡ true → eq x nought ≡ false
unfolding ne
other x h = not-true (eq x nought) h

pub returns-then-near-x : goal.returns-then-near-x
returns-then-near-x c = start-above c.args.x (subst T (sym c.well_formed.0.1) tt) c.if-x.true c.if-x-2.true (other c.args.x c.if-x-3.true) c.if-near-x.true

pub returns-then-near-x-2 : goal.returns-then-near-x-2
returns-then-near-x-2 c = start-below c.args.x (subst T (sym c.well_formed.0.1) tt) c.if-x.true c.if-x-2.true (other c.args.x c.if-x-3.true) c.if-near-x-2.true

pub returns-else-near-x-2 : goal.returns-else-near-x-2
returns-else-near-x-2 c = start-at c.args.x (subst T (sym c.well_formed.0.1) tt) c.if-x.true c.if-x-2.true (other c.args.x c.if-x-3.true) c.if-near-x.false c.if-near-x-2.false
