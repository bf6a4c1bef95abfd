-- `fma::pack::nought` meets its contract: a zero of either sign. Assumes nothing.
use Rattle.std.proofs.Common.{refl}
use lib.Ieee.{of_bits, neg, round}
use Rattle.fma.proofs.pack.nought.Goals as goal

pub returns-then-negative : goal.returns-then-negative
unfolding neg of_bits round
returns-then-negative c = rw c.if-negative.true refl

pub returns : goal.returns
unfolding of_bits round
returns c = rw c.if-negative.false refl
