-- `wide_decimal::round::infinite` meets its contract: the pattern is that of an infinity, with the sign turned or not. Assumes nothing.
use mathlib.Core.Path.{refl}
use lib.Ieee.{of_bits, neg}
use Rattle.wide_decimal.proofs.round.infinite.Goals as goal

pub returns-then-minus : goal.returns-then-minus
unfolding of_bits neg
returns-then-minus c = rw c.if-minus.true refl

pub returns-else-minus : goal.returns-else-minus
unfolding of_bits
returns-else-minus c = rw c.if-minus.false refl
