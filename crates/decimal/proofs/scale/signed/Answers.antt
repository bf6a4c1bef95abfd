-- `decimal::scale::signed` meets its contract. A whole number below 10 ^ 15 is a double, and its opposite too. Assumes nothing.
use mathlib.Core.Bool.{false}
use lib.Ieee.{binary64, of_int, round}
use Rattle.exact.proofs.Value.{neg_value}
use Rattle.decimal.proofs.Powers.{whole-exact}
use Rattle.decimal.proofs.scale.signed.Goals as goal

pub returns-then-minus : goal.returns-then-minus
unfolding of_int
returns-then-minus c =
    let args = c.args in
    rw c.if-minus.true (neg_value (round binary64 false args.n 1) false args.n 1 (whole-exact false args.n c.requires))

pub returns-else-minus : goal.returns-else-minus
unfolding of_int
returns-else-minus c =
    let args = c.args in
    rw c.if-minus.false (whole-exact false args.n c.requires)
