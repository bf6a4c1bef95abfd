-- `decimal::print::pattern` meets its contract. A NaN differs from itself; of any other double the bits may be taken. Assumes nothing.
use mathlib.Core.Path.{sym, subst}
use lib.Dec.{T}
use lib.Ieee.{to_bits}
use lib.Ieee.Compare.{differs_from_itself}
use Rattle.exact.proofs.Truth.{number_if_same}
use Rattle.decimal.proofs.print.pattern.Goals as goal

pub returns-then-x : goal.returns-then-x
unfolding to_bits
returns-then-x c = rw (differs_from_itself c.args.x (subst T (sym c.if-x.true) tt))

pub float_to_bits-result : goal.float_to_bits-result
float_to_bits-result c = number_if_same _ c.if-x.false
