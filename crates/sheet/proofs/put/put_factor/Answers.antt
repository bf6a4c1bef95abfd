-- `sheet::put::put_factor` meets its contract: three puts, one behind the other. Assumes nothing.
use native.Mathlib.Omega.{arith}
use Rattle.exact.proofs.Truth.{number_if_finite}
use Rattle.sheet.specs.Sheet.{factor_key}
use Rattle.sheet.proofs.Pasting.{then}
use Rattle.sheet.proofs.Printing.{word-put}
use Rattle.sheet.proofs.put.put_factor.Goals as goal

pub float_to_bits-x : goal.float_to_bits-x
float_to_bits-x c =
    number_if_finite c.args.x c.requires.0

pub returns : goal.returns
unfolding factor_key
returns c =
    let worded = word-put (omega (arith, c.requires.1, c.put-at.ensures.next, c.put-at.auto.out)) c.write.ensures in
    then (omega (arith, c.requires.1)) (then (omega (arith, c.requires.1)) c.put-at.ensures worded) c.put_byte.ensures
