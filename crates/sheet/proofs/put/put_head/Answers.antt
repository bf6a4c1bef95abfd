-- `sheet::put::put_head` meets its contract: three puts, one behind the other. Assumes nothing.
use native.Mathlib.Omega.{arith}
use Rattle.sheet.specs.Sheet.{count_text, channels_key}
use Rattle.sheet.proofs.Pasting.{then}
use Rattle.sheet.proofs.put.put_head.Goals as goal

pub returns : goal.returns
unfolding count_text channels_key
returns c =
    then (omega arith) (then (omega arith) c.put-digit.ensures c.put_byte-feed.ensures) c.put_byte.ensures
