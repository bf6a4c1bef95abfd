-- `sheet::put::put_block` meets its contract: two puts, one behind the other. Assumes nothing.
use native.Mathlib.Omega.{arith}
use lib.ListN.{length-append}
use Rattle.sheet.specs.Puts.{name_line}
use Rattle.sheet.specs.Sheet.{row_key, factors_text, patterns}
use Rattle.sheet.proofs.Pasting.{then}
use Rattle.sheet.proofs.put.put_block.Goals as goal

pub put_name-at-requires : goal.put_name-at-requires
unfolding row_key
put_name-at-requires c = (
  c.requires.0,
  omega (
    arith,
    c.requires.2,
    length-append (name_line row_key c.args.n) (factors_text (patterns c.args.numbers.now)),
  ),
)

pub put_factors-requires : goal.put_factors-requires
unfolding row_key
put_factors-requires c = (
  c.requires.1,
  omega (
    arith,
    c.requires.2,
    c.put_name-at.ensures.next,
    c.put_name-at.auto.out,
    length-append (name_line row_key c.args.n) (factors_text (patterns c.args.numbers.now)),
  ),
)

pub returns : goal.returns
unfolding row_key
returns c =
    let size = length-append (name_line row_key c.args.n) (factors_text (patterns c.args.numbers.now)) in
    then (omega (arith, c.requires.2)) c.put_name-at.ensures c.put_factors.ensures
