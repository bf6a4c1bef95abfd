-- `sheet::put::put_sheet` meets its contract: three puts, one behind the other. Assumes nothing.
use native.Mathlib.Omega.{arith}
use Rattle.sheet.specs.Sheet.{count_text, channels_key}
use Rattle.sheet.proofs.Pasting.{then}
use Rattle.sheet.proofs.Printing.{text-is, text-parts}
use Rattle.sheet.proofs.put.put_sheet.Goals as goal

pub put_head-head-requires : goal.put_head-head-requires
put_head-head-requires c =
    let p = c.args in
    let size = text-parts p.count p.names p.matrix.now (omega (arith, c.requires.0.most)) in
    (c.requires.0.most, omega (arith, c.requires.1))

pub put_columns-columns-requires : goal.put_columns-columns-requires
unfolding count_text channels_key
put_columns-columns-requires c =
    let p = c.args in
    let size = text-parts p.count p.names p.matrix.now (omega (arith, c.requires.0.most)) in
    (c.requires.0.most, c.requires.0.good, omega (arith, c.requires.1, c.put_head-head.ensures.next, c.put_head-head.auto.out))

pub put_blocks-requires : goal.put_blocks-requires
unfolding count_text channels_key
put_blocks-requires c =
    let p = c.args in
    let size = text-parts p.count p.names p.matrix.now (omega (arith, c.requires.0.most)) in (
      c.requires.0,
      omega (
        arith,
        c.requires.1,
        c.put_head-head.ensures.next,
        c.put_head-head.auto.out,
        c.put_columns-columns.ensures.next,
        c.put_columns-columns.auto.out,
      ),
    )

pub returns : goal.returns
returns c =
    let p = c.args in
    rw (text-is p.count p.names p.matrix.now (omega (arith, c.requires.0.most)))
    (then (omega arith) (then (omega arith) c.put_head-head.ensures c.put_columns-columns.ensures) c.put_blocks.ensures)
