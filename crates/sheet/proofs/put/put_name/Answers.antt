-- `sheet::put::put_name` meets its contract: three puts, one behind the other. Assumes nothing.
use native.Mathlib.Omega.{arith}
use Rattle.sheet.proofs.Pasting.{then}
use Rattle.sheet.proofs.Printing.{name-long, name-put, name-line-long}
use Rattle.sheet.proofs.put.put_name.Goals as goal

pub overflow_add-at : goal.overflow_add-at
overflow_add-at c =
    omega (
      arith,
      c.requires.1,
      name-line-long c.args.key.now c.args.n,
      name-long c.args.n c.requires.0,
      c.put-at.ensures.next,
    )

pub put_byte-requires : goal.put_byte-requires
put_byte-requires c =
    omega (
      arith,
      c.requires.1,
      name-line-long c.args.key.now c.args.n,
      name-long c.args.n c.requires.0,
      c.put-at.ensures.next,
      c.put-at.auto.out,
      c.write.auto.out,
    )

pub returns : goal.returns
returns c =
    let p = c.args in
    let room = name-line-long p.key.now p.n in
    let size = name-long p.n c.requires.0 in
    let named = name-put c.requires.0 (omega (arith, c.put-at.ensures.next, c.put-at.auto.out)) c.write.ensures in
    then (omega arith) (then (omega arith) c.put-at.ensures named) c.put_byte.ensures
