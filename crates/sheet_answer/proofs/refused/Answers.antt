-- `sheet_answer::refused` meets its contract: five puts, one behind the other, of at most 55 bytes. Assumes nothing.
use mathlib.Core.Path.{sym}
use native.Mathlib.Omega.{arith}
use Rattle.sheet.proofs.Pasting.{then}
use Rattle.sheet_answer.specs.Answer.{refused_text, refused_key, line_key}
use Rattle.sheet_answer.proofs.Decimal.{at-most_twenty}
use Rattle.sheet_answer.proofs.refused.Goals as goal

pub put_decimal-feed-requires : goal.put_decimal-feed-requires
put_decimal-feed-requires c =
    omega (
      arith,
      c.requires,
      c.put-first.ensures.next,
      c.put-first.auto.out,
      at-most_twenty c.number.result c.number.type_inv,
    )

pub put-second-requires : goal.put-second-requires
put-second-requires c =
    omega (
      arith,
      c.requires,
      c.put-first.ensures.next,
      c.put-first.auto.out,
      c.put_decimal-feed.ensures.next,
      c.put_decimal-feed.auto.out,
      at-most_twenty c.number.result c.number.type_inv,
    )

pub put_decimal-last-requires : goal.put_decimal-last-requires
put_decimal-last-requires c =
    omega (
      arith,
      c.requires,
      c.put-first.ensures.next,
      c.put-first.auto.out,
      c.put_decimal-feed.ensures.next,
      c.put_decimal-feed.auto.out,
      c.put-second.ensures.next,
      c.put-second.auto.out,
      at-most_twenty c.number.result c.number.type_inv,
      at-most_twenty c.args.line c.ranges.line.fits,
    )

pub put_byte-requires : goal.put_byte-requires
put_byte-requires c =
    omega (
      arith,
      c.requires,
      c.put-first.ensures.next,
      c.put-first.auto.out,
      c.put_decimal-feed.ensures.next,
      c.put_decimal-feed.auto.out,
      c.put-second.ensures.next,
      c.put-second.auto.out,
      c.put_decimal-last.ensures.next,
      c.put_decimal-last.auto.out,
      at-most_twenty c.number.result c.number.type_inv,
      at-most_twenty c.args.line c.ranges.line.fits,
    )

pub returns : goal.returns
unfolding refused_text refused_key line_key
returns c =
    let two = then (omega arith) c.put-first.ensures c.put_decimal-feed.ensures in
    let four = then (omega arith) (then (omega arith) two c.put-second.ensures) c.put_decimal-last.ensures in
    rw (sym c.number.ensures) (then (omega arith) four c.put_byte.ensures)
