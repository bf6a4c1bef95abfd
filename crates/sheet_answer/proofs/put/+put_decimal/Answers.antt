-- A figure alone, or what stands before the last figure and then that figure.
use Rattle.std.proofs.Common.{sym, arith}
use Rattle.sheet.proofs.Pasting.{then}
use Rattle.sheet_answer.proofs.Decimal.{one-digit, decimal-small, decimal-more, more-long}
use Rattle.sheet_answer.proofs.put.+put_decimal.Goals as goal

pub put_byte-requires : goal.put_byte-requires
put_byte-requires t c = omega (arith, c.requires, one-digit c.args.n c.if-n-lt10.true)

pub returns-then-n-lt10 : goal.returns-then-n-lt10
returns-then-n-lt10 t c = rw (decimal-small c.args.n c.if-n-lt10.true, sym c.digit.ensures) c.put_byte.ensures

pub put_decimal-next-requires : goal.put_decimal-next-requires
put_decimal-next-requires t c =
    (omega (arith, c.decreases), omega (arith, c.requires, more-long c.args.n c.if-n-lt10.false))

pub put_byte-requires-2 : goal.put_byte-requires-2
put_byte-requires-2 t c =
    omega (
      arith,
      c.requires,
      more-long c.args.n c.if-n-lt10.false,
      c.put_decimal-next.ensures.next,
      c.put_decimal-next.auto.out,
    )

pub returns : goal.returns
returns t c =
    rw (decimal-more c.args.n c.if-n-lt10.false, sym c.digit-2.ensures)
    (then (omega (arith, c.requires)) c.put_decimal-next.ensures c.put_byte-2.ensures)
