-- `wide_decimal::limbs::cut` meets its contract. Assumes nothing.
use Prim.Native.Nat.{◌+◌, ◌*◌}
use native.Mathlib.Omega.{arith}
use lib.ListN.{length, get_or}
use Rattle.fma.proofs.Shifting.{or_one}
use Rattle.wide_decimal.specs.Limbs.{value, weight}
use Rattle.wide_decimal.proofs.Digits.{odd-first}
use Rattle.wide_decimal.proofs.Nears.{near-cut}
use Rattle.wide_decimal.proofs.limbs.cut.Goals as goal

pub returns-then-over-ne0 : goal.returns-then-over-ne0
returns-then-over-ne0 c =
    let a = c.over.new.a in
    rw (or_one (get_or a 0 0), odd-first a (omega (arith, c.requires.2)))
    (near-cut (value a) c.over.result (c.args.c * weight (length c.args.a.now) + value c.args.a.now) c.args.m c.over.ensures.0 (omega (arith, c.if-over-ne0.true)) c.over.ensures.1)
