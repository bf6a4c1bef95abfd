-- `wide_decimal::limbs::top` meets its contract. Assumes nothing.
use mathlib.Core.Path.{◌≡◌}
use Prim.Native.Nat.{◌-◌, ◌^◌, ◌<◌}
use native.Mathlib.Nat.{sub-zero}
use native.Mathlib.Omega.{arith}
use lib.ListN.{length, get_or}
use Rattle.fma.proofs.Shifting.{or_one}
use Rattle.wide_decimal.proofs.Leading.{leads-none, leads-whole, leads-same, leads-jam, shifted}
use Rattle.wide_decimal.proofs.limbs.top.Goals as goal

pub loop-i-init : goal.loop-i-init
loop-i-init c = leads-none c.args.a.now c.args.front.bits c.args.front.lost c.requires.0

pub loop-i-preserved-then-bits-lt18446744073709551616 : goal.loop-i-preserved-then-bits-lt18446744073709551616
loop-i-preserved-then-bits-lt18446744073709551616 c =
    let l = c.loop-i in
    let a = c.args.a.now in
    let digit : get_or a (l.i - 1) 0 < 2 ^ 32 = omega (arith, c.type_inv.a (l.i - 1)) in
    rw (shifted l.bits (get_or a (l.i - 1) 0) c.if-bits-lt18446744073709551616.true digit)
    (leads-whole a c.args.front.bits c.args.front.lost l.bits l.lost l.i (l.i - 1) (omega arith) l.invariant c.if-bits-lt18446744073709551616.true digit)

pub loop-i-preserved-then-a-i-ne0 : goal.loop-i-preserved-then-a-i-ne0
loop-i-preserved-then-a-i-ne0 c =
    let l = c.loop-i in
    let a = c.args.a.now in
    rw (or_one l.bits)
    (leads-jam a c.args.front.bits c.args.front.lost l.bits l.lost l.i (l.i - 1) (omega arith) l.invariant c.if-bits-lt18446744073709551616.false (omega (arith, c.if-a-i-ne0.true)) (omega (arith, c.type_inv.a (l.i - 1))))

pub loop-i-preserved : goal.loop-i-preserved
loop-i-preserved c =
    let l = c.loop-i in
    leads-same c.args.a.now c.args.front.bits c.args.front.lost l.bits l.lost l.i (l.i - 1) (omega arith) l.invariant c.if-bits-lt18446744073709551616.false c.if-a-i-ne0.false

pub returns : goal.returns
returns c =
    let l = c.loop-i in
    let z : l.i ≡ 0 = omega arith in
    (rw (z, sub-zero (length c.args.a.now)) at l.invariant.top, l.invariant.small, omega (arith, l.invariant.few))
