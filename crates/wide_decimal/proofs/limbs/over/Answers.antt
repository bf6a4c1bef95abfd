-- `wide_decimal::limbs::over` meets its contract. Assumes nothing.
use mathlib.Core.Path.{◌≡◌}
use Prim.Native.Nat.{◌-◌}
use native.Mathlib.Omega.{arith}
use Rattle.wide_decimal.proofs.Steps.{over_none, over-next, over_done}
use Rattle.wide_decimal.proofs.limbs.over.Goals as goal

pub loop-i-init : goal.loop-i-init
loop-i-init c = over_none c.args.a.now c.args.m c.args.c c.requires.0

pub loop-i-preserved : goal.loop-i-preserved
loop-i-preserved c = let l = c.loop-i in over-next c.args.a.now c.args.m c.args.c l.a l.rest l.i (l.i - 1) (omega arith) l.invariant

pub returns : goal.returns
returns c =
    let l = c.loop-i in
    let z : l.i ≡ 0 = omega arith in
    (over_done c.args.a.now c.args.m c.args.c l.a l.rest (rw z at l.invariant), l.invariant.small)
