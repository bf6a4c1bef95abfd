-- `wide_decimal::limbs::times` meets its contract. Assumes nothing.
use Prim.Native.Nat.{◌^◌, ◌<◌}
use native.Mathlib.Omega.{arith}
use lib.ListN.{get_or}
use Rattle.wide_decimal.proofs.Steps.{times_none, times-next, times-done, times_below}
use Rattle.wide_decimal.proofs.limbs.times.Goals as goal

pub loop-x-init : goal.loop-x-init
loop-x-init c = times_none c.args.a.now c.args.m c.args.c c.requires.1

pub loop-x-preserved : goal.loop-x-preserved
loop-x-preserved c =
    let l = c.loop-x in
    let digit : get_or l.a l.x-index 0 < 2 ^ 32 = omega arith in
    times-next c.args.a.now c.args.m c.args.c l.a l.carry l.x-index l.invariant c.requires.0 (omega arith) digit

pub returns : goal.returns
returns c =
    let l = c.loop-x in
    (times-done c.args.a.now c.args.m c.args.c l.a l.carry l.x-index l.invariant (omega arith), times_below c.args.a.now c.args.m c.args.c l.a l.carry l.x-index l.invariant (omega arith))
