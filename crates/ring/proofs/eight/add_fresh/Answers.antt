use mathlib.Core.Path.{◌≡◌}
use Prim.Native.Nat.{◌+◌}
use native.Mathlib.Omega.{arith}
use Rattle.ring.proofs.Summing.{summed-crossed, summed_at}
use Rattle.ring.proofs.eight.add_fresh.Goals as goal

pub loop-m-preserved : goal.loop-m-preserved
loop-m-preserved c =
    let at = c.loop-m in
    let a = c.args in
    let on : a.s + at.m + 1 ≡ a.s + (at.m + 1) = omega arith in
    summed_at on (summed-crossed a.taps.now a.ring.now a.s a.fresh.now c.requires.ready c.requires.turn c.requires.eight at.m c.loop-m-test.true at.invariant c.add_crossed.ensures)
