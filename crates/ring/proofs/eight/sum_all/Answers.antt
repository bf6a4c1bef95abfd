use mathlib.Core.Path.{◌≡◌, sym}
use mathlib.Core.Logic.{inl, inr}
use Prim.Native.Nat.{◌+◌, ◌-◌}
use native.Mathlib.Omega.{arith}
use lib.ListN.{length}
use Rattle.ring.proofs.Tap.{delay-back, delay-round}
use Rattle.ring.proofs.Summing.{summed-none, summed-slot, summed_at}
use Rattle.ring.proofs.eight.sum_all.Goals as goal

pub loop-j-init : goal.loop-j-init
loop-j-init c =
    let a = c.args in
    summed-none a.taps.now a.ring.now a.s a.fresh.now c.requires.ready c.requires.turn c.requires.eight c.requires.none

pub loop-j-preserved : goal.loop-j-preserved
loop-j-preserved c =
    let a = c.args in
    let j = c.loop-j.j in
    let n = length a.taps.now in
    summed-slot a.taps.now a.ring.now a.s a.fresh.now c.requires.ready c.requires.turn c.requires.eight j (a.s - j) (sym (delay-back n a.s j (omega arith) (omega arith))) (omega arith) (inl (omega arith)) (λ e. omega arith) c.loop-j.invariant c.add_slot.ensures

pub add_slot-requires-in-loop-j-2-clause-room : goal.add_slot-requires-in-loop-j-2-clause-room
add_slot-requires-in-loop-j-2-clause-room c = c.loop-j-2.invariant.room

pub loop-j-2-preserved : goal.loop-j-2-preserved
loop-j-2-preserved c =
    let a = c.args in
    let j = c.loop-j-2.j in
    let n = length a.taps.now in
    summed-slot a.taps.now a.ring.now a.s a.fresh.now c.requires.ready c.requires.turn c.requires.eight j (n + a.s - j) (sym (delay-round n a.s j (omega arith) (omega arith))) (omega arith) (inr (omega arith)) (λ e. omega arith) c.loop-j-2.invariant c.add_slot-in-loop-j-2.ensures

pub returns : goal.returns
returns c =
    let end : c.loop-j-2.j ≡ length c.args.taps.now = omega arith in
    summed_at end c.loop-j-2.invariant
