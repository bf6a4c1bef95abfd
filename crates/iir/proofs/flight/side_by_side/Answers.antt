use borrow.Author.Rules.{rules}
use Prim.Native.Nat.{◌+◌, ◌≤◌}
use native.Mathlib.Omega.{arith}
use mathlib.Core.Path.{◌≡◌, refl}
use mathlib.Core.List.{[], append-nil}
use lib.ListN.{length, drop_of_length-le}
use lib.Seq.{take_all}
use Rattle.iir.specs.Flight.{through, onward}
use Rattle.iir.specs.Filter.{given, pipelined}
use Rattle.iir.proofs.Flights.{turned}
use Rattle.iir.proofs.flight.side_by_side.Goals as goal

pub loop-k-init : goal.loop-k-init
unfolding onward
loop-k-init c = (record { within = search rules; same = refl; whole = refl }, record { within = search rules; same = refl; whole = refl }, search rules)

pub loop-k-preserved : goal.loop-k-preserved
unfolding given pipelined
loop-k-preserved c =
    let at = c.loop-k in
    let even : length at.i ≡ length at.q = omega (arith, at.invariant.0.same, at.invariant.1.same, at.invariant.2) in
    rw c.run-p.ensures
    (turned _ _ at.i at.k at.k at.p.i [] at.invariant.0 (omega arith) (omega arith) (at.k + 1) refl, turned _ _ at.q at.k at.k at.p.q [] at.invariant.1 (omega arith) (omega (arith, even)) (at.k + 1) refl, at.invariant.2)

pub returns-clause-i_after : goal.returns-clause-i_after
unfolding through onward
returns-clause-i_after c =
    let at = c.loop-k in
    let end : length at.i ≤ at.k = omega arith in
    rw (take_all at.k at.i end, drop_of_length-le at.i end, append-nil) at at.invariant.0.whole

pub returns-clause-q_after : goal.returns-clause-q_after
unfolding through onward
returns-clause-q_after c =
    let at = c.loop-k in
    let end : length at.q ≤ at.k = omega (arith, at.invariant.0.same, at.invariant.1.same, at.invariant.2) in
    rw (take_all at.k at.q end, drop_of_length-le at.q end, append-nil) at at.invariant.1.whole
