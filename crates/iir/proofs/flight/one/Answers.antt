use Prim.Native.Nat.{◌+◌, ◌≤◌}
use native.Mathlib.Omega.{arith}
use mathlib.Core.Path.{refl}
use mathlib.Core.List.{[], append-nil}
use lib.ListN.{length, drop_of_length-le}
use lib.Seq.{take_all}
use borrow.Author.Rules.{rules}
use Rattle.iir.specs.Filter.{given, pipelined}
use Rattle.iir.specs.Flight.{through, onward}
use Rattle.iir.proofs.Flights.{turned}
use Rattle.iir.proofs.flight.one.Goals as goal

pub loop-x-init : goal.loop-x-init
unfolding onward
loop-x-init c = record { within = search rules; same = refl; whole = refl }

pub loop-x-preserved : goal.loop-x-preserved
unfolding given pipelined
loop-x-preserved c =
    let at = c.loop-x in
    rw c.run-p.ensures (turned _ _ at.row at.x-index at.x-index at.p [] at.invariant (omega arith) (omega arith) (at.x-index + 1) refl)

pub returns : goal.returns
unfolding through onward
returns c =
    let at = c.loop-x in
    let end : length at.row ≤ at.x-index = omega arith in
    rw (take_all at.x-index at.row end, drop_of_length-le at.row end, append-nil) at at.invariant.whole
