use Prim.Native.Nat.{◌+◌, ◌-◌}
use lib.ListN.{length}
use native.Mathlib.Omega.{arith}
use mathlib.Core.Path.{◌≡◌, refl}
use mathlib.Core.List.{[], ◌∷◌}
use Rattle.iir.specs.Filter.{given, pipelined}
use Rattle.iir.specs.Flight.{onward}
use Rattle.iir.proofs.Flights.{turned, landed}
use Rattle.iir.proofs.flight.two_in_flight.Goals as goal

pub loop-k-preserved : goal.loop-k-preserved
unfolding given pipelined
loop-k-preserved c =
    let at = c.loop-k in
    rw (c.run-q.ensures, c.run-p.ensures)
    (turned _ _ at.row at.k (at.k + 1) at.p (at.q ∷ []) at.invariant (omega arith) (omega arith) (at.k + 1 + 1) refl)

pub returns : goal.returns
unfolding onward
returns c =
    let at = c.loop-k in
    let last = length c.args.row.now - 1 in
    let end : at.k ≡ last = omega arith in
    landed _ _ at.row last last (last + 1) 0 at.p at.q [] (rw end at at.invariant) (omega arith) refl (omega arith) _ c.one.ensures
