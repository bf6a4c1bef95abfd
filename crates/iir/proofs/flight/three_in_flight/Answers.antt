use Prim.Native.Nat.{◌+◌, ◌-◌}
use lib.ListN.{length}
use native.Mathlib.Omega.{arith}
use mathlib.Core.Path.{◌≡◌}
use mathlib.Core.List.{[], ◌∷◌}
use Rattle.iir.specs.Filter.{given, pipelined}
use Rattle.iir.proofs.Flights.{turned, landed}
use Rattle.iir.proofs.flight.three_in_flight.Goals as goal

pub loop-k-preserved : goal.loop-k-preserved
unfolding given pipelined
loop-k-preserved c =
    let at = c.loop-k in
    rw (c.run-r.ensures, c.run-q.ensures, c.run-p.ensures)
    (turned _ _ at.row at.k (at.k + 2) at.p (at.q ∷ at.r ∷ []) at.invariant (omega arith) (omega arith) (at.k + 1 + 2) (omega arith))

pub returns : goal.returns
returns c =
    let at = c.loop-k in
    let last = length c.args.row.now - 2 in
    let end : at.k ≡ last = omega arith in
    landed _ _ at.row last (last + 1) (last + 2) 1 at.p at.q (at.r ∷ []) (rw end at at.invariant) (omega arith) (omega arith) (omega arith) _ c.two_in_flight.ensures
