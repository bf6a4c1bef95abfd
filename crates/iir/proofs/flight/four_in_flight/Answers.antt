use Prim.Native.Nat.{◌+◌, ◌-◌}
use lib.ListN.{length}
use native.Mathlib.Omega.{arith}
use mathlib.Core.Path.{◌≡◌}
use mathlib.Core.List.{[], ◌∷◌}
use Rattle.iir.specs.Filter.{given, pipelined}
use Rattle.iir.proofs.Flights.{turned, landed}
use Rattle.iir.proofs.flight.four_in_flight.Goals as goal

pub loop-k-preserved : goal.loop-k-preserved
unfolding given pipelined
loop-k-preserved c =
    let at = c.loop-k in
    rw (c.run-s.ensures, c.run-r.ensures, c.run-q.ensures, c.run-p.ensures)
    (turned _ _ at.row at.k (at.k + 3) at.p (at.q ∷ at.r ∷ at.s ∷ []) at.invariant (omega arith) (omega arith) (at.k + 1 + 3) (omega arith))

pub returns : goal.returns
returns c =
    let at = c.loop-k in
    let last = length c.args.row.now - 3 in
    let end : at.k ≡ last = omega arith in
    landed _ _ at.row last (last + 2) (last + 3) 2 at.p at.q (at.r ∷ at.s ∷ []) (rw end at at.invariant) (omega arith) (omega arith) (omega arith) _ c.three_in_flight.ensures
