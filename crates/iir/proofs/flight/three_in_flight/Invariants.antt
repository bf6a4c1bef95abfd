-- `iir::flight::three_in_flight` meets its contract. The invariant: what is laid so far and what is to come make up the row. Assumes nothing.
use Prim.Native.Nat.{◌+◌}
use mathlib.Core.List.{[], ◌∷◌}
use lib.ListN.{drop}
use Rattle.iir.specs.Flight.{onward}
use Rattle.iir.proofs.Flights.{Laid}
use Rattle.iir.proofs.flight.three_in_flight.Given as goal

abbrev pub invariant-loop-k : goal.invariant-loop-k
invariant-loop-k l = Laid l.initial.row (onward l.initial.p (l.initial.q ∷ l.initial.r ∷ []) (drop 2 l.initial.row)) l.row l.k (l.k + 2) l.p (l.q ∷ l.r ∷ [])
