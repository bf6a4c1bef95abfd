-- `iir::flight::side_by_side` meets its contract. The invariant is that of `one` for each row, and that the rows have one length.
-- Assumes nothing.
use mathlib.Core.Path.{◌≡◌}
use mathlib.Core.List.{[]}
use lib.ListN.{length}
use Rattle.iir.specs.Flight.{through}
use Rattle.iir.proofs.Flights.{Laid}
use Rattle.iir.proofs.flight.side_by_side.Given as goal

abbrev pub invariant-loop-k : goal.invariant-loop-k
invariant-loop-k l = Laid l.initial.i (through l.initial.p.i l.initial.i) l.i l.k l.k l.p.i [] × Laid l.initial.q (through l.initial.p.q l.initial.q) l.q l.k l.k l.p.q [] × (length l.initial.i ≡ length l.initial.q)
