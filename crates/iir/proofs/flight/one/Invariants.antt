-- What is laid so far, and what is still to come, is the row through the section.
use mathlib.Core.List.{[]}
use Rattle.iir.specs.Flight.{through}
use Rattle.iir.proofs.Flights.{Laid}
use Rattle.iir.proofs.flight.one.Given as goal

abbrev pub invariant-loop-x : goal.invariant-loop-x
invariant-loop-x l = Laid l.initial.row (through l.initial.p l.initial.row) l.row l.x-index l.x-index l.p []
