-- The lists pushed so far, and then those of the names from k on, are the row's.
use Rattle.crosstalk.specs.Crosstalk.{names_in}
use Rattle.crosstalk.proofs.Pushing.{Turn}
use Rattle.crosstalk.proofs.parts.row_parts.Given as goal

abbrev pub invariant-loop-k : goal.invariant-loop-k
invariant-loop-k l = Turn l.t (names_in l.c) l.row l.k l.taking
