-- `sheet::read::fill` meets its contract. The invariant: pasting the rows of the columns that are left gives what pasting them all gave. Assumes nothing.
use Rattle.sheet.proofs.Filling.{Filled}
use Rattle.sheet.proofs.read.fill.Given as goal

abbrev pub invariant-loop-c : goal.invariant-loop-c
invariant-loop-c l = Filled l.count l.columns l.rows l.factors l.initial.matrix l.matrix l.c
