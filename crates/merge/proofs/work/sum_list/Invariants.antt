use Rattle.merge.proofs.Turns.{Upto}
use Rattle.merge.proofs.work.sum_list.Given as goal

abbrev pub invariant-loop-p : goal.invariant-loop-p
invariant-loop-p l = Upto l.records l.tolerance.0 l.initial.work l.initial.marks l.at l.p-index l.used l.work l.marks
