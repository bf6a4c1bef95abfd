use lib.ListN.{drop}
use Rattle.mix.specs.Plateau.{carried, real}
use Rattle.mix.proofs.Turns.{Laid}
use Rattle.mix.proofs.one_row.plateau_row.Given as goal

abbrev pub invariant-loop-x : goal.invariant-loop-x
invariant-loop-x l = Laid (carried real l.initial.z l.rotation l.initial.x-items) l.initial.x-items l.x-items l.x-index (carried real l.z l.rotation (drop l.x-index l.x-items))
