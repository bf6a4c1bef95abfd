-- `sheet_answer::sheet_back` meets its contract: `print` answers how many bytes it printed. Assumes nothing.
use Rattle.sheet_answer.proofs.Answering.{printed-put}
use Rattle.sheet_answer.proofs.sheet_back.Goals as goal

pub returns-in-Ok : goal.returns-in-Ok
returns-in-Ok c =
    printed-put _ _ _ _ _ _ _ c.requires c.in-Ok.is c.print.ensures
