-- `sheet_answer::answer` meets its contract: of a sheet that was read, `print` refuses nothing and needs at most 1,907 bytes (`printed-back`).
-- Assumes nothing.
use Rattle.sheet_answer.specs.Answer.{zeros}
use Rattle.sheet_answer.proofs.Answering.{answered, no_room, printable, sheet-is, refusal_is}
use Rattle.sheet_answer.proofs.answer.Goals as goal

pub returns-then-out-lt4096 : goal.returns-then-out-lt4096
returns-then-out-lt4096 c = rw c.at.ensures (no_room _ _ c.if-out-lt4096.true)

pub sheet_back-size-requires : goal.sheet_back-size-requires
sheet_back-size-requires c =
    let out = c.args.out.now in
    printable _ _ _ _ _ out c.read-reading.ensures c.in-Ok.is c.if-out-lt4096.false

pub returns-in-Ok : goal.returns-in-Ok
unfolding zeros
returns-in-Ok c =
    answered _ _ _ _ _ c.if-out-lt4096.false
    (sheet-is _ _ _ _ c.read-reading.ensures c.in-Ok.is)
    c.sheet_back-size.ensures

pub returns-in-Err : goal.returns-in-Err
unfolding zeros
returns-in-Err c =
    answered _ _ _ _ _ c.if-out-lt4096.false
    (refusal_is _ _ _ c.in-Err.refusal.why c.in-Err.refusal.place c.read-reading.ensures c.in-Err.is)
    c.refused-size.ensures
