-- What is printed is within the room.
use Rattle.std.proofs.Common.{rules, sym}
use Rattle.std.proofs.lemmas.List.{length-take-le}
use Rattle.sheet_answer.proofs.Answering.{within}
use Rattle.replay_sheet.proofs.show.Goals as goal

pub slice_bounds-out-end : goal.slice_bounds-out-end
slice_bounds-out-end g c = within _ _ _ _ _ c.answer.ensures c.in-Ok.is (search rules)

pub slice_bounds-write_all-end : goal.slice_bounds-write_all-end
slice_bounds-write_all-end g c = sym (length-take-le _ _ (within _ _ _ _ _ c.answer.ensures c.in-Ok.is (search rules)))
