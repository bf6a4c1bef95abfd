-- A turn is one pulse more (`next` in `proofs/Turns.antt`).
use Rattle.std.proofs.Common.{arith}
use Rattle.merge.proofs.Turns.{begin, next, at-end}
use Rattle.merge.proofs.work.sum_list.Goals as goal

pub loop-p-init : goal.loop-p-init
loop-p-init c = let a = c.args in begin a.records.now a.tolerance.0 a.work.now a.marks.now a.at (omega arith) (omega arith)

pub loop-p-preserved : goal.loop-p-preserved
loop-p-preserved c =
    let a = c.args in
    next a.records.now a.tolerance.0 a.work.now a.marks.now a.at c.loop-p.p-index _ _ _ _ _ _ (omega arith) c.loop-p.invariant c.keep-used.ensures

pub returns : goal.returns
returns c =
    let a = c.args in
    at-end a.records.now a.tolerance.0 a.work.now a.marks.now a.at c.loop-p.p-index _ _ _ (omega arith) c.loop-p.invariant
