-- `points::sums::lay_sums` meets its contract. Assumes nothing.
use Rattle.std.proofs.Common.{◌≡◌, ◌-◌, ◌<◌, length, refl, le_of_lt, arith}
use Rattle.points.proofs.Turns.{turn, all_laid}
use Rattle.points.proofs.Adding.{at-start, at_next, at-point}
use Rattle.points.proofs.sums.lay_sums.Goals as goal

pub loop-p-init : goal.loop-p-init
loop-p-init c = (omega arith, refl, refl, let a = c.args in at-start (length a.part.now) a.x a.dx)

pub loop-p-preserved : goal.loop-p-preserved
loop-p-preserved c =
    let at = c.loop-p in
    let a = c.args in
    let o = c.requires in
    let n = length a.part.now in
    let under : at.p-index < n = omega (arith, at.invariant.1) in
    let next = turn a.part.now at.part _ at.p-index a.x a.dx _ (at-point n a.x a.dx o at.p-index at.high at.low (le_of_lt under) (at.invariant.3 o)) (omega arith) at.invariant.1 at.invariant.2 in
    (next.0, next.1, next.2, λ o. at_next n a.x a.dx o at.p-index at.high at.low under (at.invariant.3 o))

pub returns : goal.returns
returns c =
    let at = c.loop-p in
    let a = c.args in
    let all : length a.part.now - 0 ≡ length a.part.now = omega arith in
    all_laid at.part _ at.p-index (length a.part.now) a.x a.dx (omega arith) (omega (arith, at.invariant.1)) (rw all at at.invariant.2)
