use Prim.Native.Nat.{ℕ, ◌≤◌, ◌<◌}
use mathlib.Core.Path.{refl, sym, ◌∙◌}
use native.Mathlib.Omega.{arith}
use lib.ListN.{length}
use Rattle.job.specs.List.{numbers_from}
use Rattle.job.proofs.Listing.{numbers-stop, numbers-last, numbers_on, end-within}
use Rattle.job.proofs.list.all_numbers.Goals as goal

never : (a n : ℕ) → a ≤ n → n < a → ⊥
never a n h k = omega arith

pub loop-at-init : goal.loop-at-init
unfolding numbers_from
loop-at-init c = (omega arith, refl)

pub overflow_add-end : goal.overflow_add-end
overflow_add-end c = omega (arith, end-within c.args.line.now c.loop-at.at c.loop-at.left c.place.result c.loop-at.invariant.0 c.place.ensures)

pub slice_bounds-stops-start : goal.slice_bounds-stops-start
slice_bounds-stops-start c = omega (arith, end-within c.args.line.now c.loop-at.at c.loop-at.left c.place.result c.loop-at.invariant.0 c.place.ensures)

pub slice_bounds-stops-end : goal.slice_bounds-stops-end
slice_bounds-stops-end c = omega (arith, end-within c.args.line.now c.loop-at.at c.loop-at.left c.place.result c.loop-at.invariant.0 c.place.ensures)

pub returns-then-stops : goal.returns-then-stops
returns-then-stops c =
    let at = c.loop-at in
    sym (numbers-stop c.args.line.now at.at at.left c.place.result at.invariant.0 c.place.ensures (sym c.stops.ensures ∙ c.if-stops.true)) ∙ at.invariant.1

pub returns-then-end-line : goal.returns-then-end-line
returns-then-end-line c =
    let at = c.loop-at in
    sym (numbers-last c.args.line.now at.at at.left c.place.result at.invariant.0 c.place.ensures (sym c.stops.ensures ∙ c.if-stops.false) c.if-end-line.true)
    ∙ at.invariant.1

pub overflow_add-at : goal.overflow_add-at
overflow_add-at c = omega (arith, end-within c.args.line.now c.loop-at.at c.loop-at.left c.place.result c.loop-at.invariant.0 c.place.ensures)

pub loop-at-smaller : goal.loop-at-smaller
loop-at-smaller c = omega (arith, end-within c.args.line.now c.loop-at.at c.loop-at.left c.place.result c.loop-at.invariant.0 c.place.ensures)

pub loop-at-preserved : goal.loop-at-preserved
loop-at-preserved c =
    let at = c.loop-at in
    let on = numbers_on c.args.line.now at.at at.left c.place.result at.invariant.0 c.place.ensures (sym c.stops.ensures ∙ c.if-stops.false) c.if-end-line.false in
    (omega (arith, end-within c.args.line.now c.loop-at.at c.loop-at.left c.place.result c.loop-at.invariant.0 c.place.ensures), rw c.saturating_sub-left.ensures (on ∙ at.invariant.1))

pub returns : goal.returns
returns c =
    let at = c.loop-at in
    absurd (never at.at (length c.args.line.now) at.invariant.0 (omega arith))
