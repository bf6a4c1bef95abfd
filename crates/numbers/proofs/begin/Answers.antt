use Prim.Native.Nat.{◌+◌, ◌-◌}
use mathlib.Core.Path.{◌≡◌}
use native.Mathlib.Omega.{arith}
use Rattle.job.proofs.Listing.{end-within}
use Rattle.numbers.proofs.Laying.{begun-end, begun-on}
use Rattle.numbers.proofs.begin.Goals as goal

pub loop-init : goal.loop-init
loop-init c = let all : c.args.k - 0 ≡ c.args.k = omega arith in (omega arith, rw all)

pub overflow_add-end : goal.overflow_add-end
overflow_add-end c = omega (arith, end-within c.args.line.now c.loop.at 0 c.place.result c.loop.invariant.0 c.place.ensures)

pub returns-then-end-line : goal.returns-then-end-line
returns-then-end-line c =
    let at = c.loop in
    begun-end c.args.line.now at.at (c.args.k - at.counter) c.place.result at.invariant.0 c.place.ensures c.args.k (omega arith) at.invariant.1 c.if-end-line.true

pub overflow_add-at : goal.overflow_add-at
overflow_add-at c = omega (arith, end-within c.args.line.now c.loop.at 0 c.place.result c.loop.invariant.0 c.place.ensures)

pub loop-preserved : goal.loop-preserved
loop-preserved c =
    let line = c.args.line.now in
    let at = c.loop in
    let one : c.args.k - (at.counter + 1) ≡ c.args.k - at.counter - 1 = omega arith in (
      omega (arith, end-within line at.at 0 c.place.result at.invariant.0 c.place.ensures),
      rw one (begun-on line at.at (c.args.k - at.counter) c.place.result at.invariant.0 c.place.ensures c.args.k (omega arith) at.invariant.1 c.if-end-line.false),
    )

pub returns : goal.returns
returns c =
    let at = c.loop in
    let none : c.args.k - at.counter ≡ 0 = omega arith in
    record { within = at.invariant.0; is = rw none at at.invariant.1 }
