use Prim.Native.Nat.{◌+◌, ◌-◌}
use mathlib.Core.Path.{◌≡◌, sym, ◌∙◌}
use mathlib.Core.List.{[]}
use native.Mathlib.Omega.{arith}
use lib.ListN.{get_or, drop}
use Rattle.fields.specs.Words.{words_of, word_in}
use Rattle.fields.proofs.Splitting.{words-head, turn-within, turn-ends, turn-goes}
use Rattle.fields.proofs.words.start.Goals as goal

pub loop-init : goal.loop-init
loop-init c = let all : c.args.k - 0 ≡ c.args.k = omega arith in (omega arith, rw all)

pub overflow_add-end : goal.overflow_add-end
overflow_add-end c =
    let line = c.args.line.now in
    let at = c.loop in
    omega (arith, turn-within line c.args.k at.at (c.args.k - at.counter) c.place.result at.invariant.0 c.place.ensures)

pub returns-then-end-line : goal.returns-then-end-line
returns-then-end-line c =
    let line = c.args.line.now in
    let at = c.loop in
    turn-ends line c.args.k at.at (c.args.k - at.counter) c.place.result at.invariant.0 c.place.ensures (omega arith) at.invariant.1 c.if-end-line.true

pub overflow_add-at : goal.overflow_add-at
overflow_add-at c =
    let line = c.args.line.now in
    let at = c.loop in
    omega (arith, (turn-goes line c.args.k at.at (c.args.k - at.counter) c.place.result at.invariant.0 c.place.ensures (omega arith) at.invariant.1 c.if-end-line.false).0)

pub loop-preserved : goal.loop-preserved
loop-preserved c =
    let line = c.args.line.now in
    let at = c.loop in
    let one : c.args.k - (at.counter + 1) ≡ c.args.k - at.counter - 1 = omega arith in
    rw one (turn-goes line c.args.k at.at (c.args.k - at.counter) c.place.result at.invariant.0 c.place.ensures (omega arith) at.invariant.1 c.if-end-line.false)

pub returns : goal.returns
returns c =
    let at = c.loop in
    let line = c.args.line.now in
    let none : c.args.k - at.counter ≡ 0 = omega arith in
    let first : get_or (words_of (drop at.at line)) 0 [] ≡ word_in line c.args.k = rw none at at.invariant.1 in
    record { within = at.invariant.0; is = sym (words-head (drop at.at line)) ∙ first }
