use Rattle.std.specs.Prelude.{Some}
use Prim.Native.Nat.{◌+◌, ◌-◌}
use mathlib.Core.Path.{◌≡◌, sym, ◌∙◌}
use native.Mathlib.Omega.{arith}
use mathlib.Core.List.{[]}
use lib.ListN.{take, drop, set}
use Rattle.decimal.specs.Number.{number_of}
use Rattle.fields.specs.Words.{words_of}
use Rattle.job.proofs.Listing.{end-within}
use Rattle.numbers.specs.Numbers.{numbers_of, listed}
use Rattle.numbers.proofs.Laying.{laid_next, number-none, number-last, number_more, stored-all}
use Rattle.numbers.proofs.numbers.Goals as goal

pub overflow_add-end : goal.overflow_add-end
overflow_add-end c =
    let line = c.args.line.now in
    let at = c.loop-n in
    let p = c.place.result in
    omega (arith, end-within line at.at 0 p at.invariant.0 c.place.ensures)

pub slice_bounds-read-end : goal.slice_bounds-read-end
slice_bounds-read-end c =
    let line = c.args.line.now in
    let at = c.loop-n in
    let p = c.place.result in
    omega (arith, end-within line at.at 0 p at.invariant.0 c.place.ensures)

pub returns-in_default : goal.returns-in_default
returns-in_default c =
    let line = c.args.line.now in
    let at = c.loop-n in
    let p = c.place.result in
    let none = number-none line at.at 0 p at.invariant.0 c.place.ensures (sym c.read.ensures ∙ c.in_default.is) in
    stored-all c.args.line.now c.args.k c.args.out.now at.out at.n (rw none at at.invariant.1)

pub returns-then-end-line : goal.returns-then-end-line
returns-then-end-line c =
    let line = c.args.line.now in
    let at = c.loop-n in
    let p = c.place.result in
    let x = c.in-Some.x in
    let is : number_of (take (at.at + p - at.at) (drop at.at line)) ≡ Some x = sym c.read.ensures ∙ c.in-Some.is in
    let one = number-last line at.at 0 p at.invariant.0 c.place.ensures x is c.if-end-line.true in
    stored-all c.args.line.now c.args.k c.args.out.now (set at.out at.n x) (at.n + 1)
    (laid_next (listed line c.args.k) c.args.out.now at.out at.n x [] (omega arith) (rw one at at.invariant.1))

pub loop-n-preserved : goal.loop-n-preserved
loop-n-preserved c =
    let line = c.args.line.now in
    let at = c.loop-n in
    let p = c.place.result in
    let x = c.in-Some.x in
    let is : number_of (take (at.at + p - at.at) (drop at.at line)) ≡ Some x = sym c.read.ensures ∙ c.in-Some.is in
    let next = number_more line at.at 0 p at.invariant.0 c.place.ensures x is c.if-end-line.false in (
      omega (arith, end-within line at.at 0 p at.invariant.0 c.place.ensures),
      laid_next (listed line c.args.k) c.args.out.now at.out at.n x (numbers_of (words_of (drop (at.at + p + 1) line))) (omega arith) (rw next at at.invariant.1),
    )
