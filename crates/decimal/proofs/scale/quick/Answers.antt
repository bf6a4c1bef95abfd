-- `decimal::scale::quick` meets its contract. One product or one quotient of two doubles that are exact. Assumes nothing.
use Rattle.std.specs.Prelude.{Some}
use Prim.Native.Nat.{◌-◌, ◌≤◌}
use mathlib.Core.Path.{ap}
use native.Mathlib.Omega.{arith}
use borrow.Author.Tests.{le-leb, lt-leb}
use Rattle.decimal.specs.Number.{scaled_by}
use Rattle.decimal.specs.Ways.{quick_by}
use Rattle.decimal.proofs.Powers.{product-once, quotient-once}
use Rattle.decimal.proofs.scale.quick.Goals as goal

pub returns-then-up-down-gt22 : goal.returns-then-up-down-gt22
unfolding quick_by
returns-then-up-down-gt22 c = simp (lt-leb _ _ c.if-up-down-gt22.true)

pub returns-then-down-up : goal.returns-then-down-up
unfolding quick_by scaled_by
returns-then-down-up c =
    let args = c.args in
    let none : args.down - args.up ≤ 22 = omega arith in
    simp (le-leb _ _ c.if-down-up.true, le-leb _ _ c.if-up-down-gt22.false, le-leb _ _ none)
    (ap Some (product-once args.minus args.n (args.up - args.down) _ _ c.signed.ensures c.ten_to.ensures))

pub returns-then-down-up-gt22 : goal.returns-then-down-up-gt22
unfolding quick_by
returns-then-down-up-gt22 c =
    let args = c.args in
    let none : args.up - args.down ≤ 22 = omega arith in
    simp (le-leb _ _ none, lt-leb _ _ c.if-down-up-gt22.true)

pub returns : goal.returns
unfolding quick_by scaled_by
returns c =
    let args = c.args in
    let none : args.up - args.down ≤ 22 = omega arith in
    simp (lt-leb _ _ c.if-down-up.false, le-leb _ _ none, le-leb _ _ c.if-down-up-gt22.false)
    (ap Some (quotient-once args.minus args.n (args.down - args.up) _ _ c.signed-2.ensures c.ten_to-2.ensures))
