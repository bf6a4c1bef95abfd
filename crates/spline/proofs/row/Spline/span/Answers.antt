use Rattle.std.proofs.Common.{◌≡◌, ◌-◌, true, false, sym, ap, ◌∙◌, arith}
use lib.Ieee.{Float, le}
use Rattle.spline.specs.Spline.{span_to}
use Rattle.spline.proofs.Span.{span-turn}
use Rattle.spline.proofs.row.Spline.span.Goals as goal

pub returns-then-knot-x-clause-value : goal.returns-then-knot-x-clause-value
returns-then-knot-x-clause-value c =
    let s = c.args.self.now in
    let below = ap (λ (y : Float). le y c.args.x) (sym c.knot.ensures) ∙ c.if-knot-x.true in
    sym (c.loop-k.invariant.1 ∙ span-turn s.row.now s.degree c.args.x (c.loop-k.k - 1) true (omega arith) below)

pub loop-k-preserved : goal.loop-k-preserved
loop-k-preserved c =
    let s = c.args.self.now in
    let over = ap (λ (y : Float). le y c.args.x) (sym c.knot.ensures) ∙ c.if-knot-x.false in
    (omega arith, c.loop-k.invariant.1 ∙ span-turn s.row.now s.degree c.args.x (c.loop-k.k - 1) false (omega arith) over)

pub returns-clause-value : goal.returns-clause-value
unfolding span_to
returns-clause-value c =
    let s = c.args.self.now in
    let none : c.loop-k.k - 1 - s.degree ≡ 0 = omega arith in
    sym (c.loop-k.invariant.1 ∙ ap (span_to s.row.now s.degree c.args.x) none)
