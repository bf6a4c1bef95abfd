use Rattle.std.proofs.Common.{◌≡◌, ◌+◌, ◌-◌, Bool, not, ◌&&◌, drop, sym, ap, ◌∙◌, arith}
use Rattle.spline.specs.Spline.{not_falling}
use Rattle.spline.proofs.Falls.{falls-next, falls-end}
use Rattle.spline.proofs.check.not_falling.Goals as goal

pub returns-then-knots-i : goal.returns-then-knots-i
returns-then-knots-i c =
    let k = c.loop-i.i - 1 in
    let l = c.args.knots.now in
    let place : k + 1 ≡ c.loop-i.i = omega arith in
    sym
    (c.loop-i.invariant.1
    ∙ falls-next l k (omega arith)
    ∙ rw place (ap (λ (b : Bool). not b && not_falling (drop c.loop-i.i l)) c.if-knots-i.true))

pub loop-i-preserved : goal.loop-i-preserved
loop-i-preserved c =
    let k = c.loop-i.i - 1 in
    let l = c.args.knots.now in
    let place : k + 1 ≡ c.loop-i.i = omega arith in
    let next : c.loop-i.i + 1 - 1 ≡ c.loop-i.i = omega arith in (
      omega arith,
      rw next
          (c.loop-i.invariant.1
          ∙ falls-next l k (omega arith)
          ∙ rw place (ap (λ (b : Bool). not b && not_falling (drop c.loop-i.i l)) c.if-knots-i.false)),
    )

pub returns : goal.returns
returns c = sym (c.loop-i.invariant.1 ∙ falls-end c.args.knots.now (c.loop-i.i - 1) (omega arith))
