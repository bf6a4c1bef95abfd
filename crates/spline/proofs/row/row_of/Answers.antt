use Rattle.std.proofs.Common.{◌≡◌, ◌+◌, ap, ◌∙◌, arith}
use Rattle.spline.proofs.Rows.{filled, filled-start, filled-control, filled-knot, filled-all}
use Rattle.spline.proofs.row.row_of.Goals as goal

pub loop-i-init : goal.loop-i-init
loop-i-init c =
    let a = c.args in
    filled-start a.degree a.controls.now a.knots.now _ _ c.nearest_u64_to_f64.ensures c.nearest_u64_to_f64-2.ensures

pub loop-i-preserved : goal.loop-i-preserved
loop-i-preserved c =
    let a = c.args in
    filled-control a.degree a.controls.now a.knots.now _ _ _ (omega arith) c.number_at.ensures c.loop-i.invariant

pub loop-j-preserved : goal.loop-j-preserved
loop-j-preserved c =
    let a = c.args in
    filled-knot a.degree a.controls.now a.knots.now _ _ _ (omega arith) c.number_at-in-loop-j.ensures c.loop-j.invariant

pub returns : goal.returns
returns c =
    let a = c.args in
    let place : 34 + c.loop-j.j ≡ 72 = omega arith in
    c.loop-j.invariant ∙ ap (filled a.degree a.controls.now a.knots.now) place ∙ filled-all a.degree a.controls.now a.knots.now
