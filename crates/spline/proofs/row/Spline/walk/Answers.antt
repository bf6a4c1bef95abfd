use Rattle.std.proofs.Common.{get_or, sym, refl, ◌∙◌, arith}
use lib.Ieee.{nan}
use Rattle.exact.specs.Doubles.{nought}
use Rattle.rows.proofs.Turns.{upto}
use Rattle.rows.proofs.Valued.{valued-turn, valued-all}
use Rattle.spline.specs.Value.{spline_at}
use Rattle.spline.proofs.Span.{value-inside, value-outside}
use Rattle.spline.proofs.row.Spline.walk.Goals as goal
use Rattle.spline.proofs.row.Spline.walk.Goals.{then-in_domain, else-in_domain}

pub loop-x-init : goal.loop-x-init
unfolding upto
loop-x-init c = (record { within = omega arith; same = refl; done = refl }, omega arith, omega arith)

pub loop-x-preserved : goal.loop-x-preserved
loop-x-preserved c =
    let at = c.loop-x in
    let s = c.args.self.now in
    let turn = valued-turn (spline_at s.row.now s.degree s.controls) c.args.part.now at.part at.x-index (omega arith) at.invariant.0 in
    let x = get_or at.part at.x-index nan in
    let tested = c.in_domain.ensures in
    elim c.if-in_domain.branch [
      | then-in_domain w ↦ (
          let here = value-inside s.row.now s.degree s.controls x _ _ (sym tested ∙ w.if-in_domain.true) w.span_from-k.ensures.value w.de_boor.ensures in
          (rw w.part-is (turn w.de_boor.result here), rw w.k-is w.span_from-k.ensures.lower_bound.0, rw w.k-is w.span_from-k.ensures.lower_bound.1))
      | else-in_domain w ↦ (
          let here = value-outside s.row.now s.degree s.controls x (sym tested ∙ w.if-in_domain.false) in
          (rw w.part-is (turn nought here), rw w.k-is at.invariant.1, rw w.k-is at.invariant.2))
    ]

pub returns : goal.returns
returns c = valued-all _ _ _ _ (omega arith) c.loop-x.invariant.0
