-- The eight numbers as they are worked out, judged together, then both phasers.
use Rattle.std.proofs.Common.{sym, ap, ◌∙◌}
use lib.Ieee.{Float, binary64, mul}
use Rattle.placing.proofs.Turning.{turn-fine, turn-refused}
use Rattle.placing.proofs.phases.turn.Goals as goal

pub returns-then-not-all_finite : goal.returns-then-not-all_finite
returns-then-not-all_finite c =
    let a = c.args in
    turn-refused a.s a.b a.start a.offset _ _ _ _ _ _ _ _ (ap (λ (x : Float). mul binary64 x a.s.dt.0) c.nearest_u64_to_f64.ensures)
    c.sub-since.ensures c.mul_time-turned.ensures c.mul-slow.ensures c.mul_time-late.ensures c.add-phase0.ensures c.add-total.ensures c.mul_time-dphase.ensures
    (sym c.all_finite.ensures ∙ c.if-not-all_finite.true)

pub returns : goal.returns
returns c =
    let a = c.args in
    c.pairs.ensures
    ∙ turn-fine a.s a.b a.start a.offset _ _ _ _ _ _ _ _ (ap (λ (x : Float). mul binary64 x a.s.dt.0) c.nearest_u64_to_f64.ensures)
    c.sub-since.ensures c.mul_time-turned.ensures c.mul-slow.ensures c.mul_time-late.ensures c.add-phase0.ensures c.add-total.ensures c.mul_time-dphase.ensures
    (sym c.all_finite.ensures ∙ c.if-not-all_finite.false)
