-- A call that `prepare` refuses leaves all as it came; any other sums the lists and mixes them down (`was-mixed` in `proofs/Order.antt`).
use Rattle.std.specs.Prelude.{Err}
use Rattle.std.proofs.Common.{◌≡◌, sym, ◌∙◌, rules}
use Rattle.merge.specs.Work.{gathered}
use Rattle.mixdown.specs.Sampled.{rowed, out}
use Rattle.sampler.proofs.Order.{was-refused, was-mixed}
use Rattle.sampler.proofs.sample.Goals as goal

pub returns-in_err-settings : goal.returns-in_err-settings
returns-in_err-settings c =
    let a = c.args in
    let same : c.from_residual.result ≡ Err c.in_err-settings.field-0.0 = search rules in
    rw same (was-refused a.t a.r a.c a.factors.now a.bins.now a.pulses.now (rowed a.i.now a.q.now a.scratch.now) a.work.now a.marks.now _
    (sym c.prepare.ensures ∙ c.in_err-settings.was))

pub returns : goal.returns
returns c =
    let a = c.args in
    let s = c.sum_lists-ends in
    let m = c.mix_lists in
    let is = sym c.prepare.ensures ∙ c.in_ok-settings.was in
    was-mixed a.t a.r a.c a.factors.now a.bins.now a.pulses.now (rowed a.i.now a.q.now a.scratch.now) a.work.now a.marks.now c.in_ok-settings.field-0
    is (gathered s.new.work s.new.marks s.result) s.ensures
    (out m.result (rowed m.new.i m.new.q m.new.scratch)) m.ensures.scratch_after m.new.work m.new.marks m.ensures.work_unchanged
