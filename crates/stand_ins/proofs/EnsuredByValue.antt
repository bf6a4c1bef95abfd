-- The promises of the calls by value are the code's own (see EnsuredWhole.antt). Assumes nothing.
use mathlib.Core.Path.{refl}
use seplogic.Ra.Ura.{Ura}
use base.Logic.{SProp}
use prog.Memory.{Memory}
use prog.Routine.{Routine}
use types.Logic.{Logic}
use contract.Monad.{Fun}
use Rattle.exact.specs.Doubles.{nought}
use Rattle.trig.specs.contracts.cosine as cosine
use Rattle.trig.specs.contracts.sine as sine
use Rattle.trig.specs.contracts.cosine_wrapped as cosine-wrapped
use Rattle.points.specs.contracts.point as point
use Rattle.shape.specs.contracts.hann.hann as hann
use Rattle.host.specs.contracts.skierralu_cos as cos
use Rattle.host.specs.contracts.skierralu_sin as sin
use Rattle.trig.specs.contracts.both as both
use Rattle.quant.specs.contracts.aligned.align as align
use Rattle.quant.specs.contracts.aligned.place as place
use Rattle.host.specs.contracts.skierralu_align as align-c
use Rattle.host.specs.contracts.skierralu_place as place-c
use Rattle.quant.specs.contracts.phaser.phaser as phaser
use Rattle.quant.specs.contracts.settings.set_up as set-up
use Rattle.executor.specs.contracts.osc.OscState.shift_phase as shift-phase
use Rattle.executor.specs.contracts.osc.OscState.set_phase as set-phase
use Rattle.executor.specs.contracts.osc.OscState.shift_freq as shift_freq
use Rattle.executor.specs.contracts.osc.OscState.set_freq as set_freq
use Rattle.executor.specs.contracts.osc.swap_phase as swap-phase
use Rattle.host.specs.contracts.skierralu_shift_phase as shift-phase-c
use Rattle.host.specs.contracts.skierralu_set_phase as set-phase-c
use Rattle.host.specs.contracts.skierralu_shift_freq as shift-freq-c
use Rattle.host.specs.contracts.skierralu_set_freq as set-freq-c
use Rattle.host.specs.contracts.skierralu_swap_phase as swap-phase-c
use Rattle.pulse.specs.contracts.weight.weigh as weigh
use Rattle.shape.specs.contracts.parts.lay_out as lay-out
use Rattle.shape.specs.contracts.envelope.measure as measure
use Rattle.placing.specs.contracts.judge as judge
use Rattle.tables.specs.contracts.state as state
use Rattle.tables.specs.contracts.find as find
use Rattle.tables.specs.contracts.find_shape as find-shape
use Rattle.spline.specs.contracts.check.check as spline-check
use Rattle.spline.specs.contracts.value.value as spline-value
use Rattle.spline.specs.contracts.value.is_fine as spline-fine
use Rattle.crosstalk.specs.contracts.plan as plan
use Rattle.rows.specs.contracts.answer as answer
use Rattle.stand_ins.specs.ByValue as call
use Rattle.stand_ins.proofs.Says.{Says}

module _ {M : Type 1} {𝓤 : Ura M} (𝓛 : Logic 𝓤) (mem : Memory → SProp 𝓤) (run : Routine → Fun 𝓤) where
  pub cosine-says : Says 𝓤 cosine.ended (cosine.clauses 𝓛 mem run) (λ κs a r e. (call.cosine).Promise a.0 r)
  cosine-says κs a g r e = (refl, refl)

  pub sine-says : Says 𝓤 sine.ended (sine.clauses 𝓛 mem run) (λ κs a r e. (call.sine).Promise a.0 r)
  sine-says κs a g r e = (refl, refl)

  pub cosine-wrapped-says : Says 𝓤 cosine-wrapped.ended (cosine-wrapped.clauses 𝓛 mem run) (λ κs a r e. (call.cosine-wrapped).Promise a.0 r)
  cosine-wrapped-says κs a g r e = (refl, refl)

  pub point-says : Says 𝓤 point.ended (point.clauses 𝓛 mem run) (λ κs a r e. (call.point).Promise (record { start = a.0; step = a.1.0; index = a.1.1.0 }) r)
  point-says κs a g r e = (refl, refl)

  pub hann-says : Says 𝓤 hann.ended (hann.clauses 𝓛 mem run) (λ κs a r e. (call.hann).Promise a.0 r)
  hann-says κs a g r e = (refl, refl)

  pub cos-says : Says 𝓤 cos.ended (cos.clauses 𝓛 mem run) (λ κs a r e. (call.cosine).Promise a.0 r)
  cos-says κs a g r e = (refl, refl)

  pub sin-says : Says 𝓤 sin.ended (sin.clauses 𝓛 mem run) (λ κs a r e. (call.sine).Promise a.0 r)
  sin-says κs a g r e = (refl, refl)

  pub both-says : Says 𝓤 both.ended (both.clauses 𝓛 mem run) (λ κs a r e. (call.both).Promise a.0 (r.cos, r.sin))
  both-says κs a g r e = (refl, refl)

  pub align-says : Says 𝓤 align.ended (align.clauses 𝓛 mem run) (λ κs a r e. (call.align).Promise (record { time = a.0.0; rate = a.1.0.0; level = a.1.1.0 }) r)
  align-says κs a g r e = (refl, refl)

  pub place-says : Says 𝓤 place.ended (place.clauses 𝓛 mem run) (λ κs a r e. (call.place).Promise (record { time = a.0.0; rate = a.1.0.0; level = a.1.1.0 }) r)
  place-says κs a g r e = (refl, refl)

  pub align-c-says : Says 𝓤 align-c.ended (align-c.clauses 𝓛 mem run) (λ κs a r e. (call.align-c).Promise (record { time = a.0.0; rate = a.1.0.0; level = a.1.1.0 }) r)
  align-c-says κs a g r e = (refl, refl)

  pub place-c-says : Says 𝓤 place-c.ended (place-c.clauses 𝓛 mem run) (λ κs a r e. (call.place-c).Promise (record { time = a.0.0; rate = a.1.0.0; level = a.1.1.0 }) r)
  place-c-says κs a g r e = (refl, refl)

  pub phaser-says : Says 𝓤 phaser.ended (phaser.clauses 𝓛 mem run) (λ κs a r e. (call.phaser).Promise a.0.0 r)
  phaser-says κs a g r e = (refl, refl)

  pub set-up-says : Says 𝓤 set-up.ended (set-up.clauses 𝓛 mem run) (λ κs a r e. (call.set-up).Promise (record { rate = a.0; delay = a.1.0; level = a.1.1.0 }) r)
  set-up-says κs a g r e = (refl, refl)

  pub shift-phase-says : Says 𝓤 shift-phase.ended (shift-phase.clauses 𝓛 mem run) (λ κs a r e. (call.shift-phase).Promise (record { osc = a.0; number = a.1.0.0; time = nought }) r)
  shift-phase-says κs a g r e = (refl, refl)

  pub set-phase-says : Says 𝓤 set-phase.ended (set-phase.clauses 𝓛 mem run) (λ κs a r e. (call.set-phase).Promise (record { osc = a.0; number = a.1.0.0; time = a.1.1.0.0 }) r)
  set-phase-says κs a g r e = (refl, refl)

  pub shift_freq_says : Says 𝓤 shift_freq.ended (shift_freq.clauses 𝓛 mem run) (λ κs a r e. (call.shift_freq).Promise (record { osc = a.0; number = a.1.0.0; time = a.1.1.0.0 }) r)
  shift_freq_says κs a g r e = (refl, refl)

  pub set_freq_says : Says 𝓤 set_freq.ended (set_freq.clauses 𝓛 mem run) (λ κs a r e. (call.set_freq).Promise (record { osc = a.0; number = a.1.0.0; time = a.1.1.0.0 }) r)
  set_freq_says κs a g r e = (refl, refl)

  pub swap-phase-says : Says 𝓤 swap-phase.ended (swap-phase.clauses 𝓛 mem run) (λ κs a r e. (call.swap-phase).Promise (record { one = a.0; two = a.1.0; time = a.1.1.0.0 }) r)
  swap-phase-says κs a g r e = (refl, refl)

  pub shift-phase-c-says : Says 𝓤 shift-phase-c.ended (shift-phase-c.clauses 𝓛 mem run) (λ κs a r e. (call.shift-phase).Promise (record { osc = a.0; number = a.1.0.0; time = nought }) r)
  shift-phase-c-says κs a g r e = (refl, refl)

  pub set-phase-c-says : Says 𝓤 set-phase-c.ended (set-phase-c.clauses 𝓛 mem run) (λ κs a r e. (call.set-phase).Promise (record { osc = a.0; number = a.1.0.0; time = a.1.1.0.0 }) r)
  set-phase-c-says κs a g r e = (refl, refl)

  pub shift_freq_c-says : Says 𝓤 shift-freq-c.ended (shift-freq-c.clauses 𝓛 mem run) (λ κs a r e. (call.shift_freq).Promise (record { osc = a.0; number = a.1.0.0; time = a.1.1.0.0 }) r)
  shift_freq_c-says κs a g r e = (refl, refl)

  pub set_freq_c-says : Says 𝓤 set-freq-c.ended (set-freq-c.clauses 𝓛 mem run) (λ κs a r e. (call.set_freq).Promise (record { osc = a.0; number = a.1.0.0; time = a.1.1.0.0 }) r)
  set_freq_c-says κs a g r e = (refl, refl)

  pub swap-phase-c-says : Says 𝓤 swap-phase-c.ended (swap-phase-c.clauses 𝓛 mem run) (λ κs a r e. (call.swap-phase).Promise (record { one = a.0; two = a.1.0; time = a.1.1.0.0 }) r)
  swap-phase-c-says κs a g r e = (refl, refl)

  pub weigh-says : Says 𝓤 weigh.ended (weigh.clauses 𝓛 mem run) (λ κs a r e. (call.weigh).Promise (record { amplitude = a.0.0; phase = a.1.0.0; drag = a.1.1.0 }) r)
  weigh-says κs a g r e = (refl, refl)

  pub lay-out-says : Says 𝓤 lay-out.ended (lay-out.clauses 𝓛 mem run) (λ κs a r e. (call.lay-out).Promise (record { width = a.0.0; plateau = a.1.0.0; offset = a.1.1.0; rate = a.1.1.1.0.0; dt = a.1.1.1.1.0.0; room = a.1.1.1.1.1.0 }) r)
  lay-out-says κs a g r e = (refl, refl)

  pub measure-says : Says 𝓤 measure.ended (measure.clauses 𝓛 mem run) (λ κs a r e. (call.measure).Promise (record { shape = a.0; numbers = a.1.0.now; curve = record { width = a.1.1.0.0; plateau = a.1.1.1.0.0; offset = a.1.1.1.1.0; rate = a.1.1.1.1.1.0.0; dt = a.1.1.1.1.1.1.0.0; room = a.1.1.1.1.1.1.1.0 } }) r)
  measure-says κs a g r e = (refl, refl)

  pub judge-says : Says 𝓤 judge.ended (judge.clauses 𝓛 mem run) (λ κs a r e. (call.judge).Promise (record { settings = a.0; bin = a.1.0; numbers = a.1.1.0.now; pulse = a.1.1.1.0; len = a.1.1.1.1.0 }) r)
  judge-says κs a g r e = (refl, refl)

  pub state-says : Says 𝓤 state.ended (state.clauses 𝓛 mem run) (λ κs a r e. (call.state).Promise (record { tables = a.0; name = a.1.0 }) r)
  state-says κs a g r e = (refl, refl)

  pub find-says : Says 𝓤 find.ended (find.clauses 𝓛 mem run) (λ κs a r e. (call.find).Promise (record { tables = a.0; name = a.1.0 }) r)
  find-says κs a g r e = (refl, refl)

  pub find-shape-says : Says 𝓤 find-shape.ended (find-shape.clauses 𝓛 mem run) (λ κs a r e. (call.find-shape).Promise (record { tables = a.0; name = a.1.0 }) r)
  find-shape-says κs a g r e = (refl, refl)

  pub spline-check-says : Says 𝓤 spline-check.ended (spline-check.clauses 𝓛 mem run) (λ κs a r e. (call.spline-check).Promise (record { degree = a.0; controls = a.1.0; knots = a.1.1.0.now }) r)
  spline-check-says κs a g r e = (refl, refl)

  pub spline-value-says : Says 𝓤 spline-value.ended (spline-value.clauses 𝓛 mem run) (λ κs a r e. (call.spline-value).Promise (record { row = a.0.now; at = a.1.0 }) r)
  spline-value-says κs a g r e = (refl, refl)

  pub spline-fine-says : Says 𝓤 spline-fine.ended (spline-fine.clauses 𝓛 mem run) (λ κs a r e. (call.spline-fine).Promise (record { row = a.0.now; at = a.1.0 }) r)
  spline-fine-says κs a g r e = (refl, refl)

  pub plan-says : Says 𝓤 plan.ended (plan.clauses 𝓛 mem run) (λ κs a r e. (call.plan).Promise (record { tables = a.0; channel = a.1.0; cross = a.1.1.0; factors = a.1.1.1.0.now }) r)
  plan-says κs a g r e = (refl, refl)

  pub answer-says : Says 𝓤 answer.ended (answer.clauses 𝓛 mem run) (λ κs a r e. (call.answer).Promise (record { fits = a.0; fine = a.1.0 }) r)
  answer-says κs a g r e = (refl, refl)
