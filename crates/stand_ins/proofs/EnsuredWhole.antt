-- The promises are the code's own: the `ensures` of each call, as its crate states it, is what `system` and this crate say that it promises, clause by clause, and
-- there is no `requires`. So a call whose `ensures` said less, or that asked for something, would be refused here. First the ten calls of `system`, and the two
-- for a caller that owns its arrays. Assumes nothing.
use mathlib.Core.Path.{refl}
use seplogic.Ra.Ura.{Ura}
use base.Logic.{SProp}
use prog.Memory.{Memory}
use prog.Routine.{Routine}
use types.Logic.{Logic}
use contract.Monad.{Fun}
use Rattle.tables.specs.contracts.make as make
use Rattle.tables.specs.contracts.add_channel as add-channel
use Rattle.tables.specs.contracts.add_shape as add-shape
use Rattle.tables.specs.contracts.add_spline as add-spline
use Rattle.commands.specs.contracts.execute.execute as execute
use Rattle.commands.specs.Run.{ran_to}
use Rattle.owned.specs.contracts.execute_owned as execute-owned
use Rattle.mixdown.specs.Sampled.{rowed}
use Rattle.sampler.specs.contracts.sample as sample
use Rattle.owned_sampler.specs.contracts.sample_owned as sample-owned
use Rattle.mixer.specs.contracts.mixer as mixer
use Rattle.iir.specs.contracts.iir as iir
use Rattle.fir.specs.contracts.fir as fir
use Rattle.system.specs.System.{State, with_tables, with_shapes, with_stored, with_lent, with_rows, Contract}
use Rattle.system.specs.System as call
use Rattle.stand_ins.specs.Buffers as lent
use Rattle.stand_ins.proofs.Says.{Says}

module _ {M : Type 1} {𝓤 : Ura M} (𝓛 : Logic 𝓤) (mem : Memory → SProp 𝓤) (run : Routine → Fun 𝓤) (s : State) where
  pub mixer-says : Says 𝓤 mixer.ended (mixer.clauses 𝓛 mem run)
      (λ κs a r e. Contract (with_rows s a.1.0.now a.1.1.0.now) (call.mixer a.0 a.1.1.1.0.now a.1.1.1.1.0.now) r (with_rows s e.1.0.now e.1.1.0.now))
  unfolding Contract
  mixer-says κs a g r e = (refl, refl)

  pub iir-says : Says 𝓤 iir.ended (iir.clauses 𝓛 mem run)
      (λ κs a r e. Contract (with_rows s a.1.0.now a.1.1.0.now) (call.iir a.0 a.1.1.1.0.now) r (with_rows s e.1.0.now e.1.1.0.now))
  unfolding Contract
  iir-says κs a g r e = (refl, refl)

  pub fir-says : Says 𝓤 fir.ended (fir.clauses 𝓛 mem run)
      (λ κs a r e. Contract (with_rows s a.1.0.now a.1.1.0.now) (call.fir a.0 a.1.1.1.0.now) r (with_rows s e.1.0.now e.1.1.0.now))
  unfolding Contract
  fir-says κs a g r e = (refl, refl)

  pub execute-says : Says 𝓤 execute.ended (execute.clauses 𝓛 mem run)
      (λ κs a r e. Contract (with_stored (with_shapes s a.0 a.1.0.now) a.0 a.1.1.1.0.now a.1.1.1.1.0.now) (call.execute a.1.1.0.now) r.answer
      (with_stored s r.tables e.1.1.1.0.now e.1.1.1.1.0.now))
  unfolding Contract
  execute-says κs a g r e = (refl, refl)

  pub execute-owned-says : Says 𝓤 execute-owned.ended (execute-owned.clauses 𝓛 mem run)
      (λ κs a r e. (lent.execute-owned).Promise (record { state = with_stored (with_shapes s a.0 a.1.0.now) a.0 a.1.1.1.1.0.now a.1.1.1.1.1.0; commands = a.1.1.0; count = a.1.1.1.0 })
      (ran_to r.tabled e.1.1.1.1.0.now r.pulses))
  execute-owned-says κs a g r e = (refl, refl)

  pub sample-says : Says 𝓤 sample.ended (sample.clauses 𝓛 mem run) (λ κs a r e. Contract
      (with_lent (with_stored s a.0 a.1.1.1.1.0.now a.1.1.1.1.1.0.now)
      (rowed a.1.1.1.1.1.1.0.now a.1.1.1.1.1.1.1.0.now a.1.1.1.1.1.1.1.1.0.now)
      a.1.1.1.1.1.1.1.1.1.0.now
      a.1.1.1.1.1.1.1.1.1.1.0.now)
      (call.sample a.1.0 a.1.1.0 a.1.1.1.0.now)
      r
      (with_lent s (rowed e.1.1.1.1.1.1.0.now e.1.1.1.1.1.1.1.0.now e.1.1.1.1.1.1.1.1.0.now)
      e.1.1.1.1.1.1.1.1.1.0.now
      e.1.1.1.1.1.1.1.1.1.1.0.now))
  unfolding Contract
  sample-says κs a g r e = (refl, refl)

  pub sample-owned-says : Says 𝓤 sample-owned.ended (sample-owned.clauses 𝓛 mem run) (λ κs a r e. Contract
      (with_lent (with_stored s a.0 a.1.1.1.1.0.now a.1.1.1.1.1.0)
      (rowed a.1.1.1.1.1.1.0.now a.1.1.1.1.1.1.1.0.now a.1.1.1.1.1.1.1.1.0.now)
      a.1.1.1.1.1.1.1.1.1.0.now
      a.1.1.1.1.1.1.1.1.1.1.0.now)
      (call.sample a.1.0 a.1.1.0 a.1.1.1.0.now)
      r
      (with_lent s (rowed e.1.1.1.1.1.1.0.now e.1.1.1.1.1.1.1.0.now e.1.1.1.1.1.1.1.1.0.now)
      e.1.1.1.1.1.1.1.1.1.0.now
      e.1.1.1.1.1.1.1.1.1.1.0.now))
  unfolding Contract
  sample-owned-says κs a g r e = (refl, refl)

  pub make-says : Says 𝓤 make.ended (make.clauses 𝓛 mem run)
      (λ κs a r e. Contract s (call.make a.0.0 a.1.0.0 a.1.1.0) r.answer (with_tables s r.tables))
  unfolding Contract
  make-says κs a g r e = (refl, refl)

  pub add-channel-says : Says 𝓤 add-channel.ended (add-channel.clauses 𝓛 mem run)
      (λ κs a r e. Contract (with_tables s a.0) (call.add-channel a.1.0 a.1.1.0) r.answer (with_tables s r.tables))
  unfolding Contract
  add-channel-says κs a g r e = (refl, refl)

  pub add-shape-says : Says 𝓤 add-shape.ended (add-shape.clauses 𝓛 mem run)
      (λ κs a r e. Contract (with_shapes s a.0 a.1.1.0.now) (call.add-shape a.1.0) r.answer (with_shapes s r.tables e.1.1.0.now))
  unfolding Contract
  add-shape-says κs a g r e = (refl, refl)

  pub add-spline-says : Says 𝓤 add-spline.ended (add-spline.clauses 𝓛 mem run)
      (λ κs a r e. Contract (with_shapes s a.0 a.1.1.1.1.1.0.now) (call.add-spline a.1.0 a.1.1.0 a.1.1.1.0.now a.1.1.1.1.0.now)
      r.answer
      (with_shapes s r.tables e.1.1.1.1.1.0.now))
  unfolding Contract
  add-spline-says κs a g r e = (refl, refl)
