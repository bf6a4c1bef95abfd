-- The promises of the other calls on what is lent are the code's own (see EnsuredWhole.antt). Assumes nothing.
use mathlib.Core.Path.{refl}
use mathlib.Core.List.{[]}
use seplogic.Ra.Ura.{Ura}
use base.Logic.{SProp}
use prog.Memory.{Memory}
use prog.Routine.{Routine}
use types.Logic.{Logic}
use contract.Monad.{Fun}
use Rattle.merge.specs.Work.{gathered}
use Rattle.mixdown.specs.Sampled.{rowed, out}
use Rattle.host.specs.contracts.skierralu_mixer as mixer-c
use Rattle.host.specs.contracts.skierralu_iir as iir-c
use Rattle.host.specs.contracts.skierralu_fir as fir-c
use Rattle.ring.specs.contracts.filter as filter
use Rattle.mix.specs.contracts.add_plateau as add-plateau
use Rattle.host.specs.contracts.skierralu_add_plateau as add-plateau-c
use Rattle.mix.specs.contracts.add_envelope as add-envelope
use Rattle.points.specs.contracts.lay as lay
use Rattle.spline.specs.contracts.over.over as spline-over
use Rattle.host.specs.contracts.skierralu_spline as spline-c
use Rattle.shape.specs.contracts.envelope.envelope as envelope
use Rattle.merge.specs.contracts.work.sum_lists as sum-lists
use Rattle.mixdown.specs.contracts.mix_lists as mix-lists
use Rattle.stand_ins.specs.Buffers as call
use Rattle.stand_ins.proofs.Says.{Says, SaysTwo}

module _ {M : Type 1} {𝓤 : Ura M} (𝓛 : Logic 𝓤) (mem : Memory → SProp 𝓤) (run : Routine → Fun 𝓤) where
  pub mixer-c-says : Says 𝓤 mixer-c.ended (mixer-c.clauses 𝓛 mem run) (λ κs a r e. (call.mixer-c).Promise (record { rows = a.0; i = a.1.0.now; q = a.1.1.0.now; numbers = a.1.1.1.0.now; offsets = a.1.1.1.1.0.now }) (record { code = r; i = e.1.0.now; q = e.1.1.0.now }))
  mixer-c-says κs a g r e = (refl, refl)

  pub iir-c-says : Says 𝓤 iir-c.ended (iir-c.clauses 𝓛 mem run) (λ κs a r e. (call.iir-c).Promise (record { rows = a.0; i = a.1.0.now; q = a.1.1.0.now; numbers = a.1.1.1.0.now; offsets = [] }) (record { code = r; i = e.1.0.now; q = e.1.1.0.now }))
  iir-c-says κs a g r e = (refl, refl)

  pub fir-c-says : Says 𝓤 fir-c.ended (fir-c.clauses 𝓛 mem run) (λ κs a r e. (call.fir-c).Promise (record { rows = a.0; i = a.1.0.now; q = a.1.1.0.now; numbers = a.1.1.1.0.now; offsets = [] }) (record { code = r; i = e.1.0.now; q = e.1.1.0.now }))
  fir-c-says κs a g r e = (refl, refl)

  pub filter-says : Says 𝓤 filter.ended (filter.clauses 𝓛 mem run) (λ κs a r e. (call.filter).Promise (record { row = a.0.now; taps = a.1.0.now }) e.0.now)
  filter-says κs a g r e = (refl, refl)

  pub plateau-says : SaysTwo 𝓤 add-plateau.ended (add-plateau.clauses 𝓛 mem run)
      (λ κs a r e. call.PlateauI (record { rows = a.0; i = a.1.0.now; q = a.1.1.0.now; start = a.1.1.1.0; count = a.1.1.1.1.0; carrier = a.1.1.1.1.1.0; rotation = a.1.1.1.1.1.1.0 }) (record { i = e.1.0.now; q = e.1.1.0.now }))
      (λ κs a r e. call.PlateauQ (record { rows = a.0; i = a.1.0.now; q = a.1.1.0.now; start = a.1.1.1.0; count = a.1.1.1.1.0; carrier = a.1.1.1.1.1.0; rotation = a.1.1.1.1.1.1.0 }) (record { i = e.1.0.now; q = e.1.1.0.now }))
  plateau-says κs a g r e = (refl, refl)

  pub plateau-c-says : SaysTwo 𝓤 add-plateau-c.ended (add-plateau-c.clauses 𝓛 mem run)
      (λ κs a r e. call.PlateauI (record { rows = a.0; i = a.1.0.now; q = a.1.1.0.now; start = a.1.1.1.0; count = a.1.1.1.1.0; carrier = record { re = a.1.1.1.1.1.0; im = a.1.1.1.1.1.1.0 }; rotation = record { re = a.1.1.1.1.1.1.1.0; im = a.1.1.1.1.1.1.1.1.0 } }) (record { i = e.1.0.now; q = e.1.1.0.now }))
      (λ κs a r e. call.PlateauQ (record { rows = a.0; i = a.1.0.now; q = a.1.1.0.now; start = a.1.1.1.0; count = a.1.1.1.1.0; carrier = record { re = a.1.1.1.1.1.0; im = a.1.1.1.1.1.1.0 }; rotation = record { re = a.1.1.1.1.1.1.1.0; im = a.1.1.1.1.1.1.1.1.0 } }) (record { i = e.1.0.now; q = e.1.1.0.now }))
  plateau-c-says κs a g r e = (refl, refl)

  pub envelope-added-says : SaysTwo 𝓤 add-envelope.ended (add-envelope.clauses 𝓛 mem run)
      (λ κs a r e. call.EnvelopeI (record { rows = a.0; i = a.1.0.now; q = a.1.1.0.now; start = a.1.1.1.0; points = a.1.1.1.1.0.now; amp = a.1.1.1.1.1.0; drag = a.1.1.1.1.1.1.0; carrier = a.1.1.1.1.1.1.1.0; rotation = a.1.1.1.1.1.1.1.1.0 }) (record { i = e.1.0.now; q = e.1.1.0.now }))
      (λ κs a r e. call.EnvelopeQ (record { rows = a.0; i = a.1.0.now; q = a.1.1.0.now; start = a.1.1.1.0; points = a.1.1.1.1.0.now; amp = a.1.1.1.1.1.0; drag = a.1.1.1.1.1.1.0; carrier = a.1.1.1.1.1.1.1.0; rotation = a.1.1.1.1.1.1.1.1.0 }) (record { i = e.1.0.now; q = e.1.1.0.now }))
  envelope-added-says κs a g r e = (refl, refl)

  pub lay-says : Says 𝓤 lay.ended (lay.clauses 𝓛 mem run) (λ κs a r e. (call.lay).Promise (record { part = a.0.now; start = a.1.0; step = a.1.1.0 }) e.0.now)
  lay-says κs a g r e = (refl, refl)

  pub spline-over-says : Says 𝓤 spline-over.ended (spline-over.clauses 𝓛 mem run) (λ κs a r e. (call.spline-over).Promise (record { part = a.0.now; row = a.1.0.now }) e.0.now)
  spline-over-says κs a g r e = (refl, refl)

  pub spline-c-says : Says 𝓤 spline-c.ended (spline-c.clauses 𝓛 mem run) (λ κs a r e. (call.spline-over).Promise (record { part = a.0.now; row = a.1.0.now }) e.0.now)
  spline-c-says κs a g r e = (refl, refl)

  pub envelope-says : SaysTwo 𝓤 envelope.ended (envelope.clauses 𝓛 mem run)
      (λ κs a r e. call.PointsAnswer (record { bent = record { shape = a.0; numbers = a.1.0.now; curve = record { width = a.1.1.0.0; plateau = a.1.1.1.0.0; offset = a.1.1.1.1.0; rate = a.1.1.1.1.1.0.0; dt = a.1.1.1.1.1.1.0.0; room = a.1.1.1.1.1.1.1.0 } }; scratch = a.1.1.1.1.1.1.1.1.0.now }) (record { answer = r; scratch = e.1.1.1.1.1.1.1.1.0.now }))
      (λ κs a r e. call.PointsLaid (record { bent = record { shape = a.0; numbers = a.1.0.now; curve = record { width = a.1.1.0.0; plateau = a.1.1.1.0.0; offset = a.1.1.1.1.0; rate = a.1.1.1.1.1.0.0; dt = a.1.1.1.1.1.1.0.0; room = a.1.1.1.1.1.1.1.0 } }; scratch = a.1.1.1.1.1.1.1.1.0.now }) (record { answer = r; scratch = e.1.1.1.1.1.1.1.1.0.now }))
  envelope-says κs a g r e = (refl, refl)

  pub sum-lists-says : Says 𝓤 sum-lists.ended (sum-lists.clauses 𝓛 mem run) (λ κs a r e. (call.sum-lists).Promise (record { tables = a.0; taking = a.1.0; pulses = a.1.1.0.now; work = a.1.1.1.0.now; marks = a.1.1.1.1.0.now }) (gathered e.1.1.1.0.now e.1.1.1.1.0.now r))
  sum-lists-says κs a g r e = (refl, refl)

  pub mix-lists-says : SaysTwo 𝓤 mix-lists.ended (mix-lists.clauses 𝓛 mem run)
      (λ κs a r e. call.MixedOut (record { settings = a.0; tables = a.1.0; taking = a.1.1.0; ends = a.1.1.1.0; bins = a.1.1.1.1.0.now; work = a.1.1.1.1.1.0.now; marks = a.1.1.1.1.1.1.0.now; rows = a.1.1.1.1.1.1.1.0; lent = rowed a.1.1.1.1.1.1.1.1.0.now a.1.1.1.1.1.1.1.1.1.0.now a.1.1.1.1.1.1.1.1.1.1.0.now }) (record { out = out r (rowed e.1.1.1.1.1.1.1.1.0.now e.1.1.1.1.1.1.1.1.1.0.now e.1.1.1.1.1.1.1.1.1.1.0.now); work = e.1.1.1.1.1.0.now; marks = e.1.1.1.1.1.1.0.now }))
      (λ κs a r e. call.MixedStay (record { settings = a.0; tables = a.1.0; taking = a.1.1.0; ends = a.1.1.1.0; bins = a.1.1.1.1.0.now; work = a.1.1.1.1.1.0.now; marks = a.1.1.1.1.1.1.0.now; rows = a.1.1.1.1.1.1.1.0; lent = rowed a.1.1.1.1.1.1.1.1.0.now a.1.1.1.1.1.1.1.1.1.0.now a.1.1.1.1.1.1.1.1.1.1.0.now }) (record { out = out r (rowed e.1.1.1.1.1.1.1.1.0.now e.1.1.1.1.1.1.1.1.1.0.now e.1.1.1.1.1.1.1.1.1.1.0.now); work = e.1.1.1.1.1.0.now; marks = e.1.1.1.1.1.1.0.now }))
  mix-lists-says κs a g r e = (refl, refl)
