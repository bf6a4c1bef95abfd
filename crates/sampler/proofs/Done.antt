-- A sampling call that is done: its settings fit, its sizes fit, its plan is accepted, and it is `each_pulse`. Assumes nothing.
use Rattle.quant.specs.Refusal.{refuse}
use Rattle.std.specs.Prelude.{Option, Some, None, Ok}
use Prim.Native.Nat.{ℕ}
use native.Mathlib.Omega.{arith}
use mathlib.Core.Path.{◌≡◌, refl, sym, ◌∙◌}
use mathlib.Core.Bool.{Bool, true, false, true≢false}
use mathlib.Core.List.{List}
use lib.Ieee.{Float}
use lib.ListN.{length}
use Rattle.naming.specs.declared.Name.{Name}
use Rattle.quant.specs.declared.refusal.Refusal.{Refusal}
use Rattle.quant.specs.declared.settings.Settings.{Settings}
use Rattle.quant.specs.Settings.{fitting_of}
use Rattle.pulse.specs.declared.list.Pulse.{Pulse}
use Rattle.tables.specs.declared.Tables.{Tables}
use Rattle.crosstalk.specs.declared.names.Crosstalk.{Crosstalk}
use Rattle.crosstalk.specs.Crosstalk.{Plan, planned, is_refused, taking_of, plan_answer}
use Rattle.crosstalk.proofs.Laws.{Way, wrong_size, malformed, at-fault, unknown, accepted, way}
use Rattle.mixdown.specs.Sampled.{Rowed}
use Rattle.sampler.specs.declared.Request.{Request}
use Rattle.sampler.specs.Sizes.{sizes_fit}
use Rattle.sampler.specs.Sampler.{each_pulse, by_clock, sampled}

-- a refused plan is not done
module _ (t : Tables) (channel : Name) (c : Crosstalk) (factors : List Float) where
  pub plan-told : (n : ℕ) → plan_answer (planned t channel c factors) ≡ Ok n → is_refused (planned t channel c factors) ≡ false
  plan-told n e = by (planned t channel c factors) (way t channel c factors) e
    where
      not_done : {r : Refusal} {k : ℕ} → refuse r k ≡ Ok n → true ≡ false
      not_done f = let z : ◌≡◌ {A = ℕ} 0 1 = cc in absurd (omega arith)

      by : (p : Plan) → Way t channel c factors p → plan_answer p ≡ Ok n → is_refused p ≡ false
      by p (wrong_size _) f = not_done f
      by p (malformed _ _) f = not_done f
      by p (at-fault _ _ _ _ _) f = not_done f
      by p (unknown _ _ _ _) f = not_done f
      by p (accepted _) f = refl

module _ (t : Tables) (r : Request) (c : Crosstalk) (factors : List Float) (bins : List (List Float)) (pulses : List Pulse) (st : Rowed) (work : List (List Float)) (marks : List ℕ) where
  abbrev sized : Bool
  sized = sizes_fit r.rows (length st.i) (length st.q) (length st.scratch) (length bins) (length pulses) (length work) (length marks)

  pub record Accepted : Type 0 where
    pub settings : Settings
    pub fit : fitting_of r.rate r.delay r.level ≡ Some settings
    pub sizes : sized ≡ true
    pub plan : is_refused (planned t r.channel c factors) ≡ false
    pub is : sampled t r c factors bins pulses st work marks ≡ each_pulse t r bins pulses st work marks settings (taking_of (planned t r.channel c factors))

  -- the same, of the flags
  by_flags : (s : Settings) (n : ℕ) (b d : Bool) → fitting_of r.rate r.delay r.level ≡ Some s → sized ≡ b → is_refused (planned t r.channel c factors) ≡ d
      → (by_clock t r bins pulses st work marks c factors (Some s)).answer ≡ Ok n → Accepted
  unfolding sampled
  by_flags s n false d f g h e = let z : ◌≡◌ {A = ℕ} 0 1 = let no = rw g at e in cc in absurd (omega arith)
  by_flags s n true true f g h e =
      let told : plan_answer (planned t r.channel c factors) ≡ Ok n = rw (g, h) at e in
      let ok = plan-told t r.channel c factors n told in
      absurd (true≢false (sym h ∙ ok))
  by_flags s n true false f g h e = record { settings = s; fit = f; sizes = g; plan = h; is = rw (f, g, h) refl }

  pub call-done : (n : ℕ) → (sampled t r c factors bins pulses st work marks).answer ≡ Ok n → Accepted
  unfolding sampled
  call-done n e = by (fitting_of r.rate r.delay r.level) refl e
    where
      by : (f : Option Settings) → fitting_of r.rate r.delay r.level ≡ f → (by_clock t r bins pulses st work marks c factors f).answer ≡ Ok n → Accepted
      by None h g = let z : ◌≡◌ {A = ℕ} 0 1 = cc in absurd (omega arith)
      by (Some s) h g = by_flags s n sized (is_refused (planned t r.channel c factors)) h refl refl g
