-- The two ways of a sampling call: refused before the first pulse, and then all is as it came; or its settings, sizes and plan are accepted, and its
-- rows are the rows before plus its first pulses. With the unit matrix the call is the one without crosstalk, bit for bit. Assumes nothing.
use Rattle.quant.specs.Refusal.{Answer, refuse}
use Rattle.std.specs.Prelude.{Option, Some, None, Ok}
use Prim.Native.Nat.{ℕ}
use native.Mathlib.Omega.{arith}
use mathlib.Core.Path.{◌≡◌, refl, sym, ap, subst, ◌∙◌}
use mathlib.Core.Bool.{Bool, true, false, cond, true≢false}
use mathlib.Core.List.{List}
use lib.Ieee.{Float}
use lib.ListN.{length}
use Rattle.quant.specs.declared.refusal.Refusal.TheVariants as why
use Rattle.quant.specs.declared.settings.Settings.{Settings}
use Rattle.quant.specs.Settings.{fitting_of}
use Rattle.pulse.specs.declared.list.Pulse.{Pulse}
use Rattle.tables.specs.declared.Tables.{Tables}
use Rattle.merge.specs.Taking.{Part, packed, parts_in}
use Rattle.crosstalk.specs.declared.names.Crosstalk.{Crosstalk}
use Rattle.crosstalk.specs.Crosstalk.{Plan, parts_for, accepted_plan, planned, own_parts, is_refused, taking_of, plan_answer}
use Rattle.crosstalk.proofs.Laws.{Passes, accepted-is, UnitMatrix, unit-own}
use Rattle.mixdown.specs.Bins.{bins_by, merged_of}
use Rattle.mixdown.specs.Sampled.{Rowed, out}
use Rattle.sampler.specs.declared.Request.{Request}
use Rattle.sampler.specs.Sizes.{sizes_fit}
use Rattle.sampler.specs.Sampler.{Left, left, by_plan, by_clock, sampled}
use Rattle.sampler.proofs.Done.{Accepted, plan-told}
use Rattle.sampler_laws.specs.Added.{all_dues}
use Rattle.sampler_laws.proofs.Added.{First, bins-first}

module _ (t : Tables) (r : Request) (c : Crosstalk) (factors : List Float) (bins : List (List Float)) (pulses : List Pulse) (st : Rowed) (work : List (List Float)) (marks : List ℕ) where
  abbrev result : Left
  result = sampled t r c factors bins pulses st work marks

  abbrev plan : Plan
  plan = planned t r.channel c factors

  abbrev sized : Bool
  sized = sizes_fit r.rows (length st.i) (length st.q) (length st.scratch) (length bins) (length pulses) (length work) (length marks)

  -- ---- the two ways
  pub data Way : Type 0 where
    before : (a : Answer) → sampled t r c factors bins pulses st work marks ≡ left a st work marks → ((n : ℕ) → a ≡ Ok n → ⊥) → Way
    onward : Accepted t r c factors bins pulses st work marks → Way

  by_flags : (s : Settings) (b d : Bool) → fitting_of r.rate r.delay r.level ≡ Some s → sized ≡ b → is_refused plan ≡ d → Way
  unfolding sampled
  by_flags s false d f g h = before (refuse why.WrongSize 0) (rw (f, g) refl) (λ n e. let z : ◌≡◌ {A = ℕ} 0 1 = cc in omega arith)
  by_flags s true true f g h = before (plan_answer plan) (rw (f, g, h) refl) (λ n e. let k = plan-told t r.channel c factors n e in let z : true ≡ false = sym h ∙ k in true≢false z)
  by_flags s true false f g h = onward (record { settings = s; fit = f; sizes = g; plan = h; is = rw (f, g, h) refl })

  unfit-way : fitting_of r.rate r.delay r.level ≡ None → Way
  unfolding sampled
  unfit-way e = before (refuse why.Unfit 0) (rw e refl) (λ n f. let z : ◌≡◌ {A = ℕ} 0 1 = cc in omega arith)

  pub way : Way
  way = by (fitting_of r.rate r.delay r.level) refl
    where
      by : (f : Option Settings) → fitting_of r.rate r.delay r.level ≡ f → Way
      by None e = unfit-way e
      by (Some s) e = by_flags s sized (is_refused plan) e refl refl

  -- ---- its rows
  pub rows-added : (a : Accepted t r c factors bins pulses st work marks) → First a.settings r.rows (all_dues (merged_of t bins pulses (parts_in (taking_of plan))) (bins_by t bins (parts_in (taking_of plan)))) 0 st (out result.answer result.rows)
  rows-added a = subst (λ (l : Left). First a.settings r.rows (all_dues (merged_of t bins pulses (parts_in (taking_of plan))) (bins_by t bins (parts_in (taking_of plan)))) 0 st (out l.answer l.rows)) (sym a.is) (bins-first a.settings r.rows (merged_of t bins pulses (parts_in (taking_of plan))) (bins_by t bins (parts_in (taking_of plan))) 0 st)

-- ---- the unit matrix

module _ (t : Tables) (r : Request) (c e : Crosstalk) (factors others : List Float) (bins : List (List Float)) (pulses : List Pulse) (st : Rowed) (work : List (List Float)) (marks : List ℕ) where
  -- two plans that are one make one call
  same-call : planned t r.channel c factors ≡ planned t r.channel e others → sampled t r c factors bins pulses st work marks ≡ sampled t r e others bins pulses st work marks
  unfolding sampled
  same-call h = by (fitting_of r.rate r.delay r.level)
    where
      by : (f : Option Settings) → by_clock t r bins pulses st work marks c factors f ≡ by_clock t r bins pulses st work marks e others f
      by None = refl
      by (Some s) = ap (λ (p : Plan). cond (sizes_fit r.rows (length st.i) (length st.q) (length st.scratch) (length bins) (length pulses) (length work) (length marks)) (by_plan t r bins pulses st work marks s p) (left (refuse why.WrongSize 0) st work marks)) h

  -- both calls pass their checks; one has the unit matrix, the other does not name the channel (or has the unit matrix too)
  pub unit-changes-nothing : Passes t r.channel c factors → length c.names ≡ 8 → UnitMatrix c.count factors → Passes t r.channel e others → parts_for t r.channel e others ≡ own_parts t r.channel
      → sampled t r c factors bins pulses st work marks ≡ sampled t r e others bins pulses st work marks
  unit-changes-nothing p long unit q own =
      same-call (accepted-is t r.channel c factors p ∙ ap (λ (ps : List Part). accepted_plan (packed ps)) (unit-own t r.channel c factors p.fits long unit ∙ sym own) ∙ sym (accepted-is t r.channel e others q))
