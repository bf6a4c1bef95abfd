-- The sampling call: refused before its first pulse, all is as it came; accepted, or refused at a pulse, its rows are those before plus the pulses
-- that it counts. By its checks in order, and then the laws of `sampler_laws`. Assumes nothing.
use Rattle.std.specs.Prelude.{Option, Some, None, Ok, Err}
use Prim.Native.Nat.{ℕ, ◌+◌}
use native.Mathlib.Omega.{arith}
use mathlib.Core.Path.{◌≡◌, refl, sym, ap, subst, ◌∙◌}
use mathlib.Core.Bool.{Bool, true, false, ◌&&◌, true≢false}
use mathlib.Core.List.{List, [], ◌∷◌}
use lib.Ieee.{Float, binary64, div}
use lib.Ieee.Scale.{finite}
use lib.ListN.{length, take}
use Rattle.exact.specs.Doubles.{one}
use Rattle.exact.specs.Among.{among}
use Rattle.quant.specs.declared.refusal.Refusal.{Refusal}
use Rattle.quant.specs.declared.refusal.Refusal.TheVariants as why
use Rattle.quant.specs.declared.settings.Settings.{Settings}
use Rattle.quant.specs.Refusal.{number_of, Answer, refuse}
use Rattle.quant.specs.Settings.{is_rate, is_level, fitting, fitting_of}
use Rattle.crosstalk.specs.declared.names.Crosstalk.{Crosstalk}
use Rattle.crosstalk.specs.Crosstalk.{Plan, names_in, planned, is_refused, plan_answer}
use Rattle.crosstalk.specs.Faults.{AtFault, doubled, no-list}
use Rattle.crosstalk.proofs.Laws.{Way, wrong_size, malformed, at-fault, unknown, accepted, way}
use Rattle.mixdown.specs.Bins.{bins_by, merged_of}
use Rattle.mixdown.specs.Sampled.{out}
use Rattle.sampler.specs.declared.Request.{Request}
use Rattle.sampler.specs.Prepared.{settings_of}
use Rattle.sampler.specs.Sizes.{sizes_fit}
use Rattle.sampler.specs.Sampler.{Left, left, sampled}
use Rattle.sampler.proofs.Done.{Accepted}
use Rattle.sampler_laws.specs.Added.{with_all, count_in}
use Rattle.sampler_laws.proofs.Added.{First}
use Rattle.sampler_laws.proofs.Calls.{rows-added}
use Rattle.system.specs.System.{State, with_lent, has_sampled}
use Rattle.system.specs.Said.{parts_of, pulses_of, with_pulses, verdict, before-any, at_name, at_one, SampleSaid}
use Rattle.system.proofs.Verdict.{fewer, bins-verdict}

-- settings that fit are those of the request
pub settings-are : (r : Request) (s : Settings) → fitting_of r.rate r.delay r.level ≡ Some s → s ≡ settings_of r
settings-are r s e = go (is_rate r.rate.0 && finite (div binary64 one r.rate.0) && finite r.delay.0 && is_level r.level) e
  where
    go : (b : Bool) → fitting b r.rate r.delay r.level ≡ Some s → s ≡ settings_of r
    go true f = cc
    go false f = let z : ◌≡◌ {A = ℕ} 0 1 = cc in absurd (omega arith)

module _ (s : State) (r : Request) (c : Crosstalk) (factors : List Float) where
  abbrev result : Left
  result = sampled s.tables r c factors s.bins s.pulses s.rows s.work s.marks

  abbrev plan : Plan
  plan = planned s.tables r.channel c factors

  abbrev sized : Bool
  sized = sizes_fit r.rows (length s.rows.i) (length s.rows.q) (length s.rows.scratch) (length s.bins) (length s.pulses) (length s.work) (length s.marks)

  abbrev Said : Left → Type 0
  Said x = SampleSaid s r c factors (has_sampled s x).answer (has_sampled s x).after

  -- ---- before the first pulse

  abbrev came : Answer → Left
  came a = left a s.rows s.work s.marks

  plan-said : (z : Settings) → fitting_of r.rate r.delay r.level ≡ Some z → sized ≡ true → is_refused plan ≡ true → Said (came (plan_answer plan))
  unfolding among
  plan-said z fit sizes e = by plan (way s.tables r.channel c factors) e
    where
      named : (q : Refusal) (i : ℕ) → AtFault s.tables (names_in c) i q → among (17 ∷ 18 ∷ []) (number_of q) ≡ true
      named q i (doubled _) = refl
      named q i (no-list _ _) = refl

      by : (p : Plan) → Way s.tables r.channel c factors p → is_refused p ≡ true → Said (came (plan_answer p))
      by p (wrong_size _) f = before-any (record { number = refl; place = refl; left = refl })
      by p (malformed _ _) f = before-any (record { number = refl; place = refl; left = refl })
      by p (at-fault each-factor fine q k first) f =
          at_name
          (record { fit = fit ∙ ap Some (settings-are r z fit); sizes = sizes; each-factor = each-factor; fine = fine; first = first })
          (record { number = named q first.place first.fault; place = refl; left = refl })
      by p (unknown _ _ _ _) f = before-any (record { number = refl; place = refl; left = refl })
      by p (accepted _) f = absurd (true≢false (sym f))

  -- ---- from the first pulse on

  module _ (a : Accepted s.tables r c factors s.bins s.pulses s.rows s.work s.marks) where
    fit : a.settings ≡ settings_of r
    fit = settings-are r a.settings a.fit

    -- the verdict on its pulses
    pub told-so : result.answer ≡ verdict (settings_of r) (length s.rows.i) (pulses_of s r c factors) 0
    told-so =
        let parts = parts_of s r c factors in
        ap (λ (x : Left). x.answer) a.is
        ∙ bins-verdict a.settings r.rows (merged_of s.tables s.bins s.pulses parts) (bins_by s.tables s.bins parts) 0 s.rows
        ∙ ap (λ (x : Settings). verdict x (length s.rows.i) (pulses_of s r c factors) 0) fit

    -- the first pulses, as many as are added
    abbrev added : First a.settings r.rows (pulses_of s r c factors) 0 s.rows (out result.answer result.rows)
    added = rows-added s.tables r c factors s.bins s.pulses s.rows s.work s.marks a

    -- what remains
    remain : (k : ℕ) → added.many ≡ k → (has_sampled s result).after ≡ with_pulses s r c factors k
    remain k many =
        let rows =
        added.rows_are
        ∙ ap (λ (x : Settings). with_all x r.rows (take added.many (pulses_of s r c factors)) s.rows) fit
        ∙ ap (λ (n : ℕ). with_all (settings_of r) r.rows (take n (pulses_of s r c factors)) s.rows) many in
        let work = ap (λ (x : Left). x.work) a.is in
        let marks = ap (λ (x : Left). x.marks) a.is in
        λ j. with_lent s (rows j) (work j) (marks j)

    by_answer : (x : Answer) → result.answer ≡ x → SampleSaid s r c factors x (has_sampled s result).after
    by_answer (Ok k) e =
        let whole = added.all_if_done k e in
        let counted : k ≡ 0 + added.many = sym (ap count_in e) ∙ added.counted in
        record { count = omega (arith, whole, counted); left = remain k (omega (arith, counted)); none = sym told-so ∙ e }
    by_answer (Err x) e =
        let counted : x.place ≡ 0 + added.many = sym (ap count_in e) ∙ added.counted in
        let first = sym told-so ∙ e in
        let g = fewer (settings_of r) (length s.rows.i) (pulses_of s r c factors) 0 x.why x.place first in
        at_one (record { number = g.number; place = let h = g.place in omega (arith, h); remain = remain x.place (omega (arith, counted)); first = first })

  -- ---- its checks in order

  by_flags : (z : Settings) (b d : Bool) → fitting_of r.rate r.delay r.level ≡ Some z → sized ≡ b → is_refused plan ≡ d → Said result
  unfolding sampled among
  by_flags z false d f g h =
      let is : result ≡ came (refuse why.WrongSize 0) = rw (f, g) refl in
      subst Said (sym is) (before-any (record { number = refl; place = refl; left = refl }))
  by_flags z true true f g h =
      let is : result ≡ came (plan_answer plan) = rw (f, g, h) refl in
      subst Said (sym is) (plan-said z f g h)
  by_flags z true false f g h = by_answer (record { settings = z; fit = f; sizes = g; plan = h; is = rw (f, g, h) refl }) result.answer refl

  pub sample-said : Said result
  unfolding sampled among
  sample-said = by (fitting_of r.rate r.delay r.level) refl
    where
      by : (f : Option Settings) → fitting_of r.rate r.delay r.level ≡ f → Said result
      by None e =
          let is : result ≡ came (refuse why.Unfit 0) = rw e refl in
          subst Said (sym is) (before-any (record { number = refl; place = refl; left = refl }))
      by (Some z) e = by_flags z sized (is_refused plan) e refl refl
