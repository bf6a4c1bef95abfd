-- A sampling call is refused by 12 exactly when the first pulse that is refused starts within the row, has no shape or a t1 that is not below 0, and its
-- end index is over the row length: from made tables, after any run of calls. For then every bin is as plays leave it (`Sound`), and so is the bin of
-- every pulse that the call judges. Of doubles, as every f64 of the code is. Assumes nothing.
use Rattle.quant.specs.Refusal.{Answer, refuse}
use Rattle.std.specs.Prelude.{Option, Some, None, Err}
use Prim.Native.Nat.{ℕ, ◌+◌, ◌*◌, ◌≤◌, ◌<◌}
use native.Mathlib.Omega.{arith}
use mathlib.Core.Path.{◌≡◌, refl, sym, ap, subst, ◌∙◌}
use mathlib.Core.Bool.{Bool, true, false}
use mathlib.Core.List.{List, [], ◌∷◌, ◌++◌}
use borrow.Author.Tests.{leb-true}
use lib.Dec.{T, leb}
use lib.Ieee.{Float, nan, binary64, fits}
use lib.ListN.{length, get_or}
use Rattle.exact.proofs.Truth.{both}
use Rattle.quant.specs.declared.refusal.Refusal.{Refusal}
use Rattle.quant.specs.declared.refusal.Refusal.TheVariants as why
use Rattle.quant.proofs.Refusals.{same-why}
use Rattle.quant.specs.declared.settings.Settings.{Settings}
use Rattle.quant.specs.Settings.{fitting_of}
use Rattle.pulse.specs.Bin.{bin_of}
use Rattle.tables.specs.Tables.{channel_at}
use Rattle.commands_laws.specs.Sound.{Sound, Reached}
use Rattle.commands_laws.proofs.Sound.{sound}
use Rattle.crosstalk.specs.declared.names.Crosstalk.{Crosstalk}
use Rattle.crosstalk.specs.Crosstalk.{Plan, names_in, planned, is_refused, plan_answer}
use Rattle.crosstalk.specs.Faults.{AtFault, doubled, no-list}
use Rattle.crosstalk.proofs.Laws.{Way, wrong_size, malformed, at-fault, unknown, accepted, way}
use Rattle.placing.specs.Judged.{judged}
use Rattle.placing.proofs.Twelve.{Over, Kept, Judgeable}
use Rattle.placing.proofs.Twelve as one
use Rattle.mixdown.specs.Bins.{bins_by, merged_of}
use Rattle.sampler.specs.declared.Request.{Request}
use Rattle.sampler.specs.Prepared.{settings_of, Passes}
use Rattle.sampler.specs.Sizes.{sizes_fit}
use Rattle.sampler.specs.Sampler.{Left, sampled}
use Rattle.sampler.proofs.Order.{fitting-sizes}
use Rattle.sampler_laws.specs.Added.{Due}
use Rattle.system.specs.System.{State, sample, outcome}
use Rattle.system.specs.Said.{parts_of, pulses_of, verdict}
use Rattle.system.proofs.Bins.{Each, each-here, parts-there, bins-each, dues_each}
use Rattle.system.proofs.Sampling.{settings-are, told-so}
use Rattle.system.proofs.Verdict.{PulseAt, first-refused, first-told}

-- ---- what the call judges

-- every number of some rows is a double
abbrev pub Doubles : List (List Float) → Type 0
Doubles rows = (i j : ℕ) → T (fits binary64 (get_or (get_or rows i []) j nan))

module _ (s : State) (r : Request) (c : Crosstalk) (factors : List Float) where
  abbrev len : ℕ
  len = length s.rows.i

  abbrev sized : Bool
  sized = sizes_fit r.rows len (length s.rows.q) (length s.rows.scratch) (length s.bins) (length s.pulses) (length s.work) (length s.marks)

  abbrev plan : Plan
  plan = planned s.tables r.channel c factors

  -- its pulses are judged
  abbrev pub Heard : Type 0
  Heard = Passes s.tables r c factors s.bins s.pulses s.rows s.work s.marks

  abbrev pub Answers : Answer → Type 0
  Answers a = (outcome s (sample r c factors)).answer ≡ a

  -- 12: pulse k is the first that is refused, and its end index is over the row length
  pub record EndsPast (k : ℕ) : Type 0 where
    pub heard : Heard
    pub pulse : PulseAt (settings_of r) len (pulses_of s r c factors) 0 k
    pub over : Over (settings_of r) pulse.this.bin pulse.this.pulse len

  -- ---- no check before the first pulse gives 12

  plan-other : (k : ℕ) → plan_answer plan ≡ refuse why.EndPastRow k → ⊥
  plan-other k e = by plan (way s.tables r.channel c factors) e
    where
      named : (q : Refusal) (i j : ℕ) → AtFault s.tables (names_in c) i q → refuse q j ≡ refuse why.EndPastRow k → ⊥
      named q i j (doubled _) f = let w = same-why _ _ _ _ f in let z : ◌≡◌ {A = ℕ} 0 1 = cc in omega arith
      named q i j (no-list _ _) f = let w = same-why _ _ _ _ f in let z : ◌≡◌ {A = ℕ} 0 1 = cc in omega arith

      by : (p : Plan) → Way s.tables r.channel c factors p → plan_answer p ≡ refuse why.EndPastRow k → ⊥
      by p (wrong_size _) f = let w = same-why _ _ _ _ f in let z : ◌≡◌ {A = ℕ} 0 1 = cc in omega arith
      by p (malformed _ _) f = let w = same-why _ _ _ _ f in let z : ◌≡◌ {A = ℕ} 0 1 = cc in omega arith
      by p (at-fault _ _ q j first) f = named q first.place j first.fault f
      by p (unknown _ _ _ _) f = let w = same-why _ _ _ _ f in let z : ◌≡◌ {A = ℕ} 0 1 = cc in omega arith
      by p (accepted _) f = let z : ◌≡◌ {A = ℕ} 0 1 = cc in omega arith

  abbrev result : Left
  result = sampled s.tables r c factors s.bins s.pulses s.rows s.work s.marks

  by_flags : (k : ℕ) (z : Settings) (b d : Bool) → fitting_of r.rate r.delay r.level ≡ Some z → sized ≡ b → is_refused plan ≡ d → result.answer ≡ refuse why.EndPastRow k → Heard
  unfolding sampled
  by_flags k z false d f g h e =
      let is : result.answer ≡ refuse why.WrongSize 0 = rw (f, g) refl in
      let no : why.WrongSize ≡ why.EndPastRow = same-why _ _ _ _ (sym is ∙ e) in
      let z : ◌≡◌ {A = ℕ} 0 1 = cc in absurd (omega arith)
  by_flags k z true true f g h e = let is : result.answer ≡ (plan_answer plan) = rw (f, g, h) refl in absurd (plan-other k (sym is ∙ e))
  by_flags k z true false f g h e = record { fit = f ∙ ap Some (settings-are r z f); sizes = g; plan = h }

  heard_twelve : (k : ℕ) → result.answer ≡ refuse why.EndPastRow k → Heard
  unfolding sampled
  heard_twelve k e = by (fitting_of r.rate r.delay r.level) refl
    where
      by : (f : Option Settings) → fitting_of r.rate r.delay r.level ≡ f → Heard
      by None f =
          let is : result.answer ≡ refuse why.Unfit 0 = rw f refl in
          let no : why.Unfit ≡ why.EndPastRow = same-why _ _ _ _ (sym is ∙ e) in
          let z : ◌≡◌ {A = ℕ} 0 1 = cc in absurd (omega arith)
      by (Some z) f = by_flags k z sized (is_refused plan) f refl refl e

  -- the call's answer is the verdict on its pulses
  verdict-told : Heard → result.answer ≡ verdict (settings_of r) len (pulses_of s r c factors) 0
  unfolding sampled
  verdict-told h = told-so s r c factors (record { settings = settings_of r; fit = h.fit; sizes = h.sizes; plan = h.plan; is = rw (h.fit, h.sizes, h.plan) refl })

  module _ (known : Sound s.tables s.bins s.pulses) (doubles : Doubles s.bins) (rate : T (fits binary64 r.rate.0)) where
    module _ (a : Heard) where
      -- every pulse's bin is as plays leave it
      pub pulse-kept : (before behind : List Due) (d : Due) → pulses_of s r c factors ≡ before ++ (d ∷ behind) → Kept d.bin
      pulse-kept before behind d are =
          let t = s.tables in
          let parts = parts_of s r c factors in
          let rows = bins-each t s.bins (λ (row : List Float). Kept (bin_of row)) at parts (parts-there t r.channel c factors a.plan) in
          let dues = dues_each (λ (row : List Float). Kept (bin_of row)) Kept (λ row h. h) (merged_of t s.bins s.pulses parts) (bins_by t s.bins parts) rows in
          each-here (λ (x : Due). Kept x.bin) before d behind (subst (Each (λ (x : Due). Kept x.bin)) are dues)
        where
          at : (i k : ℕ) → i < s.tables.count → k < (channel_at s.tables i).bins → Kept (bin_of (get_or s.bins (64 * i + k) []))
          at i k there below = record { good = known.good i k there below; width_fits = doubles (64 * i + k) 1; plateau-fits = doubles (64 * i + k) 2 }

      short : len ≤ 65536
      short =
          let z = fitting-sizes r.rows len (length s.rows.q) (length s.rows.scratch) (length s.bins) (length s.pulses) (length s.work) (length s.marks) a.sizes in
          leb-true len 65536 (both (leb len 65536) _ z.its-rows).0

      -- so it is refused by 12 only when its end index is over the row length (that it is then: `twelve_given` of `placing`)
      judgeable : (before behind : List Due) (d : Due) → pulses_of s r c factors ≡ before ++ (d ∷ behind) → Judgeable (settings_of r) d.bin len
      judgeable before behind d are =
          record { bin = pulse-kept before behind d are; fit = a.fit; rate-fits = rate; row = short }

      pub pulse_twelve : (before behind : List Due) (d : Due) → pulses_of s r c factors ≡ before ++ (d ∷ behind) → judged (settings_of r) d.bin d.numbers d.pulse len ≡ Err why.EndPastRow
          → Over (settings_of r) d.bin d.pulse len
      pulse_twelve before behind d are e = one.only_twelve (settings_of r) d.bin d.numbers d.pulse len (judgeable before behind d are) e

    -- ---- it is given nowhere else
    pub only_twelve : (k : ℕ) → Answers (refuse why.EndPastRow k) → EndsPast k
    unfolding outcome
    only_twelve k e =
        let a = heard_twelve k e in
        let f = first-refused (settings_of r) len why.EndPastRow (pulses_of s r c factors) 0 k (sym (verdict-told a) ∙ e) in
        let p = f.pulse in
        record {
          heard = a;
          pulse = p;
          over = pulse_twelve a p.before p.behind p.this p.are f.refused;
        }

  -- ---- it is given there, from any state
  pub twelve_given : (k : ℕ) → EndsPast k → Answers (refuse why.EndPastRow k)
  unfolding outcome
  twelve_given k h =
      let p = h.pulse in
      verdict-told h.heard
      ∙ first-told (settings_of r) len why.EndPastRow (pulses_of s r c factors) 0 k (record { pulse = p; refused = one.twelve_given (settings_of r) p.this.bin p.this.numbers p.this.pulse len h.over })

-- ---- from made tables, after any run of adds and command calls, accepted or refused: no other call writes tables, bins or pulses
pub from-made : (s : State) (r : Request) (c : Crosstalk) (factors : List Float) → Reached s.tables s.splines s.bins s.pulses → Doubles s.bins → T (fits binary64 r.rate.0) → (k : ℕ) → Answers s r c factors (refuse why.EndPastRow k) → EndsPast s r c factors k
from-made s r c factors h doubles rate k e = only_twelve s r c factors (sound s.tables s.splines s.bins s.pulses h) doubles rate k e
