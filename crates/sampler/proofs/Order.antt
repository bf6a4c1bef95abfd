-- Judged first and sampled then is the order of document 01. Assumes nothing.
use Rattle.quant.specs.declared.refusal.Refused.{Refused}
use Rattle.std.specs.Prelude.{Result, Ok, Err}
use Rattle.quant.specs.Refusal.{refuse}
use Prim.Native.Nat.{ℕ, ◌≤◌}
use native.Mathlib.Omega.{arith}
use mathlib.Core.Path.{◌≡◌, refl, sym, ap, ◌∙◌}
use mathlib.Core.Bool.{Bool, true, false, cond, ◌&&◌}
use lib.Dec.{leb, eqb}
use borrow.Author.Tests.{leb-true, eqb-true}
use mathlib.Core.List.{List}
use lib.Ieee.{Float, binary64, div}
use lib.Ieee.Scale.{finite}
use lib.ListN.{length}
use Rattle.exact.specs.Doubles.{one}
use Rattle.exact.proofs.Truth.{both}
use Rattle.quant.specs.Settings.{is_rate, is_level, fitting}
use Rattle.pulse.specs.declared.list.Pulse.{Pulse}
use Rattle.tables.specs.declared.Tables.{Tables}
use Rattle.rows.specs.Rows.{rows_fit}
use Rattle.naming.specs.declared.Name.{Name}
use Rattle.merge.specs.Taking.{packed, parts_in}
use Rattle.merge.specs.Work as Work
use Rattle.merge.specs.Work.{Gathered, gathered_of}
use Rattle.crosstalk.specs.declared.names.Crosstalk.{Crosstalk}
use Rattle.crosstalk.specs.Crosstalk.{Plan, planned, is_refused, taking_of, plan_answer}
use Rattle.crosstalk.proofs.Laws.{passed-all, accepted-is, plan-parts}
use Rattle.mixdown.specs.Sampled.{Rowed, Out, mixed_down}
use Rattle.mixdown.proofs.Whole.{mixed-whole}
use Rattle.quant.specs.declared.refusal.Refusal.TheVariants as why
use Rattle.sampler.specs.declared.Request.{Request}
use Rattle.sampler.specs.declared.Prepared.{Prepared}
use Rattle.sampler.specs.Sizes.{sizes_fit}
use Rattle.sampler.specs.Sampler.{left, each_pulse, by_plan, by_clock, sampled}
use Rattle.sampler.specs.Prepared.{settings_of, fits, refused_before, prepared_by, prepared_of, each_mixed, sampled_by}

-- ---- the sizes, one by one

pub record Sized (rows i q scratch bins pulses work marks : ℕ) : Type 0 where
  pub its-rows : rows_fit rows i q ≡ true
  pub long : i ≤ scratch
  pub its-bins : bins ≡ 512
  pub its-pulses : pulses ≡ 8192
  pub its-work : work ≡ 8192
  pub its-marks : marks ≡ 8192

pub fitting-sizes : (rows i q scratch bins pulses work marks : ℕ) → sizes_fit rows i q scratch bins pulses work marks ≡ true → Sized rows i q scratch bins pulses work marks
fitting-sizes rows i q scratch bins pulses work marks e =
    let a = both (rows_fit rows i q && leb i scratch && eqb bins 512 && eqb pulses 8192 && eqb work 8192) (eqb marks 8192) e in
    let b = both (rows_fit rows i q && leb i scratch && eqb bins 512 && eqb pulses 8192) (eqb work 8192) a.0 in
    let d = both (rows_fit rows i q && leb i scratch && eqb bins 512) (eqb pulses 8192) b.0 in
    let f = both (rows_fit rows i q && leb i scratch) (eqb bins 512) d.0 in
    let g = both (rows_fit rows i q) (leb i scratch) f.0 in
    record {
      its-rows = g.0;
      long = leb-true i scratch g.1;
      its-bins = eqb-true bins 512 f.1;
      its-pulses = eqb-true pulses 8192 d.1;
      its-work = eqb-true work 8192 b.1;
      its-marks = eqb-true marks 8192 a.1;
    }

-- at most eight lists take part
pub few-taken : (t : Tables) (channel : Name) (c : Crosstalk) (factors : List Float) → is_refused (planned t channel c factors) ≡ false → (taking_of (planned t channel c factors)).count ≤ 8
unfolding packed
few-taken t channel c factors ok =
    let k = plan-parts t channel c factors ok in
    let is = accepted-is t channel c factors (passed-all t channel c factors ok) in
    rw is k.few

-- ---- the order

module _ (t : Tables) (r : Request) (c : Crosstalk) (factors : List Float) (bins : List (List Float)) (pulses : List Pulse) (st : Rowed) (work : List (List Float)) (marks : List ℕ) where
  abbrev sized : Bool
  sized = sizes_fit r.rows (length st.i) (length st.q) (length st.scratch) (length bins) (length pulses) (length work) (length marks)

  abbrev pub prepared : Result Prepared Refused
  prepared = prepared_of t r c factors (length bins) (length pulses) (length st.i) (length st.q) (length st.scratch) (length work) (length marks)

  abbrev plan : Plan
  plan = planned t r.channel c factors

  -- where the sizes fit and the plan is accepted, the pulses out of the work rows are the document's
  mixed-is : sized ≡ true → is_refused plan ≡ false → each_mixed t r bins pulses st work marks (settings_of r) (taking_of plan) ≡ each_pulse t r bins pulses st work marks (settings_of r) (taking_of plan)
  mixed-is e ok =
      let f = fitting-sizes r.rows (length st.i) (length st.q) (length st.scratch) (length bins) (length pulses) (length work) (length marks) e in
      let k = plan-parts t r.channel c factors ok in
      let many = ap length k.parts in
      let room : Work.sizes_fit (length pulses) (length work) (length marks) ≡ true = rw (f.its-pulses, f.its-work, f.its-marks) refl in
      let whole = mixed-whole (settings_of r) t (taking_of plan) bins pulses work marks r.rows st (few-taken t r.channel c factors ok) (omega (arith, many, k.few)) f.its-bins f.its-work f.its-marks f.its-rows f.long in
      rw (room, whole) refl

  -- once the flag of the sizes is known, and that of the clock, both compute
  by_size : (size : Bool) → sized ≡ size → sampled_by t r bins pulses st work marks (cond size (prepared_by r plan) (refused_before why.WrongSize))
      ≡ cond size (by_plan t r bins pulses st work marks (settings_of r) plan) (left (refuse why.WrongSize 0) st work marks)
  by_size false e = refl
  by_size true e = by_way plan ∙ go (is_refused plan) refl
    where
      by_way : (p : Plan) → sampled_by t r bins pulses st work marks (prepared_by r p)
          ≡ cond (is_refused p) (left (plan_answer p) st work marks) (each_mixed t r bins pulses st work marks (settings_of r) (taking_of p))
      by_way (Ok taking) = refl
      by_way (Err x) = refl

      go : (b : Bool) → is_refused plan ≡ b → cond b (left (plan_answer plan) st work marks) (each_mixed t r bins pulses st work marks (settings_of r) (taking_of plan)) ≡ cond b (left (plan_answer plan) st work marks) (each_pulse t r bins pulses st work marks (settings_of r) (taking_of plan))
      go true f = refl
      go false f = mixed-is e f

  by_flags : (clock : Bool) → sampled_by t r bins pulses st work marks
      (cond (fits (fitting clock r.rate r.delay r.level)) (cond sized (prepared_by r plan) (refused_before why.WrongSize)) (refused_before why.Unfit))
      ≡ by_clock t r bins pulses st work marks c factors (fitting clock r.rate r.delay r.level)
  by_flags true = by_size sized refl
  by_flags false = refl

  pub in_order : sampled_by t r bins pulses st work marks prepared ≡ sampled t r c factors bins pulses st work marks
  unfolding sampled prepared_of
  in_order = by_flags (is_rate r.rate.0 && finite (div binary64 one r.rate.0) && finite r.delay.0 && is_level r.level)

  -- what `sample` leaves at its two ends
  pub was-refused : (e : Refused) → prepared ≡ Err e → left (Err e) st work marks ≡ sampled t r c factors bins pulses st work marks
  was-refused e is = ap (sampled_by t r bins pulses st work marks) (sym is) ∙ in_order

  -- the rows and marks are the gathered ones, and the mixing left them
  pub was-mixed : (p : Prepared) → prepared ≡ Ok p → (g : Gathered) → g ≡ gathered_of t (parts_in p.taking) pulses work marks
      → (o : Out) → o ≡ mixed_down p.settings t p.taking g.ends bins g.rows g.marks r.rows st
      → (ws : List (List Float)) (ms : List ℕ) → (ws ≡ g.rows) × (ms ≡ g.marks) → left o.answer o.left ws ms ≡ sampled t r c factors bins pulses st work marks
  was-mixed p is g eg o eo ws ms (ew, em) =
      (λ i. left (eo i).answer (eo i).left (ew i) (em i))
      ∙ ap (λ (h : Gathered). let m = mixed_down p.settings t p.taking h.ends bins h.rows h.marks r.rows st in left m.answer m.left h.rows h.marks) eg
      ∙ ap (sampled_by t r bins pulses st work marks) (sym is)
      ∙ in_order
