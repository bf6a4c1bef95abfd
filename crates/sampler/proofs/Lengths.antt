-- A sampling call changes no length: not of the rows, the scratch, the work rows or the marks. Assumes nothing.
use Rattle.quant.specs.Refusal.{Answer, refuse}
use Rattle.std.specs.Prelude.{Option, Some, None}
use Prim.Native.Nat.{ℕ}
use native.Mathlib.Omega.{arith}
use mathlib.Core.Path.{◌≡◌, refl, ap}
use mathlib.Core.Bool.{Bool, true, false}
use mathlib.Core.List.{List}
use lib.Ieee.{Float}
use lib.ListN.{length}
use Rattle.quant.specs.declared.refusal.Refusal.TheVariants as why
use Rattle.quant.specs.declared.settings.Settings.{Settings}
use Rattle.quant.specs.Settings.{fitting_of}
use Rattle.pulse.specs.declared.list.Pulse.{Pulse}
use Rattle.tables.specs.declared.Tables.{Tables}
use Rattle.merge.specs.Taking.{parts_in}
use Rattle.merge.specs.Work as Work
use Rattle.crosstalk.specs.declared.names.Crosstalk.{Crosstalk}
use Rattle.crosstalk.specs.Crosstalk.{planned, is_refused, taking_of, plan_answer}
use Rattle.crosstalk.proofs.Laws.{plan-parts}
use Rattle.mixdown.specs.Bins.{bins_by, merged_of}
use Rattle.mixdown.specs.Sampled.{Rowed}
use Rattle.mixdown.proofs.Listed.{bins-like}
use Rattle.mixdown.proofs.Whole.{whole-few, rows_long, marks-long}
use Rattle.sampler.specs.declared.Request.{Request}
use Rattle.sampler.specs.Sizes.{sizes_fit}
use Rattle.sampler.specs.Sampler.{Left, left, each_pulse, by_clock, sampled}
use Rattle.sampler.proofs.Order.{fitting-sizes, few-taken}

-- what is left is as long as what was lent
pub record Long (st : Rowed) (work : List (List Float)) (marks : List ℕ) (l : Left) : Type 0 where
  pub i : length l.rows.i ≡ length st.i
  pub q : length l.rows.q ≡ length st.q
  pub scratch : length l.rows.scratch ≡ length st.scratch
  pub works : length l.work ≡ length work
  pub marking : length l.marks ≡ length marks

as_it-came : (st : Rowed) (work : List (List Float)) (marks : List ℕ) (a : Answer) → Long st work marks (left a st work marks)
as_it-came st work marks a = record { i = refl; q = refl; scratch = refl; works = refl; marking = refl }

module _ (t : Tables) (r : Request) (c : Crosstalk) (factors : List Float) (bins : List (List Float)) (pulses : List Pulse) (st : Rowed) (work : List (List Float)) (marks : List ℕ) where
  abbrev sized : Bool
  sized = sizes_fit r.rows (length st.i) (length st.q) (length st.scratch) (length bins) (length pulses) (length work) (length marks)

  -- once the sizes fit and the plan is accepted
  each_long : (s : Settings) → sized ≡ true → is_refused (planned t r.channel c factors) ≡ false → Long st work marks (each_pulse t r bins pulses st work marks s (taking_of (planned t r.channel c factors)))
  each_long s e ok =
      let taking = (taking_of (planned t r.channel c factors)) in
      let f = fitting-sizes r.rows (length st.i) (length st.q) (length st.scratch) (length bins) (length pulses) (length work) (length marks) e in
      let k = plan-parts t r.channel c factors ok in
      let many = ap length k.parts in
      let lists = few-taken t r.channel c factors ok in
      let room : Work.sizes_fit (length pulses) (length work) (length marks) ≡ true = rw (f.its-pulses, f.its-work, f.its-marks) refl in
      let few = whole-few s t taking bins pulses work marks r.rows st lists (omega (arith, many, k.few)) f.its-bins f.its-work f.its-marks f.its-rows f.long in
      let like = bins-like s r.rows (merged_of t bins pulses (parts_in taking)) few (bins_by t bins (parts_in taking)) 0 st f.long in
      record {
        i = like.i-same;
        q = like.q-same;
        scratch = like.scratch-same;
        works = rw room (rows_long s t taking bins pulses work marks r.rows st lists (omega (arith, many, k.few)) f.its-bins f.its-work f.its-marks f.its-rows f.long);
        marking = rw room (marks-long s t taking bins pulses work marks r.rows st lists (omega (arith, many, k.few)) f.its-bins f.its-work f.its-marks f.its-rows f.long);
      }

  by_flags : (s : Settings) (b d : Bool) → sized ≡ b → is_refused (planned t r.channel c factors) ≡ d → Long st work marks (by_clock t r bins pulses st work marks c factors (Some s))
  by_flags s false d e f = rw e (as_it-came st work marks (refuse why.WrongSize 0))
  by_flags s true true e f = rw (e, f) (as_it-came st work marks (plan_answer (planned t r.channel c factors)))
  by_flags s true false e f = rw (e, f) (each_long s e f)

  pub lengths-stay : Long st work marks (sampled t r c factors bins pulses st work marks)
  unfolding sampled
  lengths-stay = by (fitting_of r.rate r.delay r.level)
    where
      by : (f : Option Settings) → Long st work marks (by_clock t r bins pulses st work marks c factors f)
      by None = as_it-came st work marks (refuse why.Unfit 0)
      by (Some s) = by_flags s sized (is_refused (planned t r.channel c factors)) refl refl
