-- Document 01: "A sampling call takes one channel. Its order: 1, 13, 2, 14, 7, then each pulse"; by document 02, 17 and 18 stand in place of 14.
-- Definitions only.
use Rattle.quant.specs.Refusal.{Answer, refuse}
use Rattle.std.specs.Prelude.{ℕ, cond, List, Float, length, Option, Some, None}
use Rattle.quant.specs.declared.refusal.Refusal.TheVariants as why
use Rattle.quant.specs.declared.settings.Settings.{Settings}
use Rattle.quant.specs.Settings.{fitting_of, fitting_answer}
use Rattle.pulse.specs.declared.list.Pulse.{Pulse}
use Rattle.tables.specs.declared.Tables.{Tables}
use Rattle.merge.specs.declared.taking.Taking.{Taking}
use Rattle.merge.specs.Taking.{parts_in}
use Rattle.merge.specs.Work.{gathered_of}
use Rattle.crosstalk.specs.declared.names.Crosstalk.{Crosstalk}
use Rattle.crosstalk.specs.Crosstalk.{Plan, planned, is_refused, taking_of, plan_answer}
use Rattle.mixdown.specs.Bins.{bins_by, merged_of}
use Rattle.mixdown.specs.Sampled.{Rowed, ran_bins}
use Rattle.sampler.specs.declared.Request.{Request}
use Rattle.sampler.specs.Sizes.{sizes_fit}

-- what a call leaves: its answer, the rows with the scratch, and the work rows with their marks
pub record Left : Type 0 where
  pub answer : Answer
  pub rows : Rowed
  pub work : List (List Float)
  pub marks : List ℕ

abbrev pub left : Answer → Rowed → List (List Float) → List ℕ → Left
left answer rows work marks = record { answer = answer; rows = rows; work = work; marks = marks }

module _ (t : Tables) (r : Request) (bins : List (List Float)) (pulses : List Pulse) (st : Rowed) (work : List (List Float)) (marks : List ℕ) where
  -- "then each pulse": the lists that take part are summed into the work rows; the bins by first appearance, each with its lists' pulses scaled,
  -- joined by time and summed again, are run onto the rows up to the first pulse that is refused
  abbrev pub each_pulse : Settings → Taking → Left
  each_pulse s taking =
      let parts = parts_in taking in
      let g = gathered_of t parts pulses work marks in
      let o = ran_bins s r.rows (merged_of t bins pulses parts) (bins_by t bins parts) 0 st in
      left o.answer o.left g.rows g.marks

  -- 13, 2, 17 and 18, 7 of the crosstalk and the channel
  abbrev pub by_plan : Settings → Plan → Left
  by_plan s p = cond (is_refused p) (left (plan_answer p) st work marks) (each_pulse s (taking_of p))

  -- 1, then 13 of what is lent
  abbrev pub by_clock : Crosstalk → List Float → Option Settings → Left
  by_clock c factors None = left (fitting_answer None) st work marks
  by_clock c factors (Some s) =
      cond (sizes_fit r.rows (length st.i) (length st.q) (length st.scratch) (length bins) (length pulses) (length work) (length marks))
      (by_plan s (planned t r.channel c factors))
      (left (refuse why.WrongSize 0) st work marks)

unfoldable pub sampled : Tables → Request → Crosstalk → List Float → List (List Float) → List Pulse → Rowed → List (List Float) → List ℕ → Left
sampled t r c factors bins pulses st work marks = by_clock t r bins pulses st work marks c factors (fitting_of r.rate r.delay r.level)
