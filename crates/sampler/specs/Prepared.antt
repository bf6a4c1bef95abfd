-- How the code goes: all that is judged before the first pulse comes first, then the pulses, out of the work rows. That this is `sampled` is a law
-- (`proofs/Order.antt`). Definitions only.
use Rattle.quant.specs.declared.refusal.Refused.{Refused}
use Rattle.std.specs.Prelude.{ℕ, ◌≡◌, Bool, true, false, cond, List, Float, length, Option, Some, None, Result, Ok, Err}
use Rattle.std.specs.Float.{binary64}
use Rattle.std.specs.Float.Ieee.{div}
use Rattle.exact.specs.Doubles.{one}
use Rattle.quant.specs.declared.refusal.Refusal.{Refusal}
use Rattle.quant.specs.declared.refusal.Refusal.TheVariants as why
use Rattle.quant.specs.declared.settings.Settings.{Settings}
use Rattle.quant.specs.Settings.{fitting_of}
use Rattle.pulse.specs.declared.list.Pulse.{Pulse}
use Rattle.tables.specs.declared.Tables.{Tables}
use Rattle.merge.specs.declared.taking.Taking.{Taking}
use Rattle.merge.specs.Taking.{parts_in}
use Rattle.merge.specs.Work.{gathered_of}
use Rattle.crosstalk.specs.declared.names.Crosstalk.{Crosstalk}
use Rattle.crosstalk.specs.Crosstalk.{Plan, planned, is_refused}
use Rattle.mixdown.specs.Sampled.{Rowed, mixed_down}
use Rattle.sampler.specs.declared.Prepared.{Prepared}
use Rattle.sampler.specs.declared.Request.{Request}
use Rattle.sampler.specs.Sizes.{sizes_fit}
use Rattle.sampler.specs.Sampler.{Left, left}

-- the settings, whether they fit or not
abbrev pub settings_of : Request → Settings
settings_of r = record { rate = r.rate; dt = record { 0 = div binary64 one r.rate.0 }; delay = r.delay; level = r.level }

abbrev pub fits : Option Settings → Bool
fits (Some s) = true
fits None = false

abbrev pub is_fit : Request → Bool
is_fit r = fits (fitting_of r.rate r.delay r.level)

-- a call passes its refusals, and each pulse is judged: it meets no 1, no 13 for what is lent, and none of 13, 2, 17, 18 and 7 for the crosstalk and the channel
pub record Passes (t : Tables) (r : Request) (c : Crosstalk) (factors : List Float) (bins : List (List Float)) (pulses : List Pulse) (st : Rowed) (work : List (List Float)) (marks : List ℕ) : Type 0 where
  pub fit : fitting_of r.rate r.delay r.level ≡ Some (settings_of r)
  pub sizes : sizes_fit r.rows (length st.i) (length st.q) (length st.scratch) (length bins) (length pulses) (length work) (length marks) ≡ true
  pub plan : is_refused (planned t r.channel c factors) ≡ false

abbrev pub refused_before : Refusal → Result Prepared Refused
refused_before why = Err (record { why = why; place = 0 })

abbrev pub prepared_by : Request → Plan → Result Prepared Refused
prepared_by r (Ok taking) = Ok (record { settings = settings_of r; taking = taking })
prepared_by r (Err e) = Err e

-- 1, 13, then 13, 2, 17 and 18, 7 of the crosstalk and the channel
unfoldable pub prepared_of : Tables → Request → Crosstalk → List Float → ℕ → ℕ → ℕ → ℕ → ℕ → ℕ → ℕ → Result Prepared Refused
prepared_of t r c factors bins pulses i q scratch work marks =
    cond (is_fit r)
    (cond (sizes_fit r.rows i q scratch bins pulses work marks) (prepared_by r (planned t r.channel c factors)) (refused_before why.WrongSize))
    (refused_before why.Unfit)

-- the pulses as the code takes them: out of the work rows
abbrev pub each_mixed : Tables → Request → List (List Float) → List Pulse → Rowed → List (List Float) → List ℕ → Settings → Taking → Left
each_mixed t r bins pulses st work marks s taking =
    let g = gathered_of t (parts_in taking) pulses work marks in
    let o = mixed_down s t taking g.ends bins g.rows g.marks r.rows st in
    left o.answer o.left g.rows g.marks

-- a refused call leaves all as it came
abbrev pub sampled_by : Tables → Request → List (List Float) → List Pulse → Rowed → List (List Float) → List ℕ → Result Prepared Refused → Left
sampled_by t r bins pulses st work marks (Ok p) = each_mixed t r bins pulses st work marks p.settings p.taking
sampled_by t r bins pulses st work marks (Err e) = left (Err e) st work marks
