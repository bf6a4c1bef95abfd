-- What is left of each list that takes part, for one bin: cursors over the work rows. Definitions only.
use Rattle.std.specs.Prelude.{ℕ, suc, ◌+◌, ◌-◌, ◌≤◌, ◌<◌, ◌≡◌, Bool, false, cond, List, [], ◌∷◌, map, ltb, eqb, take, drop, get_or, set, Float, Option, Some, None}
use Rattle.std.specs.Float.{nan}
use Rattle.std.specs.Float.Ieee.{lt}
use Rattle.pulse.specs.declared.list.Pulse.{Pulse}
use Rattle.merge.specs.Sum.{scaled_p}
use Rattle.merge.specs.Keep.{pulse_in}
use Rattle.mixdown.specs.declared.runs.Run.{Run}
use Rattle.mixdown.specs.declared.runs.Runs.{Runs}
use Rattle.mixdown.specs.declared.runs.Picked.{Picked}

-- ---- the work rows as pulses

abbrev pub pulse_at : List (List Float) → List ℕ → ℕ → Pulse
pulse_at work marks at = pulse_in (get_or work at []) (get_or marks at 0)

unfoldable pub pulses_in : List (List Float) → List ℕ → List Pulse
pulses_in [] marks = []
pulses_in (r ∷ rs) [] = []
pulses_in (r ∷ rs) (m ∷ ms) = pulse_in r m ∷ pulses_in rs ms

-- those of a bin
unfoldable pub of_mark : ℕ → List Pulse → List Pulse
of_mark mark [] = []
of_mark mark (p ∷ ps) = cond (eqb p.bin mark) (p ∷ of_mark mark ps) (of_mark mark ps)

-- what a run has left, times its factor
abbrev pub run_in : List Pulse → Run → List Pulse
run_in all r = map (scaled_p r.factor) (of_mark r.mark (take (r.end - r.at) (drop r.at all)))

abbrev pub runs_in : List Pulse → Runs → List (List Pulse)
runs_in all r = map (run_in all) (take r.count r.runs)

-- ---- cursors

-- how many marks stand before the first that is the bin's
unfoldable pub passed : ℕ → List ℕ → ℕ
passed mark [] = 0
passed mark (m ∷ ms) = cond (eqb m mark) 0 (suc (passed mark ms))

abbrev pub advanced : List ℕ → ℕ → ℕ → ℕ → ℕ
advanced marks from end mark = from + passed mark (take (end - from) (drop from marks))

abbrev pub advanced_by : List ℕ → Run → ℕ
advanced_by marks r = advanced marks r.at r.end r.mark

abbrev pub time_at : List (List Float) → ℕ → Float
time_at work at = get_or (get_or work at []) 0 nan

abbrev pub picked : ℕ → ℕ → Option Picked
picked k at = Some (record { list = k; at = at })

-- whether the best so far is earlier than a row
abbrev pub is_earlier : List (List Float) → Option Picked → ℕ → Bool
is_earlier work (Some best) at = lt (time_at work best.at) (time_at work at)
is_earlier work None at = false

-- list k's next row beside the best of the lists behind it
abbrev pub better : List (List Float) → ℕ → ℕ → ℕ → Option Picked → Option Picked
better work k at end best = cond (ltb at end) (cond (is_earlier work best at) best (picked k at)) best

unfoldable pub picked_from : List (List Float) → List ℕ → ℕ → List Run → Option Picked
picked_from work marks k [] = None
picked_from work marks k (r ∷ rs) = better work k (advanced_by marks r) r.end (picked_from work marks (suc k) rs)

abbrev pub picked_in : List (List Float) → List ℕ → Runs → Option Picked
picked_in work marks r = picked_from work marks 0 (take r.count r.runs)

-- no run, and one that begins behind a row
abbrev pub no_run : Run
no_run = record { at = 0; end = 0; mark = 0; factor = nan }

abbrev pub behind : List ℕ → ℕ → Run → Run
behind marks at r = record { at = advanced marks (at + 1) r.end r.mark; end = r.end; mark = r.mark; factor = r.factor }

abbrev pub moved_on : List ℕ → Runs → Picked → Runs
moved_on marks r p = record { count = r.count; runs = set r.runs p.list (behind marks p.at (get_or r.runs p.list no_run)) }

-- the best so far is one of the work rows
pub record InRows (n : ℕ) (best : Option Picked) : Type 0 where
  pub row : (q : Picked) → best ≡ Some q → q.at < n

-- no run ends past the work rows
pub record Within (rs : List Run) : Type 0 where
  pub each : (k : ℕ) → (get_or rs k no_run).end ≤ 8192
