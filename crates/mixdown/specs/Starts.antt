-- Where the runs of a bin begin: in each list, whose rows stand from one end to the next, the first row of the bin. Definitions only.
use Rattle.std.specs.Prelude.{ℕ, ◌≤◌, min, cond, List, [], ◌∷◌, map, Float, get_or, Option, Some, None}
use Rattle.pulse.specs.Bin.{place_of}
use Rattle.tables.specs.declared.Tables.{Tables}
use Rattle.tables.specs.Tables.{channel_at}
use Rattle.commands.specs.Play.{rows_of}
use Rattle.pulse.specs.declared.list.Pulse.{Pulse}
use Rattle.merge.specs.Sum.{summed_again}
use Rattle.merge.specs.Join.{joined}
use Rattle.merge.specs.Taking.{Part}
use Rattle.mixdown.specs.declared.runs.Run.{Run}
use Rattle.mixdown.specs.Runs.{advanced, pulses_in, run_in}
use Rattle.mixdown.specs.Bins.{is_among}

-- how many bins a channel has: 64 places, of which the first so many are there
abbrev pub bins_held : Tables → ℕ → ℕ
bins_held t i = min (channel_at t i).bins 64

abbrev pub target_of : List (List Float) → List Float → Option ℕ
target_of rows row = cond (is_among row rows) (Some (place_of row rows)) None

abbrev pub run_for : List ℕ → Option ℕ → ℕ → ℕ → Float → Run
run_for marks (Some mark) begin end factor = record { at = advanced marks begin end mark; end = end; mark = mark; factor = factor }
run_for marks None begin end factor = record { at = end; end = end; mark = 0; factor = factor }

unfoldable pub runs_for_from : Tables → List (List Float) → List ℕ → List Float → ℕ → List Part → List ℕ → List Run
runs_for_from t bins marks row begin [] ends = []
runs_for_from t bins marks row begin (p ∷ ps) [] = []
runs_for_from t bins marks row begin (p ∷ ps) (e ∷ es) =
    run_for marks (target_of (rows_of t bins p.place) row) begin e p.factor ∷ runs_for_from t bins marks row e ps es

-- no list ends past the work rows
pub record Ended (ends : List ℕ) : Type 0 where
  pub each : (k : ℕ) → get_or ends k 0 ≤ 8192

-- the pulses of a bin as the work rows hold them: joined by time, and summed again
abbrev pub merged_in : Tables → List (List Float) → List (List Float) → List ℕ → List Part → List ℕ → List Float → List Pulse
merged_in t bins work marks parts ends row =
    summed_again t.time.0 (joined (map (run_in (pulses_in work marks)) (runs_for_from t bins marks row 0 parts ends)))
