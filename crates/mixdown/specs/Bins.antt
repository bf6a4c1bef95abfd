-- Document 01, "Lists and merging": "factor 0 skips a list; amp and drag of a summed list are multiplied; lists join by time, ties by name
-- position, then are summed again, with the tables' time tolerance. Bins stand by first appearance." Definitions only.
use Rattle.std.specs.Prelude.{Bool, cond, List, [], ◌∷◌, ◌++◌, map, ltb, Float, length}
use Rattle.pulse.specs.declared.list.Pulse.{Pulse}
use Rattle.pulse.specs.Bin.{place_of}
use Rattle.tables.specs.declared.Tables.{Tables}
use Rattle.commands.specs.Play.{rows_of}
use Rattle.merge.specs.Sum.{scaled_p, summed_again}
use Rattle.merge.specs.Join.{joined}
use Rattle.merge.specs.Taking.{Part, list_of}
use Rattle.mixdown.specs.Runs.{of_mark}

-- ---- bins

-- whether a bin's row is the same as one of some
abbrev pub is_among : List Float → List (List Float) → Bool
is_among row rows = ltb (place_of row rows) (length rows)

-- the rows of all bins of the lists that take part, list by list
unfoldable pub all_rows : Tables → List (List Float) → List Part → List (List Float)
all_rows t bins [] = []
all_rows t bins (p ∷ ps) = rows_of t bins p.place ++ all_rows t bins ps

-- those that are not the same as one before them, where `before` stand before the first
unfoldable pub firsts_after : List (List Float) → List (List Float) → List (List Float)
firsts_after before [] = []
firsts_after before (r ∷ rs) = cond (is_among r before) (firsts_after (before ++ (r ∷ [])) rs) (r ∷ firsts_after (before ++ (r ∷ [])) rs)

-- the bins by first appearance
abbrev pub bins_by : Tables → List (List Float) → List Part → List (List Float)
bins_by t bins parts = firsts_after [] (all_rows t bins parts)

-- ---- the pulses of one bin

-- of one list: the summed pulses that belong to the first of its bins that is the same, times the factor
abbrev pub run_from : List Pulse → List (List Float) → List Float → Float → List Pulse
run_from list rows row factor = cond (is_among row rows) (map (scaled_p factor) (of_mark (place_of row rows) list)) []

abbrev pub run_of : Tables → List (List Float) → List Pulse → List Float → Part → List Pulse
run_of t bins pulses row p = run_from (list_of t pulses p.place) (rows_of t bins p.place) row p.factor

-- of all lists
abbrev pub merged_of : Tables → List (List Float) → List Pulse → List Part → List Float → List Pulse
merged_of t bins pulses parts row = summed_again t.time.0 (joined (map (run_of t bins pulses row) parts))
