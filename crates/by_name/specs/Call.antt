-- The law of the project, in words: what a sampling call adds, whose names and factors were read from a sheet. Definitions only.
use Rattle.std.specs.Prelude.{ℕ, ◌≡◌, List, Float}
use Rattle.sheet.specs.Sheet.{Sheet}
use Rattle.sheet_laws.specs.Words.{In, Permuted, SameUpToOrder}
use Rattle.pulse.specs.declared.list.Pulse.{Pulse}
use Rattle.tables.specs.declared.Tables.{Tables}
use Rattle.tables.specs.Tables.{channels_in}
use Rattle.merge.specs.Taking.{Part}
use Rattle.crosstalk.specs.declared.names.Crosstalk.{Crosstalk}
use Rattle.mixdown.specs.Bins.{bins_by, merged_of}
use Rattle.mixdown.specs.Sampled.{Rowed, out, ran_bins}
use Rattle.sampler.specs.declared.Request.{Request}
use Rattle.sampler.specs.Prepared.{settings_of, Passes}
use Rattle.sampler.specs.Sampler.{sampled}
use Rattle.by_name.specs.Words.{Given, Planned, parts, TakesRow, TakesOwn, pairs_of}

module _ (s : Sheet) (t : Tables) (r : Request) (c : Crosstalk) (factors : List Float) (bins : List (List Float)) (pulses : List Pulse) (st : Rowed) (work : List (List Float)) (marks : List ℕ) where
  -- the lists that take part
  abbrev pub taken : List Part
  taken = parts t r.channel c factors

  -- another text holds the same sheet in another order of its rows and of its columns, with their factors: the call passes too, and joins the same
  -- factors to the same lists
  pub record InAnyOrder (e : Crosstalk) (others : List Float) : Type 0 where
    pub passes : Passes t r e others bins pulses st work marks
    pub permuted : Permuted taken (parts t r.channel e others)

  -- other tables hold the same channels in other places: the plan passes too, and the same names have the same factors
  pub record InAnyPlaces (u : Tables) : Type 0 where
    pub passes : Planned u r.channel c factors
    pub by_name : pairs_of t taken ≡ pairs_of u (parts u r.channel c factors)

  pub record ByName : Type 0 where
    -- a channel that the sheet names: the lists of the columns whose factor under its row is not zero, each with the factor that stands there
    pub row : In r.channel s.columns → TakesRow s t r.channel taken
    -- any other channel: its own list alone, with factor 1
    pub own : (In r.channel s.columns → ⊥) → TakesOwn t r.channel taken
    -- the answer and the rows are those of exactly these lists, merged
    pub rows : out (sampled t r c factors bins pulses st work marks).answer (sampled t r c factors bins pulses st work marks).rows
        ≡ ran_bins (settings_of r) r.rows (merged_of t bins pulses taken) (bins_by t bins taken) 0 st
    -- whatever the order of rows and columns in the sheet, and of channels in the tables
    pub any_order : (text : List ℕ) (before : List Float) (other : Sheet) (e : Crosstalk) (others : List Float) → Given text before other e others → SameUpToOrder s other
        → InAnyOrder e others
    pub any-places : (u : Tables) → Permuted (channels_in t) (channels_in u) → InAnyPlaces u
