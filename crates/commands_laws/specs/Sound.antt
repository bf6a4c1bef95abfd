-- Words for the law of what our calls leave: a channel's list as it stands, and what can be reached from made tables by adding channels
-- and shapes and by calls of commands, accepted or refused. Definitions only.
use Rattle.std.specs.Prelude.{ℕ, ◌+◌, ◌*◌, ◌≤◌, ◌<◌, ◌≡◌, Bool, true, ◌&&◌, List, [], ◌∷◌, ltb, Float, length, take, drop, get_or}
use Rattle.naming.specs.declared.Name.{Name}
use Rattle.executor.specs.declared.osc.OscState.{OscState}
use Rattle.pulse.specs.declared.bin.Bin.{Bin}
use Rattle.pulse.specs.declared.list.Pulse.{Pulse}
use Rattle.pulse.specs.Bin.{bin_of, GoodBin}
use Rattle.pulse.specs.Sorted.{sorted, timed}
use Rattle.tables.specs.declared.Tables.{Tables}
use Rattle.tables.specs.Tables.{made, with_added, with_added_shape, with_added_spline, channel_at}
use Rattle.commands.specs.declared.command.Arranged.{Arranged}
use Rattle.commands.specs.Run.{executed}

-- the records of the channel at a place
abbrev pub list_of : Tables → List Pulse → ℕ → List Pulse
list_of t pulses i = take (channel_at t i).pulses (drop (1024 * i) pulses)

-- bin k of the channel at place i: 64 places a channel
abbrev pub bin_at : List (List Float) → ℕ → ℕ → Bin
bin_at bins i k = bin_of (get_or bins (64 * i + k) [])

-- whether every record belongs to one of so many bins
unfoldable pub binned : ℕ → List Pulse → Bool
binned many [] = true
binned many (q ∷ qs) = ltb q.bin many && binned many qs

-- a channel's list stands by bin and time, and its counts are right
pub record Stands (t : Tables) (pulses : List Pulse) (i : ℕ) : Type 0 where
  pub most-bins : (channel_at t i).bins ≤ 64
  pub most-pulses : (channel_at t i).pulses ≤ 1024
  pub in_order : sorted (list_of t pulses i) ≡ true
  pub in_time : timed (list_of t pulses i) ≡ true
  pub in_bins : binned (channel_at t i).bins (list_of t pulses i) ≡ true

-- so does every channel's, and each of its bins is as plays leave it
pub record Sound (t : Tables) (bins : List (List Float)) (pulses : List Pulse) : Type 0 where
  pub eight : length t.channels ≡ 8
  pub rows : length bins ≡ 512
  pub records : length pulses ≡ 8192
  pub few : t.count ≤ 8
  pub each : (i : ℕ) → i < t.count → Stands t pulses i
  pub good : (i k : ℕ) → i < t.count → k < (channel_at t i).bins → GoodBin (bin_at bins i k)

-- after any run of calls, from made tables and whatever rows of shapes, rows of bins and records are lent
pub data Reached : Tables → List (List Float) → List (List Float) → List Pulse → Type 0 where
  start : (a time : Float) (oversize : Bool) (splines bins : List (List Float)) (pulses : List Pulse) → length bins ≡ 512 → length pulses ≡ 8192
      → Reached (made a time oversize).tables splines bins pulses
  channel : (t : Tables) (splines bins : List (List Float)) (pulses : List Pulse) (n : Name) (o : OscState) → Reached t splines bins pulses
      → Reached (with_added t n o).tables splines bins pulses
  shape : (t : Tables) (splines bins : List (List Float)) (pulses : List Pulse) (n : Name) → Reached t splines bins pulses
      → Reached (with_added_shape t n splines).tabled.tables (with_added_shape t n splines).rows bins pulses
  spline : (t : Tables) (splines bins : List (List Float)) (pulses : List Pulse) (n : Name) (degree : ℕ) (controls knots : List Float)
      → Reached t splines bins pulses
      → Reached (with_added_spline t n degree controls knots splines).tabled.tables (with_added_spline t n degree controls knots splines).rows bins pulses
  call : (t : Tables) (splines bins : List (List Float)) (pulses : List Pulse) (commands : List Arranged) → Reached t splines bins pulses
      → Reached (executed t splines commands bins pulses).result.tables splines (executed t splines commands bins pulses).bins
      (executed t splines commands bins pulses).pulses
