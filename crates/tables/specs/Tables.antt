-- Document 01: "Tables are made with both tolerances and the oversize choice: 1. Adding a channel or shape: 2, 3"; "Adding a known channel
-- or shape name again replaces it; a replaced channel's pulses go and their room is used again". Request P1: of a spline "2 for a number not finite; a new 16
-- for falling knots or wrong counts, after 2 and before 3". Definitions only.
use Rattle.quant.specs.Refusal.{Answer, refuse}
use Rattle.tables.specs.declared.Untold.{Untold}
use Rattle.std.specs.Prelude.{ℕ, suc, ◌+◌, Bool, false, ◌&&◌, cond, List, [], ◌∷◌, ltb, eqb, Float, length, take, get_or, set, replicate, Option, Some, None, Result, Ok, Err}
use Rattle.tables.specs.declared.Untold.TheVariants as told
use Rattle.std.specs.Float.{nan}
use Rattle.std.specs.Float.Ieee.Scale.{finite}
use Rattle.exact.specs.Doubles.{nought}
use Rattle.naming.specs.declared.Name.{Name}
use Rattle.quant.specs.declared.refusal.Refusal.{Refusal}
use Rattle.quant.specs.declared.refusal.Refusal.TheVariants.{Unfit, Malformed, Full, UnknownChannel, WrongSize, WrongSpline}
use Rattle.naming.specs.Name.{is_name, same_name}
use Rattle.quant.specs.Settings.{is_tolerance}
use Rattle.rows.specs.Rows.{all_finite}
use Rattle.spline.specs.Spline.{is_spline}
use Rattle.spline.specs.Row.{row_of}
use Rattle.pulse.specs.Bin.{no_numbers}
use Rattle.executor.specs.declared.osc.OscState.{OscState}
use Rattle.tables.specs.declared.Channel.{Channel}
use Rattle.tables.specs.declared.Tables.{Tables}
use Rattle.tables.specs.declared.Tabled.{Tabled}

-- ---- what stands in the tables

-- the channels in order of first adding; a count over 8 has the 8 that are there
abbrev pub channels_in : Tables → List Channel
channels_in t = take t.count t.channels

abbrev pub shapes_in : Tables → List Name
shapes_in t = take t.named t.shapes

-- where a channel of that name stands, counted from k
unfoldable pub found_from : ℕ → Name → List Channel → Option ℕ
found_from k n [] = None
found_from k n (c ∷ cs) = cond (same_name c.name n) (Some k) (found_from (suc k) n cs)

abbrev pub found : Tables → Name → Option ℕ
found t n = found_from 0 n (channels_in t)

-- where a shape's name stands, counted from k
unfoldable pub shape_from : ℕ → Name → List Name → Option ℕ
shape_from k n [] = None
shape_from k n (m ∷ ms) = cond (same_name m n) (Some k) (shape_from (suc k) n ms)

abbrev pub shape_found : Tables → Name → Option ℕ
shape_found t n = shape_from 0 n (shapes_in t)

-- ---- tables made

abbrev pub no_name : Name
no_name = record { first = 0; second = 0; len = 0 }

abbrev pub at_rest : OscState
at_rest = record { base = record { 0 = nought }; delta = record { 0 = nought }; phase = record { 0 = nought } }

-- a channel that starts fresh: no bin, no pulse
abbrev pub fresh : Name → OscState → Channel
fresh n o = record { name = n; osc = o; bins = 0; pulses = 0 }

abbrev pub empty : Float → Float → Bool → Tables
empty a t o =
    record {
      amp = record { 0 = a };
      time = record { 0 = t };
      oversize = o;
      channels = replicate 8 (fresh no_name at_rest);
      count = 0;
      shapes = replicate 8 no_name;
      named = 0;
    }

abbrev pub done : Tables → Tabled
done t = record { answer = Ok 0; tables = t }

abbrev pub refused : Refusal → Tables → Tabled
refused r t = record { answer = refuse r 0; tables = t }

-- 1 where a tolerance is unfit: then empty tables that tolerate nothing
abbrev pub made : Float → Float → Bool → Tabled
made a t o = cond (is_tolerance a && is_tolerance t) (done (empty a t o)) (refused Unfit (empty nought nought false))

-- ---- channels and shapes added

-- the same tables, with the channel at a place or the count of channels another
abbrev pub with_channels : Tables → List Channel → ℕ → Tables
with_channels t cs count =
    record {
      amp = t.amp;
      time = t.time;
      oversize = t.oversize;
      channels = cs;
      count = count;
      shapes = t.shapes;
      named = t.named;
    }

abbrev pub with_channel : Tables → ℕ → Channel → Tables
with_channel t i c = with_channels t (set t.channels i c) t.count

abbrev pub finite_osc : OscState → Bool
finite_osc o = finite o.base.0 && finite o.delta.0 && finite o.phase.0

-- a known name is replaced, a new one meets the ninth place: 3
unfoldable pub settled : Tables → Option ℕ → Channel → Tabled
settled t (Some i) c = done (with_channel t i c)
settled t None c =
    cond (ltb t.count 8) (done (with_channels t (set t.channels t.count c) (t.count + 1))) (refused Full t)

-- 2, then 3
abbrev pub with_added : Tables → Name → OscState → Tabled
with_added t n o = cond (is_name n && finite_osc o) (settled t (found t n) (fresh n o)) (refused Malformed t)

-- ---- shapes: for each name a lent row of 72 numbers, those of its spline; zeros are Hann's

-- the tables, and the shapes' rows
pub record Formed : Type 0 where
  pub tabled : Tabled
  pub rows : List (List Float)

abbrev pub formed : Tabled → List (List Float) → Formed
formed r rows = record { tabled = r; rows = rows }

abbrev pub with_shape : Tables → Name → Tables
with_shape t n =
    record {
      amp = t.amp;
      time = t.time;
      oversize = t.oversize;
      channels = t.channels;
      count = t.count;
      shapes = set t.shapes t.named n;
      named = t.named + 1;
    }

-- a known name is replaced, a new one meets the ninth place: 3
unfoldable pub settled_shape : Tables → Option ℕ → Name → List Float → List (List Float) → Formed
settled_shape t (Some i) n row rows = formed (done t) (set rows i row)
settled_shape t None n row rows =
    cond (ltb t.named 8) (formed (done (with_shape t n)) (set rows t.named row)) (formed (refused Full t) rows)

-- 13 for other than eight rows, then 2, 3
abbrev pub with_added_shape : Tables → Name → List (List Float) → Formed
with_added_shape t n rows =
    cond (eqb (length rows) 8)
    (cond (is_name n) (settled_shape t (shape_found t n) n no_numbers rows) (formed (refused Malformed t) rows))
    (formed (refused WrongSize t) rows)

-- 13, then 2 for the name or any number, 16, 3
abbrev pub with_added_spline : Tables → Name → ℕ → List Float → List Float → List (List Float) → Formed
with_added_spline t n degree controls knots rows =
    cond (eqb (length rows) 8)
    (cond (is_name n && all_finite controls && all_finite knots)
    (cond (is_spline degree (length controls) knots)
    (settled_shape t (shape_found t n) n (row_of degree controls knots) rows)
    (formed (refused WrongSpline t) rows))
    (formed (refused Malformed t) rows))
    (formed (refused WrongSize t) rows)

-- ---- a channel's state read

-- the channel at a place; past the eighth, where no call reads, there is no number
abbrev pub no_channel : Channel
no_channel = fresh no_name (record { base = record { 0 = nan }; delta = record { 0 = nan }; phase = record { 0 = nan } })

abbrev pub channel_at : Tables → ℕ → Channel
channel_at t i = get_or t.channels i no_channel

unfoldable pub told_at : Tables → Option ℕ → Result OscState Untold
told_at t (Some i) = Ok (channel_at t i).osc
told_at t None = Err told.Unknown

-- 2, then 7
abbrev pub state_of : Tables → Name → Result OscState Untold
state_of t n = cond (is_name n) (told_at t (found t n)) (Err told.Malformed)

-- ---- what the cases answer
abbrev pub told_answer : Result OscState Untold → Answer
told_answer (Ok o) = Ok 0
told_answer (Err told.Malformed) = refuse Malformed 0
told_answer (Err told.Unknown) = refuse UnknownChannel 0

-- of a text taken for a name, in `naming`, which knows no refusal
abbrev pub naming_answer : Option Name → Answer
naming_answer (Some n) = Ok 0
naming_answer None = refuse Malformed 0
