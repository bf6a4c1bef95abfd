-- Document 01, "Oscillators" and "Lists and merging": a play. Its checks in order: 5, 6, 7, 8, 3. "A play that stores nothing meets no 3,
-- and 8 only for its total frequency and envelope." Definitions only.
use Rattle.naming.specs.declared.Name.{Name}
use Rattle.std.specs.Prelude.{ℕ, ◌+◌, ◌*◌, Bool, true, false, ◌&&◌, ◌||◌, cond, List, ◌++◌, leb, Float, length, take, drop, Option, Some, None}
use Rattle.std.specs.Float.{binary64}
use Rattle.std.specs.Float.Ieee.{sub, lt}
use Rattle.std.specs.Float.Ieee.Scale.{finite}
use Rattle.exact.specs.Doubles.{nought}
use Rattle.quant.specs.declared.refusal.Refusal.TheVariants.{Unfit, Full, UnknownShape, NegativePlateau, UnknownChannel, NotFinite}
use Rattle.executor.specs.declared.osc.OscState.{OscState}
use Rattle.executor.specs.Osc.{total_of}
use Rattle.pulse.specs.declared.bin.Bin.{Bin}
use Rattle.pulse.specs.declared.envelope.Envelope.{Envelope}
use Rattle.pulse.specs.declared.envelope.Shape.{Shape}
use Rattle.pulse.specs.declared.envelope.Shape.TheVariants.{Plain, Hann, Spline}
use Rattle.pulse.specs.declared.list.Pulse.{Pulse}
use Rattle.pulse.specs.declared.weight.Weight.{Weight}
use Rattle.pulse.specs.Envelope.{envelope_of}
use Rattle.pulse.specs.Bin.{head_of, kind_of, place_of}
use Rattle.pulse.specs.Weight.{negligible, weighed_of}
use Rattle.tables.specs.declared.Channel.{Channel}
use Rattle.tables.specs.declared.Tables.{Tables}
use Rattle.tables.specs.Tables.{found, shape_found, channel_at, with_channel}
use Rattle.commands.specs.declared.command.Play.{Play}
use Rattle.commands.specs.declared.step.Step.{Step}
use Rattle.commands.specs.Step.{no_spline, numbers_at, stops, goes_on}

-- the rows of channel i's bins: 64 places a channel, of which the first so many are there
abbrev pub rows_of : Tables → List (List Float) → ℕ → List (List Float)
rows_of t bins i = take (channel_at t i).bins (take 64 (drop (64 * i) bins))

-- whether a place is past the bins that are there, so that a pulse opens a bin
abbrev pub is_new : Tables → List (List Float) → ℕ → ℕ → Bool
is_new t bins i place = leb (length (rows_of t bins i)) place

-- "a new bin or pulse meets a full table": a 65th bin, a 1,025th pulse
abbrev pub is_full : Tables → List (List Float) → ℕ → ℕ → Bool
is_full t bins i place = (is_new t bins i place && leb 64 (channel_at t i).bins) || leb 1024 (channel_at t i).pulses

-- the channel with a pulse more, and a bin more where one is opened
abbrev pub grown : Channel → Bool → Channel
grown c new = record { name = c.name; osc = c.osc; bins = cond new (c.bins + 1) c.bins; pulses = c.pulses + 1 }

abbrev pub pulse_at : ℕ → Float → Weight → Pulse
pulse_at place start w = record { bin = place; time = record { 0 = start }; amp = w.amp; drag = w.drag }

-- a pulse to store in channel i: 1,024 places a channel
abbrev pub stores : Tables → ℕ → ℕ → Bool → Float → Weight → List Float → ℕ → Step
stores t i place new start w head spline =
    record {
      stop = false;
      why = Unfit;
      put = true;
      from = 1024 * i;
      count = (channel_at t i).pulses;
      pulse = pulse_at place start w;
      opens = new;
      at = 64 * i + place;
      head = head;
      spline = spline;
      tables = with_channel t i (grown (channel_at t i) new);
    }

-- 3; `head` is the bin's, and `spline` the place of the numbers behind it
abbrev pub stored_at : Tables → List (List Float) → List (List Float) → ℕ → Float → Weight → List Float → ℕ → Step
stored_at t splines bins i start w head spline =
    let place = place_of (head ++ numbers_at splines spline) (rows_of t bins i) in
    cond (is_full t bins i place) (stops t Full) (stores t i place (is_new t bins i place) start w head spline)

-- 8 of a play that stores
unfoldable pub stored_with : Tables → List (List Float) → List (List Float) → ℕ → Float → Option Weight → List Float → ℕ → Step
stored_with t splines bins i start None head spline = stops t NotFinite
stored_with t splines bins i start (Some w) head spline = stored_at t splines bins i start w head spline

-- "Play: a flexible plateau is span - width"
abbrev pub plateau_of : Play → Float → Float
plateau_of p span = cond p.flexible (sub binary64 span p.width.0) p.plateau.0

abbrev pub envelope_for : Shape → Play → Float → Envelope
envelope_for kind p span = envelope_of kind p.width.0 (plateau_of p span)

-- "The pulse gets total as global frequency, the play's own frequency and phase. The oscillator's phase is not added."
abbrev pub bin_with : OscState → Shape → Play → Float → Bin
bin_with o kind p span = record { envelope = envelope_for kind p span; global = record { 0 = total_of o }; local = p.frequency }

abbrev pub bin_for : Tables → ℕ → Shape → Play → Float → Bin
bin_for t i kind p span = bin_with (channel_at t i).osc kind p span

-- the numbers of a spline go along, of another shape none: a width of 0 has dropped the shape
unfoldable pub spline_for : Shape → ℕ → ℕ
spline_for Plain k = no_spline
spline_for Hann k = no_spline
spline_for Spline k = k

-- 8 of every play, then those that store nothing; k is the place of the shape's name
abbrev pub pushed : Tables → List (List Float) → List (List Float) → ℕ → Float → Play → Bin → ℕ → Step
pushed t splines bins i start p b k =
    cond (finite b.global.0 && finite b.envelope.plateau.0)
    (cond (negligible p.amplitude.0 t.amp.0) (goes_on t)
    (stored_with t splines bins i start (weighed_of p.amplitude.0 p.phase.0 p.drag) (head_of b) (spline_for b.envelope.shape k)))
    (stops t NotFinite)

-- 7
unfoldable pub played_at : Tables → List (List Float) → List (List Float) → Option ℕ → Float → Float → Play → Shape → ℕ → Step
played_at t splines bins None start span p kind k = stops t UnknownChannel
played_at t splines bins (Some i) start span p kind k = pushed t splines bins i start p (bin_for t i kind p span) k

-- 6
abbrev pub played_as : Tables → List (List Float) → List (List Float) → Float → Float → Play → Shape → ℕ → Step
played_as t splines bins start span p kind k =
    cond (lt (plateau_of p span) nought) (stops t NegativePlateau) (played_at t splines bins (found t p.channel) start span p kind k)

-- 5; "a play looks the name up when it runs"
unfoldable pub played_by : Tables → List (List Float) → List (List Float) → Option ℕ → Float → Float → Play → Step
played_by t splines bins None start span p = stops t UnknownShape
played_by t splines bins (Some k) start span p = played_as t splines bins start span p (kind_of (numbers_at splines k)) k

abbrev pub played_with : Tables → List (List Float) → List (List Float) → Option Name → Float → Float → Play → Step
played_with t splines bins None start span p = played_as t splines bins start span p Plain no_spline
played_with t splines bins (Some n) start span p = played_by t splines bins (shape_found t n) start span p

abbrev pub played : Tables → List (List Float) → List (List Float) → Float → Float → Play → Step
played t splines bins start span p = played_with t splines bins p.shape start span p
