-- Document 01, "What each number means": of a sampling call "each pulse: 8 for its index, 9, 10, 11, 12, 8 for the rest (amplitude, drag, phases and
-- each phase*TAU; with a shape drag*rate and each point taken, but not x0, dx, x2 alone)". "An end that overflows is over the row length: 12".
-- Definitions only.
use Rattle.quant.specs.Refusal.{Answer, refuse}
use Rattle.quant.specs.declared.aligned.Misplaced.{Misplaced}
use Rattle.quant.specs.declared.aligned.Start.{Start}
use Rattle.std.specs.Prelude.{ℕ, ◌-◌, Bool, cond, ◌&&◌, List, [], ◌∷◌, nat_lt, Float, Result, Ok, Err}
use Rattle.quant.specs.declared.aligned.Misplaced.TheVariants as placed
use Rattle.quant.specs.declared.refusal.Refusal.{Refusal}
use Rattle.std.specs.Float.{binary64}
use Rattle.std.specs.Float.Ieee.{add}
use Rattle.quant.specs.declared.complex.Complex.{Complex}
use Rattle.quant.specs.declared.refusal.Refusal.TheVariants.{NotFinite, BeforeRow, StartPastRow, EndPastRow}
use Rattle.quant.specs.declared.settings.Settings.{Settings}
use Rattle.quant.specs.Aligned.{aligned_of, placed_of}
use Rattle.quant.specs.Complex.{times_c, scaled_c}
use Rattle.rows.specs.Rows.{all_finite}
use Rattle.shape.specs.Parts.{index_at, parted_of}
use Rattle.shape.specs.Envelope.{least, enveloped_of}
use Rattle.pulse.specs.declared.bin.Bin.{Bin}
use Rattle.pulse.specs.Envelope.{is_shaped}
use Rattle.pulse.specs.declared.list.Pulse.{Pulse}
use Rattle.placing.specs.declared.Flat.{Flat}
use Rattle.placing.specs.declared.Curved.{Curved}
use Rattle.placing.specs.declared.Judged.{Judged}
use Rattle.placing.specs.declared.Judged.TheVariants.{Plateau, Shaped}
use Rattle.placing.specs.Phases.{start_pair, rotation_pair, phase_numbers}

-- ---- where the pulse starts: i = ceil((time+delay)*(rate*2^-level)), aligned = i*2^level, cut off
abbrev pub placed_at : Settings → Pulse → Result Start Misplaced
placed_at s p = placed_of (aligned_of (add binary64 p.time.0 s.delay.0) s.rate.0 s.level)

-- ---- 8 for the rest: amplitude and drag
abbrev pub weight_numbers : Pulse → List Float
weight_numbers p = p.amp.re ∷ p.amp.im ∷ p.drag.re ∷ p.drag.im ∷ []

-- drag*rate
abbrev pub drag_of : Settings → Pulse → Complex
drag_of s p = scaled_c p.drag s.rate.0

abbrev pub drag_numbers : Settings → Pulse → List Float
drag_numbers s p = (drag_of s p).re ∷ (drag_of s p).im ∷ []

-- without a shape, and with one
abbrev pub plain_fine : Settings → Bin → Pulse → ℕ → Float → Bool
plain_fine s b p start offset = all_finite (weight_numbers p) && all_finite (phase_numbers s b start offset)

abbrev pub curved_fine : Settings → Bin → Pulse → ℕ → Float → Bool
curved_fine s b p start offset = all_finite (weight_numbers p) && all_finite (drag_numbers s p) && all_finite (phase_numbers s b start offset)

-- ---- no shape: ceil(plateau*rate) samples
abbrev pub count_of : Settings → Bin → ℕ
count_of s b = index_at b.envelope.plateau.0 s.rate.0

abbrev pub flat_of : Settings → Bin → Pulse → ℕ → Float → Flat
flat_of s b p start offset =
    record {
      start = start;
      count = count_of s b;
      carrier = times_c (start_pair s b start offset) p.amp;
      rotation = rotation_pair s b;
    }

-- in a row with room for `room` samples from the start on
abbrev pub plain_at : Settings → Bin → Pulse → ℕ → Float → ℕ → Result Judged Refusal
plain_at s b p start offset room =
    cond (nat_lt room (count_of s b)) (Err EndPastRow)
    (cond (plain_fine s b p start offset) (Ok (Plateau (flat_of s b p start offset))) (Err NotFinite))

-- ---- a shape: the envelope's points
abbrev pub curved_of : Settings → Bin → Pulse → ℕ → Float → ℕ → Curved
curved_of s b p start offset points =
    record {
      start = start;
      offset = offset;
      points = points;
      amp = p.amp;
      drag = drag_of s p;
      carrier = start_pair s b start offset;
      rotation = rotation_pair s b;
    }

abbrev pub curved_at : Settings → Bin → Pulse → ℕ → Float → ℕ → Result Judged Refusal
curved_at s b p start offset points =
    cond (curved_fine s b p start offset) (Ok (Shaped (curved_of s b p start offset points))) (Err NotFinite)

-- 11, 12, or 8 for a point
abbrev pub shaped_at : Settings → Bin → Pulse → ℕ → Float → Result ℕ Refusal → Result Judged Refusal
shaped_at s b p start offset (Ok points) = curved_at s b p start offset points
shaped_at s b p start offset (Err r) = Err r

-- rows have at most 65,536 samples; for a longer one that is the limit of an envelope
abbrev pub measured_at : Settings → Bin → List Float → Float → ℕ → Result ℕ Refusal
measured_at s b numbers offset room =
    enveloped_of b.envelope.shape numbers (parted_of b.envelope.width.0 b.envelope.plateau.0 offset s.rate.0 s.dt.0 (least room 65536))

abbrev pub formed_at : Settings → Bin → List Float → Pulse → ℕ → Float → ℕ → Result Judged Refusal
formed_at s b numbers p start offset room =
    cond (is_shaped b.envelope.shape) (shaped_at s b p start offset (measured_at s b numbers offset room)) (plain_at s b p start offset room)

-- ---- of a start and an offset, in a row of `len` samples: 10 where the start is not below the row length
abbrev pub started_at : Settings → Bin → List Float → Pulse → ℕ → ℕ → Float → Result Judged Refusal
started_at s b numbers p len start offset = cond (nat_lt start len) (formed_at s b numbers p start offset (len - start)) (Err StartPastRow)

abbrev pub judged_at : Settings → Bin → List Float → Pulse → ℕ → Result Start Misplaced → Result Judged Refusal
judged_at s b numbers p len (Ok at) = started_at s b numbers p len at.index at.offset
judged_at s b numbers p len (Err placed.NotFinite) = Err NotFinite
judged_at s b numbers p len (Err placed.Before) = Err BeforeRow
judged_at s b numbers p len (Err placed.Beyond) = Err StartPastRow

-- ---- a pulse of bin b, with the numbers of its spline
unfoldable pub judged : Settings → Bin → List Float → Pulse → ℕ → Result Judged Refusal
judged s b numbers p len = judged_at s b numbers p len (placed_at s p)

-- what the cases answer
abbrev pub judged_answer : Result Judged Refusal → Answer
judged_answer (Ok (Plateau f)) = Ok 0
judged_answer (Ok (Shaped c)) = Ok 0
judged_answer (Err r) = refuse r 0
