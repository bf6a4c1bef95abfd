-- Demand 3, of the sampling call: "Take an accepted plateau pulse (no shape), sampled alone onto rows of zeros." Definitions only.
use Rattle.quant.specs.Aligned.{starts_at}
use Rattle.std.specs.Prelude.{ℕ, ◌+◌, ◌^◌, ◌≤◌, ◌<◌, ◌≡◌, true, List, [], ◌∷◌, Float, length, get_or, Some}
use Rattle.std.specs.Float.{nan}
use Rattle.std.specs.Float.Ieee.{eq}
use Rattle.exact.specs.Doubles.{nought}
use Rattle.quant.specs.declared.complex.Complex.{Complex}
use Rattle.quant.specs.declared.settings.Settings.{Settings}
use Rattle.quant.specs.Settings.{fitting_of}
use Rattle.pulse.specs.declared.bin.Bin.{Bin}
use Rattle.pulse.specs.declared.envelope.Shape.TheVariants.{Plain}
use Rattle.pulse.specs.declared.list.Pulse.{Pulse}
use Rattle.pulse.specs.Bin.{bin_of}
use Rattle.tables.specs.declared.Tables.{Tables}
use Rattle.merge.specs.Taking.{parts_in}
use Rattle.crosstalk.specs.declared.names.Crosstalk.{Crosstalk}
use Rattle.crosstalk.specs.Crosstalk.{planned, taking_of}
use Rattle.placing.specs.Phases.{start_pair, rotation_pair}
use Rattle.placing.specs.Judged.{placed_at, count_of}
use Rattle.mixdown.specs.Bins.{bins_by, merged_of}
use Rattle.mixdown.specs.Sampled.{Rowed}
use Rattle.sampler.specs.declared.Request.{Request}
use Rattle.accuracy.specs.Exact.{Gauss, Near, carrier_exactly, absolute, squares}

-- "Let m be the sum of the absolute parts of its amplitude as sampled, after merging and crosstalk, between 2^-200 and 2^200, and let the squares
-- of the start pair and of the rotation pair each sum to at most 1 + 2^-44."
pub record Bounded (amp start rotation : Complex) : Type 0 where
  pub lowest : 2 ^ 874 ≤ absolute amp
  pub highest : absolute amp ≤ 2 ^ 1274
  pub start-turns : squares start ≤ 2 ^ 2148 + 2 ^ 2104
  pub rotation-turns : squares rotation ≤ 2 ^ 2148 + 2 ^ 2104

-- a row of zeros: `len` samples, each for itself 0 or -0, which both equal 0
pub record ZeroRow (len : ℕ) (row : List Float) : Type 0 where
  pub long : length row ≡ len
  pub each : (k : ℕ) → k < len → eq (get_or row k nan) nought ≡ true

-- "rows of zeros": one, or two of one length
pub record Zeros (rows len : ℕ) (st : Rowed) : Type 0 where
  pub i : ZeroRow len st.i
  pub q : rows ≡ 2 → ZeroRow len st.q

-- ---- a pulse as sampled, after merging and crosstalk: the clock, its bin, itself, its start and its offset
pub record AsSampled : Type 0 where
  pub settings : Settings
  pub bin : Bin
  pub pulse : Pulse
  pub start : ℕ
  pub offset : Float

module _ (x : AsSampled) where
  -- its amplitude, its start pair and its rotation pair
  abbrev pub amp_of : Complex
  amp_of = x.pulse.amp

  abbrev pub start_of : Complex
  start_of = start_pair x.settings x.bin x.start x.offset

  abbrev pub rotation_of : Complex
  rotation_of = rotation_pair x.settings x.bin

  -- its length, in samples
  abbrev pub length_of : ℕ
  length_of = count_of x.settings x.bin

  -- "amplitude times start times rotation to the power k"
  abbrev pub exact_of : ℕ → Gauss
  exact_of k = carrier_exactly amp_of start_of rotation_of k

-- x is the one pulse that a call added: its bin stands among the bins by first appearance, and after merging and crosstalk has no other pulse
pub record Only (t : Tables) (r : Request) (c : Crosstalk) (factors : List Float) (bins : List (List Float)) (pulses : List Pulse) (x : AsSampled) : Type 0 where
  pub fit : fitting_of r.rate r.delay r.level ≡ Some x.settings
  pub row : List Float
  pub place : ℕ
  pub within : place < length (bins_by t bins (parts_in (taking_of (planned t r.channel c factors))))
  pub there : get_or (bins_by t bins (parts_in (taking_of (planned t r.channel c factors)))) place [] ≡ row
  pub its-bin : x.bin ≡ bin_of row
  pub only : merged_of t bins pulses (parts_in (taking_of (planned t r.channel c factors))) row ≡ x.pulse ∷ []
  pub placed : placed_at x.settings x.pulse ≡ starts_at x.start x.offset

-- "Then each sample k of the pulse, counted from its start and below its length, lies within (k+1)·2^-49·m of the exact product: amplitude times
-- start times rotation to the power k, with the computed doubles read as exact fractions, in I and, with two rows, likewise in Q." Samples before
-- and behind the pulse stay, bit for bit, what they were: zeros of either sign.
pub record PlateauNear (x : AsSampled) (rows len : ℕ) (st after : Rowed) : Type 0 where
  pub inside : x.start + length_of x ≤ len
  pub in_i : (k : ℕ) → k < length_of x → Near (get_or after.i (x.start + k) nan) (exact_of x k).re k (absolute (amp_of x))
  pub in_q : rows ≡ 2 → (k : ℕ) → k < length_of x → Near (get_or after.q (x.start + k) nan) (exact_of x k).im k (absolute (amp_of x))
  pub before-i : (k : ℕ) → k < x.start → get_or after.i k nan ≡ get_or st.i k nan
  pub behind-i : (k : ℕ) → x.start + length_of x ≤ k → get_or after.i k nan ≡ get_or st.i k nan
  pub before-q : rows ≡ 2 → (k : ℕ) → k < x.start → get_or after.q k nan ≡ get_or st.q k nan
  pub behind-q : rows ≡ 2 → (k : ℕ) → x.start + length_of x ≤ k → get_or after.q k nan ≡ get_or st.q k nan

-- the one pulse, and that there is no other; and what holds of it if it has no shape and keeps the mission's bounds
pub record OneNear (t : Tables) (r : Request) (c : Crosstalk) (factors : List Float) (bins : List (List Float)) (pulses : List Pulse) (len : ℕ) (st after : Rowed) : Type 0 where
  pub one : AsSampled
  pub only : Only t r c factors bins pulses one
  pub alone : (x : AsSampled) → Only t r c factors bins pulses x → x ≡ one
  pub near : one.bin.envelope.shape ≡ Plain → Bounded (amp_of one) (start_of one) (rotation_of one) → PlateauNear one r.rows len st after
