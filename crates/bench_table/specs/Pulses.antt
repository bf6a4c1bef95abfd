-- The bench examples B1 to B4 and B6: what a line says of a pulse, and what that claims of the calls `place`, `measure`, `judge` and `sample`.
-- Definitions only.
use Rattle.quant.specs.Aligned.{starts_at}
use Rattle.std.specs.Prelude.{ℕ, ◌≡◌, [], ◌∷◌, ℤ, Float, replicate, set, Result, Ok, Err}
use Rattle.quant.specs.declared.refusal.Refusal.{Refusal}
use Rattle.quant.specs.Refusal.{number_of, code_of}
use Rattle.shape.specs.Parts.{parted_of}
use Rattle.shape.specs.Envelope.{enveloped_of}
use Rattle.pulse.specs.declared.bin.Bin.{Bin}
use Rattle.pulse.specs.declared.envelope.Shape.TheVariants.{Plain, Hann}
use Rattle.pulse.specs.declared.list.Pulse.{Pulse}
use Rattle.pulse.specs.Bin.{no_numbers}
use Rattle.placing.specs.declared.Judged.{Judged}
use Rattle.placing.specs.declared.Judged.TheVariants.{Plateau, Shaped}
use Rattle.placing.specs.Judged.{placed_at, flat_of, judged}
use Rattle.bench_table.specs.Numbers.{whole}
use Rattle.bench_table.specs.Call.{clock, bin_with, pulse_at, sampled_on}

-- "start 3, offset 0"; "accepted"; "refusal 9"
pub data Says : Type 0 where
  start : ℕ → Float → Says
  accepted : Says
  refusal : ℕ → Says

-- ---- the number of a refusal, and 0 where there is none

-- by the line, by `judge`, by `measure`
abbrev pub number_said : Says → ℕ
number_said (start begin offset) = 0
number_said accepted = 0
number_said (refusal n) = n

abbrev pub number_judged : Result Judged Refusal → ℕ
number_judged (Ok (Plateau f)) = 0
number_judged (Ok (Shaped c)) = 0
number_judged (Err r) = number_of r

abbrev pub number_measured : Result ℕ Refusal → ℕ
number_measured (Ok n) = 0
number_measured (Err r) = number_of r

-- ---- of a pulse p of the bin b at a level, on a row of `length` samples

-- accepted (0), or refused with a number, by `judge` and by `sample`
pub record Numbered (b : Bin) (p : Pulse) (level : ℤ) (length number : ℕ) : Type 0 where
  pub judge : number_judged (judged (clock level) b no_numbers p length) ≡ number
  pub sample : code_of (sampled_on (whole 0) b (p ∷ []) level length).answer ≡ number

-- A pulse of one sample is accepted, and begins there with this offset; `sample` adds one pulse, and its row then holds 1 there and 0 elsewhere.
pub record Starts (b : Bin) (p : Pulse) (level : ℤ) (length begin : ℕ) (offset : Float) : Type 0 where
  pub place : placed_at (clock level) p ≡ starts_at begin offset
  pub judge : judged (clock level) b no_numbers p length ≡ Ok (Plateau (flat_of (clock level) b p begin offset))
  pub sample : (sampled_on (whole 0) b (p ∷ []) level length).answer ≡ Ok 1
  pub row : (sampled_on (whole 0) b (p ∷ []) level length).rows.i ≡ set (replicate length (whole 0)) begin (whole 1)

-- ---- B1 to B4: no shape

pub record Placing : Type 0 where
  pub plateau : Float
  pub length : ℕ
  pub level : ℤ
  pub time : Float
  pub says : Says

-- what each saying claims
abbrev pub PlacedAs : Bin → Pulse → ℤ → ℕ → Says → Type 0
PlacedAs b p level length (start begin offset) = Starts b p level length begin offset
PlacedAs b p level length accepted = Numbered b p level length 0
PlacedAs b p level length (refusal n) = Numbered b p level length n

-- what a row claims
abbrev pub Places : Placing → Type 0
Places l = PlacedAs (bin_with Plain (whole 0) l.plateau) (pulse_at l.time) l.level l.length l.says

-- ---- B6: Hann, at a time and a level that give the offset

pub record Shaping : Type 0 where
  pub length : ℕ
  pub level : ℤ
  pub time : Float
  pub offset : Float
  pub plateau : Float
  pub width : Float
  pub says : Says

-- the offset that `place` gives; what `measure` answers of the envelope there; the whole pulse
pub record Shapes (l : Shaping) : Type 0 where
  pub begin : ℕ
  pub place : placed_at (clock l.level) (pulse_at l.time) ≡ starts_at begin l.offset
  pub measure : number_measured (enveloped_of Hann no_numbers (parted_of l.width l.plateau l.offset (whole 1) (whole 1) l.length)) ≡ number_said l.says
  pub pulse : Numbered (bin_with Hann l.width l.plateau) (pulse_at l.time) l.level l.length (number_said l.says)
