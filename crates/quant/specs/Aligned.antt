-- Document 01, "Placing and sampling": i = ceil((time+delay)*(rate*2^-level)); aligned = i*2^level. The start is aligned cut off; offset = ceil(aligned) - aligned. Definitions only.
use Rattle.quant.specs.Refusal.{Answer, refuse}
use Rattle.quant.specs.declared.aligned.Misplaced.{Misplaced}
use Rattle.quant.specs.declared.aligned.Start.{Start}
use Rattle.std.specs.Prelude.{◌≡◌, Bool, false, cond, ℕ, ◌+◌, ◌*◌, ◌^◌, ◌<◌, ℤ, neg_ℤ, Float, Option, Some, None, Result, Err, Ok}
use Rattle.quant.specs.declared.aligned.Misplaced.TheVariants as placed
use Rattle.std.specs.Float.{binary64}
use Rattle.std.specs.Float.Ieee.{mul, sub, lt}
use Rattle.std.specs.Float.Ieee.Exact.{HasValue}
use Rattle.std.specs.Float.Ieee.Scale.{finite}
use Rattle.exact.specs.Doubles.{nought}
use Rattle.ieee.specs.Ceiling.{ceiling}
use Rattle.ieee.specs.Cut.{cut_of}
use Rattle.ieee.specs.Exp2.{exp2_of}
use Rattle.ieee.specs.declared.cut.Cut.{Cut}
use Rattle.ieee.specs.declared.cut.Cut.TheVariants as cut
use Rattle.quant.specs.declared.refusal.Refusal.TheVariants as refusal

-- rate*2^-level; time times that; its ceiling i, times 2^level. Each operation rounds once.
abbrev pub scaled_rate : Float → ℤ → Float
scaled_rate rate level = mul binary64 rate (exp2_of (neg_ℤ level))

abbrev pub steps_at : Float → Float → ℤ → Float
steps_at time rate level = mul binary64 time (scaled_rate rate level)

abbrev pub aligned_at : Float → Float → ℤ → Float
aligned_at time rate level = mul binary64 (ceiling (steps_at time rate level)) (exp2_of level)

-- each number worked out is judged, and one that is not finite is the answer
abbrev pub judged : Float → Option Float → Option Float
judged x a = cond (finite x) a None

abbrev pub aligned_of : Float → Float → ℤ → Option Float
aligned_of time rate level =
    judged (scaled_rate rate level)
    (judged (steps_at time rate level) (judged (aligned_at time rate level) (Some (aligned_at time rate level))))

-- a start and an offset
abbrev pub starts_at : ℕ → Float → Result Start Misplaced
starts_at w x = Ok (record { index = w; offset = x })

-- the start where the aligned index a is cut off to w; -0.25 is below 0, and -0 is not
abbrev pub cut_to : Float → Cut → Result Start Misplaced
cut_to a (cut.Index w) = starts_at w (sub binary64 (ceiling a) a)
cut_to a cut.Below = Err placed.Before
cut_to a cut.Above = Err placed.Beyond
cut_to a cut.NotANumber = Err placed.NotFinite

abbrev pub start_of : Float → Result Start Misplaced
start_of a = cond (lt a nought) (Err placed.Before) (cut_to a (cut_of a))

abbrev pub placed_of : Option Float → Result Start Misplaced
placed_of (Some a) = start_of a
placed_of None = Err placed.NotFinite

-- ---- what the cases answer
abbrev pub aligned_answer : Option Float → Answer
aligned_answer (Some a) = Ok 0
aligned_answer None = refuse refusal.NotFinite 0

abbrev pub placed_answer : Result Start Misplaced → Answer
placed_answer (Ok p) = Ok 0
placed_answer (Err placed.NotFinite) = refuse refusal.NotFinite 0
placed_answer (Err placed.Before) = refuse refusal.BeforeRow 0
placed_answer (Err placed.Beyond) = refuse refusal.StartPastRow 0

-- ---- what is proved of the offset (proofs/Offset.antt)

-- In steps of 2^-20 samples: the aligned index a is w of them, its ceiling is n samples, and the offset x is d steps, exactly the n 2^20 - w that are missing, less than one sample.
pub record Offset (a x : Float) : Type 0 where
  pub s : Bool
  pub w : ℕ
  pub n : ℕ
  pub d : ℕ
  pub index : HasValue a s w (2 ^ 20)
  pub above : HasValue (ceiling a) s n 1
  pub offset : HasValue x false d (2 ^ 20)
  pub exact : w + d ≡ n * 2 ^ 20
  pub less : d < 2 ^ 20
