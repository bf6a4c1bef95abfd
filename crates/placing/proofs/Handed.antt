-- A refusal from below is the pulse's answer, number and place: of its aligned index, its start, its envelope's parts or its envelope's points. By cases. Assumes nothing.
use Rattle.quant.specs.Refusal.{Answer, refuse}
use Rattle.quant.specs.declared.aligned.Misplaced.{Misplaced}
use Rattle.quant.specs.declared.aligned.Start.{Start}
use Rattle.std.specs.Prelude.{Option, Some, None, Result, Ok, Err}
use Rattle.quant.specs.declared.aligned.Misplaced.TheVariants as placed
use Rattle.shape.specs.declared.parts.Parts.{Parts}
use Rattle.std.proofs.Common.{◌≡◌, ℕ, List, arith}
use lib.Ieee.{Float}
use Rattle.quant.specs.declared.refusal.Refusal.{Refusal}
use Rattle.quant.specs.declared.settings.Settings.{Settings}
use Rattle.quant.specs.Aligned.{placed_of, aligned_answer, placed_answer}
use Rattle.shape.specs.Parts.{parted_answer}
use Rattle.shape.specs.Envelope.{enveloped_of, enveloped_answer}
use Rattle.pulse.specs.declared.bin.Bin.{Bin}
use Rattle.pulse.specs.declared.envelope.Shape.{Shape}
use Rattle.pulse.specs.declared.list.Pulse.{Pulse}
use Rattle.placing.specs.Judged.{shaped_at, judged_at, judged_answer}

-- the answer above is the refusal below, where there is one
abbrev pub Handed : Answer → Answer → Type 0
Handed below above = (r : Refusal) (k : ℕ) → below ≡ refuse r k → above ≡ refuse r k

accepted : (n : ℕ) (above : Answer) → Handed (Ok n) above
accepted n above r k e = let z : ◌≡◌ {A = ℕ} 0 1 = cc in absurd (omega arith)

pub start-handed : (a : Option Float) → Handed (aligned_answer a) (placed_answer (placed_of a))
start-handed (Some x) = accepted 0 (placed_answer (placed_of (Some x)))
start-handed None = λ r k e. e

pub points-handed : (shape : Shape) (numbers : List Float) (x : Result Parts Refusal) → Handed (parted_answer x) (enveloped_answer (enveloped_of shape numbers x))
points-handed shape numbers (Ok p) = accepted 0 (enveloped_answer (enveloped_of shape numbers (Ok p)))
points-handed shape numbers (Err r) = λ q k e. e

module _ (s : Settings) (b : Bin) (numbers : List Float) (p : Pulse) where
  pub judged-handed : (len : ℕ) (x : Result Start Misplaced) → Handed (placed_answer x) (judged_answer (judged_at s b numbers p len x))
  judged-handed len (Ok q) = accepted 0 (judged_answer (judged_at s b numbers p len (Ok q)))
  judged-handed len (Err placed.NotFinite) = λ r k e. e
  judged-handed len (Err placed.Before) = λ r k e. e
  judged-handed len (Err placed.Beyond) = λ r k e. e

  pub shaped-handed : (start : ℕ) (offset : Float) (x : Result ℕ Refusal) → Handed (enveloped_answer x) (judged_answer (shaped_at s b p start offset x))
  shaped-handed start offset (Ok n) = accepted 0 (judged_answer (shaped_at s b p start offset (Ok n)))
  shaped-handed start offset (Err r) = λ q k e. e
