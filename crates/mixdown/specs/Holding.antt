-- What the scratch holds between the pulses of one bin: an envelope that need not be worked out again. Definitions only.
use Rattle.quant.specs.declared.refusal.Refusal.{Refusal}
use Rattle.std.specs.Prelude.{ℕ, ◌≡◌, Bool, true, false, List, Float, Option, Some, Result, Ok, Err}
use Rattle.quant.specs.declared.settings.Settings.{Settings}
use Rattle.shape.specs.Envelope.{scratch_after}
use Rattle.pulse.specs.declared.bin.Bin.{Bin}
use Rattle.placing.specs.declared.Judged.{Judged}
use Rattle.placing.specs.declared.Judged.TheVariants as judgement
use Rattle.mixdown.specs.Sampled.{parts_at}

-- the envelope at the held offset would leave the scratch as it is, whatever the room
abbrev pub Holds : Settings → Bin → List Float → Option Float → List Float → Type 0
Holds s b numbers held scratch =
    (offset : Float) → held ≡ Some offset → (room : ℕ) → scratch_after b.envelope.shape numbers (parts_at s b offset room) scratch ≡ scratch

abbrev pub accepted : Result Judged Refusal → Bool
accepted (Ok (judgement.Plateau f)) = true
accepted (Ok (judgement.Shaped c)) = true
accepted (Err r) = false

-- what the addition of a pulse that was judged tells, with the scratch that it leaves
abbrev pub Told : Settings → Bin → List Float → Result Judged Refusal → Result (Option Float) Refusal → List Float → Type 0
Told s b numbers j (Ok held) scratch = (accepted j ≡ true) × Holds s b numbers held scratch
Told s b numbers j (Err r) scratch = j ≡ Err r
