-- Document 01, "Placing and sampling": "phase0 = global*(start*dt - delay) + (local*offset)*dt; dphase = (global+local)*dt, dt = 1/rate", and 8 for
-- "phases and each phase*TAU". Each operation rounds once and is judged. Definitions only.
use Rattle.std.specs.Prelude.{ℕ, cond, ◌&&◌, List, [], ◌∷◌, Float, Option, Some, None}
use Rattle.std.specs.Float.{binary64}
use Rattle.std.specs.Float.Ieee.{add, sub, mul}
use Rattle.std.specs.Float.Ieee.Scale.{finite}
use Rattle.quant.specs.declared.complex.Complex.{Complex}
use Rattle.quant.specs.declared.settings.Settings.{Settings}
use Rattle.quant.specs.Phaser.{radians_of, pair_at}
use Rattle.rows.specs.Rows.{all_finite}
use Rattle.points.specs.Points.{number}
use Rattle.pulse.specs.declared.bin.Bin.{Bin}
use Rattle.placing.specs.declared.phases.Phases.{Phases}

-- start*dt; that less the delay
abbrev pub start_time : Settings → ℕ → Float
start_time s start = mul binary64 (number start) s.dt.0

abbrev pub since_delay : Settings → ℕ → Float
since_delay s start = sub binary64 (start_time s start) s.delay.0

-- global*(start*dt - delay)
abbrev pub global_phase : Settings → Bin → ℕ → Float
global_phase s b start = mul binary64 b.global.0 (since_delay s start)

-- local*offset; that times dt
abbrev pub local_slip : Bin → Float → Float
local_slip b offset = mul binary64 b.local.0 offset

abbrev pub local_phase : Settings → Bin → Float → Float
local_phase s b offset = mul binary64 (local_slip b offset) s.dt.0

unfoldable pub phase0 : Settings → Bin → ℕ → Float → Float
phase0 s b start offset = add binary64 (global_phase s b start) (local_phase s b offset)

-- global+local
abbrev pub total_of : Bin → Float
total_of b = add binary64 b.global.0 b.local.0

unfoldable pub dphase : Settings → Bin → Float
dphase s b = mul binary64 (total_of b) s.dt.0

-- the carrier's phaser at the start, and the rotation from one sample to the next: (cos, sin) at phase*TAU
unfoldable pub start_pair : Settings → Bin → ℕ → Float → Complex
start_pair s b start offset = pair_at (radians_of (phase0 s b start offset))

unfoldable pub rotation_pair : Settings → Bin → Complex
rotation_pair s b = pair_at (radians_of (dphase s b))

-- every number that is worked out on the way to both, in this order
unfoldable pub phase_numbers : Settings → Bin → ℕ → Float → List Float
phase_numbers s b start offset =
    start_time s start
    ∷ since_delay s start
    ∷ global_phase s b start
    ∷ local_slip b offset
    ∷ local_phase s b offset
    ∷ phase0 s b start offset
    ∷ total_of b
    ∷ dphase s b
    ∷ radians_of (phase0 s b start offset)
    ∷ radians_of (dphase s b)
    ∷ []

-- at the start, and from one sample to the next
abbrev pub pairs : Complex → Complex → Option Phases
pairs u d = Some (record { start = u; step = d })

abbrev pub turned_of : Settings → Bin → ℕ → Float → Option Phases
turned_of s b start offset = cond (all_finite (phase_numbers s b start offset)) (pairs (start_pair s b start offset) (rotation_pair s b)) None

-- of two phases alone
abbrev pub pairs_of : Float → Float → Option Phases
pairs_of p d = cond (finite (radians_of p) && finite (radians_of d)) (pairs (pair_at (radians_of p)) (pair_at (radians_of d))) None
