-- A tap's place, found by wrapping round: back from the newest sample's slot, and then on from the last tap. Assumes nothing.
use mathlib.Core.Path.{◌≡◌, refl, ap, ◌∙◌}
use mathlib.Core.List.{List}
use Prim.Native.Nat.{ℕ, ◌+◌, ◌-◌, ◌%◌, ◌≤◌, ◌<◌}
use native.Mathlib.Nat.{mod-lt, mod-eq_of_lt, add-mod_left}
use native.Mathlib.Omega.{arith}
use lib.ListN.{length, get_or}
use lib.Ieee.{Float, nan}
use Rattle.ring.specs.Ring.{delay, tap_at}

-- up to the newest sample's slot
pub delay-back : (n s j : ℕ) → s < n → j ≤ s → delay n s j ≡ s - j
delay-back n s j h g = ap (λ (m : ℕ). m % n) (out n s j g) ∙ add-mod_left n (s - j) ∙ mod-eq_of_lt (omega arith)
  where
    out : (n s j : ℕ) → j ≤ s → n + s - j ≡ n + (s - j)
    out n s j g = omega arith

-- after it
pub delay-round : (n s j : ℕ) → s < j → j < n → delay n s j ≡ n + s - j
delay-round n s j h g = mod-eq_of_lt (omega arith)

pub delay-within : (n s j : ℕ) → 1 ≤ n → delay n s j < n
delay-within n s j h = mod-lt (n + s - j) h

pub tap_is : (taps : List Float) (s j : ℕ) → tap_at taps s j ≡ get_or taps (delay (length taps) s j) nan
unfolding tap_at
tap_is taps s j = refl

module _ (taps : List Float) (s j : ℕ) where
  pub tap_back : s < length taps → j ≤ s → tap_at taps s j ≡ get_or taps (s - j) nan
  tap_back h g = tap_is taps s j ∙ ap (λ (m : ℕ). get_or taps m nan) (delay-back (length taps) s j h g)

  pub tap_round : s < j → j < length taps → tap_at taps s j ≡ get_or taps (length taps + s - j) nan
  tap_round h g = tap_is taps s j ∙ ap (λ (m : ℕ). get_or taps m nan) (delay-round (length taps) s j h g)
