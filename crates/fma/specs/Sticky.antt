-- A number cut to fewer bits whose last bit says whether anything was lost. Definitions only.
use Rattle.std.specs.Prelude.{◌≡◌, ℕ, ◌+◌, ◌-◌, ◌*◌, ◌%◌, ◌^◌, ◌<◌, ◌⊎◌}

-- w stands for s / 2 ^ j: it is that, or it is odd and less than 1 away from it
abbrev pub Sticky : ℕ → ℕ → ℕ → Type 0
Sticky w j s = (w * 2 ^ j ≡ s) ⊎ ((w % 2 ≡ 1) × (w * 2 ^ j < s + 2 ^ j) × (s < w * 2 ^ j + 2 ^ j))

-- q with its last bit set
abbrev pub odd-of : ℕ → ℕ
odd-of q = q - q % 2 + 1

-- n stands for s / 2 ^ e, and where n fits one word nothing was lost
pub record Whole (n e s : ℕ) : Type 0 where
  pub sticky : Sticky n e s
  pub clean : n < 2 ^ 64 → n * 2 ^ e ≡ s
