-- A fraction's whole part whose last bit says whether anything was lost. Definitions only.
use Rattle.std.specs.Prelude.{◌≡◌, ◌⊎◌, ℕ, ◌+◌, ◌*◌, ◌%◌, ◌^◌, ◌≤◌, ◌<◌}
use Rattle.fma.specs.Sticky.{Sticky}

-- w stands for s / b: it is that, or it is odd and less than 1 away from it. At b = 2 ^ j this is `Sticky`
abbrev pub Near : ℕ → ℕ → ℕ → Type 0
Near w b s = (w * b ≡ s) ⊎ ((w % 2 ≡ 1) × (w * b < s + b) × (s < w * b + b))

-- n is s, or it is its leading bits, more than a word of them, without the last `lost`
pub record Top (n lost s : ℕ) : Type 0 where
  pub stands : ((lost ≡ 0) × (n ≡ s)) ⊎ ((2 ^ 64 ≤ n) × Sticky n lost s)
