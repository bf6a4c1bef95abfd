-- The first two refusals of an envelope's parts. Assumes nothing.
use Rattle.std.specs.Prelude.{Err}
use Rattle.std.proofs.Common.{◌≡◌, ℕ, true, false, ltb}
use lib.Ieee.{Float, lt}
use Rattle.exact.specs.Doubles.{nought}
use Rattle.quant.specs.declared.refusal.Refusal.TheVariants.{ShapeTooShort, EndPastRow}
use Rattle.shape.specs.Parts.{index_at, t1, t3, parted_of}

module _ (w p o rate dt : Float) (room : ℕ) where
  pub too_short : lt (t1 w p o rate dt) nought ≡ true → Err ShapeTooShort ≡ parted_of w p o rate dt room
  unfolding parted_of
  too_short h = rw h

  module _ (reaches : lt (t1 w p o rate dt) nought ≡ false) (n : ℕ) (length : n ≡ index_at (t3 w p o rate dt) rate) where
    pub past_row : ltb room n ≡ true → Err EndPastRow ≡ parted_of w p o rate dt room
    unfolding parted_of
    past_row h = rw (reaches, ← length, h)
