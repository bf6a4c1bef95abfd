-- Document 01, "Placing and sampling": "plateau adds carrier, which starts at phaser*amp; then carrier *= rotation". Definitions only.
use Rattle.std.specs.Prelude.{ℕ, zero, suc, List, [], ◌∷◌, Float}
use Rattle.std.specs.Float.{binary64}
use Rattle.std.specs.Float.Ieee.{add}
use Rattle.quant.specs.declared.complex.Complex.{Complex}
use Rattle.quant.specs.Complex.{times_c}

-- the part that the I row takes, and the part that the Q row takes
abbrev pub real : Complex → Float
real z = z.re

abbrev pub imaginary : Complex → Float
imaginary z = z.im

-- samples with a part of the carrier z added to each; z is multiplied by d after each sample
unfoldable pub carried : (Complex → Float) → Complex → Complex → List Float → List Float
carried part z d [] = []
carried part z d (x ∷ xs) = add binary64 x (part z) ∷ carried part (times_c z d) d xs

-- ---- what is proved of it (proofs/Samples.antt)

-- the carrier z after n samples: times d, n times, in order
unfoldable pub carrier_after : ℕ → Complex → Complex → Complex
carrier_after zero z d = z
carrier_after (suc n) z d = times_c (carrier_after n z d) d
