-- The coefficients are what they are said to be: the doubles nearest to 1 / (2 k)! and to 1 / (2 k + 1)!, for k from 1 to 13. antt
-- computes them. Assumes nothing.
use mathlib.Core.Path.{◌≡◌, refl}
use mathlib.Core.List.{List, [], ◌∷◌}
use mathlib.Core.Bool.{false}
use Prim.Native.Nat.{ℕ, zero, suc, ◌+◌, ◌*◌}
use lib.Ieee.{Float, binary64, of_bits, round}
use Rattle.trig.specs.Trig.{evens, odds}
use Rattle.trig.specs.Series.{factorial}

-- n of them, from k on
unfoldable pub inverses : ℕ → ℕ → ℕ → List Float
unfolding factorial
inverses zero o k = []
inverses (suc n) o k = round binary64 false 1 (factorial (2 * k + o)) ∷ inverses n o (suc k)

pub evens-nearest : evens ≡ inverses 13 0 1
unfolding inverses of_bits round
evens-nearest = refl

pub odds-nearest : odds ≡ inverses 13 1 1
unfolding inverses of_bits round
odds-nearest = refl
