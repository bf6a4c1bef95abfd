-- The row as document 01 has it, with "the taps doubled as there", which document 02's P3 takes away: words of the law that says that no answer
-- moved. Definitions only.
use Rattle.std.specs.Prelude.{List, [], ◌∷◌, ◌++◌, reverse, ℕ, zero, suc, ◌+◌, ◌-◌, length, get_or, replicate, Float}
use Rattle.std.specs.Float.{nan, binary64}
use Rattle.std.specs.Float.Ieee.{add, mul}
use Rattle.exact.specs.Doubles.{nought}
use Rattle.ring.specs.Ring.{slot_of, put}

-- the last tap first, and all of them once more
unfoldable pub doubled : List Float → List Float
doubled taps = reverse taps ++ reverse taps

-- the tap that met slot j while the newest sample stood in slot s: read straight on
abbrev pub tap_doubled : List Float → ℕ → ℕ → Float
tap_doubled taps s j = get_or (doubled taps) (length taps - s - 1 + j) nan

-- the sum over the first j slots, the samples from the k-th on, and the row: as in `ring`
unfoldable pub sum_doubled : List Float → List Float → ℕ → ℕ → Float
sum_doubled taps ring s zero = nought
sum_doubled taps ring s (suc j) = add binary64 (mul binary64 (tap_doubled taps s j) (get_or ring j nan)) (sum_doubled taps ring s j)

unfoldable pub filtered_doubled_from : List Float → ℕ → List Float → List Float → List Float
filtered_doubled_from taps k ring [] = []
filtered_doubled_from taps k ring (x ∷ xs) = sum_doubled taps (put taps k x ring) (slot_of taps k) (length taps) ∷ filtered_doubled_from taps (suc k) (put taps k x ring) xs

abbrev pub filtered_doubled : List Float → List Float → List Float
filtered_doubled taps row = filtered_doubled_from taps 0 (replicate 256 nought) row
