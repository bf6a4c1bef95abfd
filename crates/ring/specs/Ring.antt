-- Document 01, "FIR: one lane in the Rust's ring order, product and sum rounded apart", with "a ring of 256 numbers, all zero before each
-- row"; document 02, P3: the taps are kept once, and each tap's place is found by wrapping round. Definitions only.
use Rattle.std.specs.Prelude.{◌&&◌, cond, List, [], ◌∷◌, ℕ, zero, suc, ◌+◌, ◌-◌, ◌%◌, leb, length, get_or, set, replicate, Float}
use Rattle.std.specs.Float.{nan, binary64}
use Rattle.std.specs.Float.Ieee.{add, mul}
use Rattle.exact.specs.Doubles.{nought}

-- ---- the taps
-- how many samples back the sample of slot j is, in a ring of n slots whose newest sample stands in slot s: wrapping round
abbrev pub delay : ℕ → ℕ → ℕ → ℕ
delay n s j = (n + s - j) % n

-- the tap that meets slot j while the newest sample stands in slot s
unfoldable pub tap_at : List Float → ℕ → ℕ → Float
tap_at taps s j = get_or taps (delay (length taps) s j) nan

-- ---- the ring: sample k goes to slot k % n, in the place of the one n samples before it
abbrev pub slot_of : List Float → ℕ → ℕ
slot_of taps k = k % length taps

abbrev pub put : List Float → ℕ → Float → List Float → List Float
put taps k x ring = set ring (slot_of taps k) x

-- the sum over the first j slots, slot 0 first: the product is rounded, then the sum
unfoldable pub sum_to : List Float → List Float → ℕ → ℕ → Float
sum_to taps ring s zero = nought
sum_to taps ring s (suc j) = add binary64 (mul binary64 (tap_at taps s j) (get_or ring j nan)) (sum_to taps ring s j)

-- over as many slots as there are taps
abbrev pub ring_sum : List Float → List Float → ℕ → Float
ring_sum taps ring s = sum_to taps ring s (length taps)

-- ---- the samples from the k-th on, filtered; the ring is as the sample before left it
unfoldable pub filtered_from : List Float → ℕ → List Float → List Float → List Float
filtered_from taps k ring [] = []
filtered_from taps k ring (x ∷ xs) = ring_sum taps (put taps k x ring) (slot_of taps k) ∷ filtered_from taps (suc k) (put taps k x ring) xs

-- a row: the ring is all zero before it
abbrev pub filtered_row : List Float → List Float → List Float
filtered_row taps row = filtered_from taps 0 (replicate 256 nought) row

-- 1 to 256 taps; else the row stays
abbrev pub filtered_or_kept : List Float → List Float → List Float
filtered_or_kept taps row = cond (leb 1 (length taps) && leb (length taps) 256) (filtered_row taps row) row
