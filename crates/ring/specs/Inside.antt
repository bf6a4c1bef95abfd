-- Inside the filter: what its functions leave to one another, for one sample, two or eight. Definitions only.
use Rattle.std.specs.Prelude.{◌≡◌, cond, ◌⊎◌, List, ◌++◌, map, ℕ, suc, ◌+◌, ◌-◌, ◌≤◌, ◌<◌, leb, length, take, drop, get_or, Float}
use Rattle.std.proofs.lemmas.List.Edits.{sets}
use Rattle.std.specs.Float.{nan, binary64}
use Rattle.std.specs.Float.Ieee.{add, mul}
use Rattle.exact.specs.Doubles.{nought}
use Rattle.ring.specs.Ring.{sum_to, filtered_from}

-- the sizes hold
pub record Ready (taps ring : List Float) : Type 0 where
  pub some : 1 ≤ length taps
  pub few : length taps ≤ 256
  pub room : length ring ≡ 256

-- one tap: what becomes of a sample, and of a row
abbrev pub by_tap : Float → Float → Float
by_tap t x = add binary64 (mul binary64 t x) nought

abbrev pub by_one_tap : Float → List Float → List Float
by_one_tap t row = map (by_tap t) row

-- ---- several outputs: of the samples xs, the first of which goes to slot s, the p-th finds those up to itself in the ring
-- its sum over the first j slots
abbrev pub output_to : List Float → List Float → ℕ → List Float → ℕ → ℕ → Float
output_to taps ring s xs j p = sum_to taps (sets ring s (take (suc p) xs)) (s + p) j

-- over all
abbrev pub output : List Float → List Float → ℕ → List Float → ℕ → Float
output taps ring s xs p = output_to taps ring s xs (length taps) p

-- ---- eight outputs
-- slot j is none of the eight from slot s on, but for the first
abbrev pub Outside : ℕ → ℕ → Type 0
Outside s j = (j ≤ s) ⊎ (s + 8 ≤ j)

-- the product of output p at the m-th of the eight slots
abbrev pub crossed : List Float → ℕ → Float → Float → ℕ → Float
crossed taps m old new p = cond (leb m p) (mul binary64 (get_or taps (p - m) nan) new) (mul binary64 (get_or taps (length taps - (m - p)) nan) old)

-- each sum has its product added
pub record EachAdded (product : ℕ → Float) (sums sums' : List Float) : Type 0 where
  pub room : length sums' ≡ 8
  pub each : (p : ℕ) → p < 8 → get_or sums' p nan ≡ add binary64 (product p) (get_or sums p nan)

-- each is the sum over the first j slots
pub record Summed (taps ring : List Float) (s : ℕ) (xs : List Float) (j : ℕ) (sums : List Float) : Type 0 where
  pub room : length sums ≡ 8
  pub each : (p : ℕ) → p < 8 → get_or sums p nan ≡ output_to taps ring s xs j p

-- ---- the row as it is to be
-- the samples before the k-th are filtered, and the others will be
abbrev pub row_to_be : List Float → ℕ → List Float → List Float → List Float
row_to_be taps k ring row = take k row ++ filtered_from taps k ring (drop k row)

-- w samples from the k-th on are filtered
pub record Moved (taps : List Float) (k w : ℕ) (ring row ring' row' : List Float) : Type 0 where
  pub left : row_to_be taps (k + w) ring' row' ≡ row_to_be taps k ring row
  pub same : length row' ≡ length row
  pub room : length ring' ≡ length ring

-- some are, as many as there is room for up to the ring's end
pub record Advanced (taps : List Float) (k s w : ℕ) (ring row ring' row' : List Float) : Type 0 where
  pub some : 1 ≤ w
  pub turn : s + w ≤ length taps
  pub within : k + w ≤ length row
  pub moved : Moved taps k w ring row ring' row'
