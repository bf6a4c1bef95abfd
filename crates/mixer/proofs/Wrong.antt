-- Programs that the promise rules out, each by its smallest input: whatever keeps the promise answers and leaves so. Assumes nothing.
use Rattle.quant.specs.Refusal.{Answer, refuse}
use mathlib.Core.Path.{◌≡◌}
use mathlib.Core.Bool.{false}
use mathlib.Core.List.{List, [], ◌∷◌}
use lib.Ieee.{Float, nan, inf, binary64, round, units, odd, sum, add, mul, of_bits}
use Rattle.exact.specs.Doubles.{nought, one}
use Rattle.fma.specs.Fused.{fma}
use Rattle.quant.specs.declared.refusal.Refusal.TheVariants.{Malformed, WrongSize}
use Rattle.rows.specs.Rows.{all_finite}
use Rattle.mixer.specs.Mixer.{corrected_row, mixer_fits, Mixer}
use Rattle.mixer.specs.Lone.{unit_matrix, no_offsets}

-- 2^-53, 1 + 2^-52, -(1 + 2^-51) and 2^-104
abbrev half : Float
half = of_bits binary64 0x3ca0_0000_0000_0000

abbrev next : Float
next = of_bits binary64 0x3ff0_0000_0000_0001

abbrev below : Float
below = of_bits binary64 0xbff0_0000_0000_0002

abbrev tiny : Float
tiny = of_bits binary64 0x3970_0000_0000_0000

abbrev no_matrix : List Float
no_matrix = nought ∷ nought ∷ nought ∷ nought ∷ []

module _ (r : Answer) (i' q' : List Float) where
  -- two rows of one sample each
  abbrev Corrects : Float → Float → List Float → List Float → Type 0
  Corrects x y m o = Mixer 2 (x ∷ []) (y ∷ []) m o r i' q'

  -- one that adds no offset, one that adds it before the matrix, one that gives both rows the first, one that exchanges the two
  pub offset-behind : Corrects nought nought no_matrix (one ∷ nought ∷ []) → (i' ≡ one ∷ []) × (q' ≡ nought ∷ [])
  unfolding mixer_fits corrected_row fma add mul sum round units odd all_finite of_bits
  offset-behind h = (h.first, h.second)

  -- one that reads the matrix by columns
  pub rows-not-columns : Corrects nought one (nought ∷ one ∷ nought ∷ nought ∷ []) no_offsets → (i' ≡ one ∷ []) × (q' ≡ nought ∷ [])
  unfolding mixer_fits corrected_row fma add mul sum round units odd all_finite of_bits
  rows-not-columns h = (h.first, h.second)

  -- one that makes the new Q of the new I
  pub from-old-first : Corrects nought nought (nought ∷ nought ∷ one ∷ nought ∷ []) (one ∷ nought ∷ []) → (i' ≡ one ∷ []) × (q' ≡ nought ∷ [])
  unfolding mixer_fits corrected_row fma add mul sum round units odd all_finite of_bits
  from-old-first h = (h.first, h.second)

  -- one that adds the offset to the second product, or rounds product, product and offset at once: 1 + 2^-53 is 1, and so again
  pub offset-rounds : Corrects one half (one ∷ one ∷ nought ∷ nought ∷ []) (half ∷ nought ∷ []) → i' ≡ one ∷ []
  unfolding mixer_fits corrected_row fma add mul sum round units odd all_finite of_bits
  offset-rounds h = h.first

  -- one that rounds the first product too: (1 + 2^-52) squared less 1 + 2^-51
  pub first-is_fused : Corrects next one (next ∷ below ∷ nought ∷ nought ∷ []) no_offsets → i' ≡ tiny ∷ []
  unfolding mixer_fits corrected_row fma add mul sum round units odd all_finite of_bits
  first-is_fused h = h.first

  -- one by which 2 does not read the offsets, and one that mixes before it does
  pub offsets-finite : Corrects nought nought (one ∷ one ∷ one ∷ one ∷ []) (nought ∷ inf false ∷ []) → (r ≡ refuse Malformed 0) × (i' ≡ nought ∷ []) × (q' ≡ nought ∷ [])
  unfolding mixer_fits all_finite of_bits
  offsets-finite h = (h.answer, h.first, h.second)

  -- one by which 2 comes before 13: of a matrix that is not finite, and a third offset
  pub sizes-first : Corrects nought nought (nan ∷ one ∷ one ∷ one ∷ []) (nought ∷ nought ∷ nought ∷ []) → (r ≡ refuse WrongSize 0) × (i' ≡ nought ∷ []) × (q' ≡ nought ∷ [])
  unfolding mixer_fits all_finite of_bits
  sizes-first h = (h.answer, h.first, h.second)

  -- one that still offsets one row
  pub one-row-refused : Mixer 1 (nought ∷ []) [] unit_matrix (one ∷ []) r i' q' → (r ≡ refuse WrongSize 0) × (i' ≡ nought ∷ [])
  unfolding mixer_fits all_finite of_bits
  one-row-refused h = (h.answer, h.first)
