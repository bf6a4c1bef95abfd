-- Rows of bins: the head and the numbers behind it, and when two rows are the same. Assumes nothing.
use Prim.Native.Nat.{◌<◌}
use mathlib.Core.Path.{◌≡◌, refl, sym, ap, ◌∙◌}
use mathlib.Core.Bool.{false, not, ◌&&◌, ◌||◌, and-true}
use mathlib.Core.List.{List, [], ◌∷◌, ◌++◌, append-nil}
use native.Mathlib.Omega.{arith}
use lib.Ieee.{Float, eq, nan, of_bits}
use lib.ListN.{length, get_or, take, drop, get_or-append}
use lib.Seq.{take_at, drop_at}
use Rattle.exact.specs.Doubles.{two}
use Rattle.spline.specs.Same.{same_numbers}
use Rattle.pulse.specs.declared.bin.Bin.{Bin}
use Rattle.pulse.specs.declared.envelope.Shape.{Shape}
use Rattle.pulse.specs.declared.envelope.Shape.TheVariants.{Plain, Hann, Spline}
use Rattle.pulse.specs.Bin.{code_of, shape_of, row_of, bin_of, same_row, place_of}

-- a row and one of a head and numbers behind it
module _ (row head numbers : List Float) (g : length head ≡ 5) where
  pub by_parts : same_row row (head ++ numbers)
      ≡ (same_numbers (take 5 row) head && (not (eq (get_or head 0 nan) two) || same_numbers (drop 5 row) numbers))
  unfolding same_row
  by_parts = let k : 0 < length head = omega arith in rw (take_at head numbers 5 g, drop_at head numbers 5 g, get_or-append head numbers nan 0 k)

  -- of another shape
  pub of_plain : eq (get_or head 0 nan) two ≡ false → same_row row (head ++ numbers) ≡ same_numbers (take 5 row) head
  of_plain e = by_parts ∙ rw (e, and-true (same_numbers (take 5 row) head))

-- a head alone
pub plain-alone : (row head : List Float) → length head ≡ 5 → eq (get_or head 0 nan) two ≡ false → same_row row head ≡ same_numbers (take 5 row) head
plain-alone row head g e = ap (same_row row) (sym (append-nil head)) ∙ of_plain row head [] g e

-- what stands behind a head that is no spline's is not read
pub place-plain : (head numbers : List Float) (rows : List (List Float)) → length head ≡ 5 → eq (get_or head 0 nan) two ≡ false → place_of (head ++ numbers) rows ≡ place_of head rows
unfolding place_of
place-plain head numbers [] g e = refl
place-plain head numbers (r ∷ rs) g e = rw (of_plain r head numbers g e, sym (plain-alone r head g e), place-plain head numbers rs g e)

-- a bin, written as a row and read again, is the bin
shape-again : (s : Shape) → shape_of (code_of s) ≡ s
unfolding eq of_bits
shape-again Plain = refl
shape-again Hann = refl
shape-again Spline = refl

pub bin-again : (b : Bin) (numbers : List Float) → bin_of (row_of b numbers) ≡ b
bin-again b numbers = rw (shape-again b.envelope.shape)
