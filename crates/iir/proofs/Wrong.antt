-- Programs that the promise rules out, each by its smallest input: whatever keeps the promise answers so, and the row stays. Assumes nothing.
use Rattle.quant.specs.Refusal.{Answer, refuse}
use mathlib.Core.Path.{◌≡◌}
use mathlib.Core.Bool.{false}
use mathlib.Core.List.{List, [], ◌∷◌, ◌++◌}
use lib.Ieee.{Float, nan, inf, eq, of_bits}
use Rattle.exact.specs.Doubles.{nought, one, two}
use Rattle.quant.specs.declared.refusal.Refusal.TheVariants.{Malformed, WrongSize, WrongA0}
use Rattle.rows.specs.Rows.{all_finite}
use Rattle.iir.specs.Section.{a0s_from}
use Rattle.iir.specs.Iir.{Iir}

-- a section that changes nothing, but for its a0
abbrev section : Float → List Float
section a0 = one ∷ nought ∷ nought ∷ a0 ∷ nought ∷ nought ∷ []

module _ (x : Float) (r : Answer) (i' q' : List Float) where
  abbrev Filters : List Float → Type 0
  Filters l = Iir 1 (x ∷ []) [] l r i' q'

  -- one that does not read a0, as document 01 had it: "a0 = 2 went through and filtered at the wrong gain"
  pub a0-is-read : Filters (section two) → (r ≡ refuse WrongA0 0) × (i' ≡ x ∷ [])
  unfolding all_finite a0s_from eq of_bits
  a0-is-read h = (h.answer, h.i-row)

  -- one that counts sections from 1; one that reads the first a0 alone
  pub from_0 : Filters (section one ++ section two) → (r ≡ refuse WrongA0 1) × (i' ≡ x ∷ [])
  unfolding all_finite a0s_from eq of_bits
  from_0 h = (h.answer, h.i-row)

  -- one that tells the last
  pub first-of-two : Filters (section two ++ section two) → (r ≡ refuse WrongA0 0) × (i' ≡ x ∷ [])
  unfolding all_finite a0s_from eq of_bits
  first-of-two h = (h.answer, h.i-row)

  -- one by which 2 does not read a0, and one by which 22 is judged section by section before it
  pub finite-a0 : Filters (section (inf false)) → (r ≡ refuse Malformed 0) × (i' ≡ x ∷ [])
  unfolding all_finite a0s_from eq of_bits
  finite-a0 h = (h.answer, h.i-row)

  pub finite-first : Filters (section two ++ section nan) → (r ≡ refuse Malformed 0) × (i' ≡ x ∷ [])
  unfolding all_finite a0s_from eq of_bits
  finite-first h = (h.answer, h.i-row)

  -- one by which 22 comes before 13
  pub sizes-first : Filters (section two ++ nought ∷ []) → (r ≡ refuse WrongSize 0) × (i' ≡ x ∷ [])
  unfolding all_finite a0s_from eq of_bits
  sizes-first h = (h.answer, h.i-row)
