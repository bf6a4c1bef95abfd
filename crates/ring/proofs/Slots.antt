-- The product that each of several outputs has at a slot, by the place of its tap: before the new samples' slots and after them the ring is as it
-- was for all of them, and at the m-th of these slots the outputs before the m-th find the old sample, the others the new one. Assumes nothing.
use mathlib.Core.Path.{◌≡◌, refl, sym, ap, ◌∙◌}
use mathlib.Core.List.{List, [], ◌∷◌}
use Prim.Native.Nat.{ℕ, zero, suc, ◌+◌, ◌-◌, ◌≤◌, ◌<◌}
use native.Mathlib.Nat.{add-zero, not-suc-le-zero, le_of_suc-le-suc}
use native.Mathlib.Numerals.{add-one}
use native.Mathlib.Omega.{arith}
use lib.ListN.{length, take, get_or, set, length-set}
use lib.Seq.{sets, get_or-set_same, get_or-set_other, get_or-take, length-take-le}
use lib.Ieee.{Float, nan, binary64, add, mul}
use Rattle.ring.specs.Ring.{tap_at, sum_to}
use Rattle.ring.specs.Inside.{Ready, output_to}
use Rattle.ring.proofs.Tap.{tap_back, tap_round}

-- ---- places
pub next : (s p : ℕ) → s + suc p ≡ suc s + p
next s p = omega arith

rest : (i j t : ℕ) → t + j ≡ i → i - j ≡ t
rest i j t e = omega arith

pub ready-room : {taps ring : List Float} → Ready taps ring → length taps ≤ length ring
ready-room ready = omega (arith, ready.few, ready.room)

-- ---- numbers stored one after the other change only the places they are stored at
pub sets-before : (xs l : List Float) (s j : ℕ) → j < s → get_or (sets l s xs) j nan ≡ get_or l j nan
sets-before [] l s j h = refl
sets-before (x ∷ xs) l s j h = sets-before xs (set l s x) (suc s) j (omega arith) ∙ get_or-set_other l s j x nan (λ e. omega arith)

pub sets-after : (xs l : List Float) (s j : ℕ) → s + length xs ≤ j → get_or (sets l s xs) j nan ≡ get_or l j nan
sets-after [] l s j h = refl
sets-after (x ∷ xs) l s j h = sets-after xs (set l s x) (suc s) j (omega arith) ∙ get_or-set_other l s j x nan (λ e. omega arith)

pub sets-at : (xs l : List Float) (s m : ℕ) → m < length xs → s + m < length l → get_or (sets l s xs) (s + m) nan ≡ get_or xs m nan
sets-at [] l s m h g = absurd (not-suc-le-zero h)
sets-at (x ∷ xs) l s zero h g =
    ap (λ (j : ℕ). get_or (sets (set l s x) (suc s) xs) j nan) (add-zero s)
    ∙ sets-before xs (set l s x) (suc s) s (omega arith)
    ∙ get_or-set_same l s x nan (omega arith)
sets-at (x ∷ xs) l s (suc m) h g =
    ap (λ (j : ℕ). get_or (sets (set l s x) (suc s) xs) j nan) (next s m)
    ∙ sets-at xs (set l s x) (suc s) m (le_of_suc-le-suc h) (rw length-set (omega arith))

-- ---- the product of output p at slot j
abbrev pub product : List Float → List Float → ℕ → List Float → ℕ → ℕ → Float
product taps ring s xs j p = mul binary64 (tap_at taps (s + p) j) (get_or (sets ring s (take (suc p) xs)) j nan)

module _ (taps ring : List Float) (s : ℕ) (xs : List Float) (turn : s + length xs ≤ length taps) (room : length taps ≤ length ring) (p : ℕ) (output : p < length xs) where
  new_is : length (take (suc p) xs) ≡ suc p
  new_is = length-take-le (suc p) xs output

  -- a tap and a sample by which the code multiplies
  both : (j : ℕ) {t x : Float} → tap_at taps (s + p) j ≡ t → get_or (sets ring s (take (suc p) xs)) j nan ≡ x → mul binary64 t x ≡ product taps ring s xs j p
  both j e f = λ i. mul binary64 (sym e i) (sym f i)

  -- one slot more
  pub more : (j j' : ℕ) {v sum : Float} → j + 1 ≡ j' → v ≡ product taps ring s xs j p → sum ≡ output_to taps ring s xs j p → add binary64 v sum ≡ output_to taps ring s xs j' p
  unfolding sum_to
  more j j' on e f = (λ i. add binary64 (e i) (f i)) ∙ ap (λ (k : ℕ). output_to taps ring s xs k p) (sym (add-one j) ∙ on)

  -- ---- slot j, where the tap t is the right one
  module _ (j t : ℕ) where
    back : j ≤ s + p → t + j ≡ s + p → tap_at taps (s + p) j ≡ get_or taps t nan
    back h e = tap_back taps (s + p) j (omega arith) h ∙ ap (λ (m : ℕ). get_or taps m nan) (rest (s + p) j t e)

    round : s + p < j → j < length taps → t + j ≡ length taps + (s + p) → tap_at taps (s + p) j ≡ get_or taps t nan
    round h g e = tap_round taps (s + p) j h g ∙ ap (λ (m : ℕ). get_or taps m nan) (rest (length taps + (s + p)) j t e)

    pub at_before : j < s → t + j ≡ s + p → mul binary64 (get_or taps t nan) (get_or ring j nan) ≡ product taps ring s xs j p
    at_before h e = both j (back (omega arith) e) (sets-before (take (suc p) xs) ring s j h)

    pub at_after : s + length xs ≤ j → j < length taps → t + j ≡ length taps + (s + p) → mul binary64 (get_or taps t nan) (get_or ring j nan) ≡ product taps ring s xs j p
    at_after h g e = both j (round (omega arith) g e) (sets-after (take (suc p) xs) ring s j (omega (arith, new_is)))

    -- the m-th new sample's slot
    module _ (m : ℕ) (at : j ≡ s + m) where
      pub at_new : m ≤ p → t + m ≡ p → mul binary64 (get_or taps t nan) (get_or xs m nan) ≡ product taps ring s xs j p
      at_new h e =
          both j (back (omega arith) (omega arith))
          (ap (λ (i : ℕ). get_or (sets ring s (take (suc p) xs)) i nan) at
          ∙ sets-at (take (suc p) xs) ring s m (omega (arith, new_is)) (omega arith)
          ∙ get_or-take (suc p) xs m nan (omega arith))

      pub at_old : p < m → m < length xs → t + m ≡ length taps + p → mul binary64 (get_or taps t nan) (get_or ring j nan) ≡ product taps ring s xs j p
      at_old h g e = both j (round (omega arith) (omega arith) (omega arith)) (sets-after (take (suc p) xs) ring s j (omega (arith, new_is)))
