-- No answer moved: at every slot of the ring the tap that is found by wrapping round is the one that stood in the doubled taps, which in their first half
-- are counted back from the newest sample's slot, in their second on from the ring's end; so each row is the same. Assumes nothing.
use mathlib.Core.Path.{◌≡◌, refl, sym, ap, ◌∙◌, subst}
use mathlib.Core.Logic.{inl, inr}
use mathlib.Core.List.{List, [], ◌∷◌, reverse, reverse_aux-eq}
use Prim.Native.Nat.{ℕ, zero, suc, ◌+◌, ◌-◌, ◌≤◌, ◌<◌}
use native.Mathlib.Nat.{not-suc-le-zero, eq-or-lt_of_le, le_of_suc-le-suc, le_of_lt, le_refl, mod-lt}
use native.Mathlib.Omega.{arith}
use lib.ListN.{length, get_or, replicate, length-reverse, get_or-append}
use lib.Seq.{get_or_at, get_or-append-add}
use lib.Ieee.{Float, nan, binary64, add, mul}
use Rattle.exact.specs.Doubles.{nought}
use Rattle.exact.proofs.Naturals.{below_or}
use Rattle.ring.specs.Ring.{tap_at, slot_of, put, sum_to, filtered_from, filtered_row}
use Rattle.ring.proofs.Tap.{tap_back, tap_round}
use Rattle.fir.specs.Doubled.{doubled, tap_doubled, sum_doubled, filtered_doubled_from, filtered_doubled}

-- the p-th of a list that is turned round is the p-th from its end
turned-at : {A : Type 0} (l : List A) (p : ℕ) (d : A) → p < length l → get_or (reverse l) p d ≡ get_or l (length l - 1 - p) d
turned-at [] p d h = absurd (not-suc-le-zero h)
turned-at {A} (x ∷ xs) p d h =
    ap (λ (l : List A). get_or l p d) (reverse_aux-eq xs (x ∷ []))
    ∙ elim (eq-or-lt_of_le (le_of_suc-le-suc h)) [
      | inl e ↦ get_or_at (reverse xs) x [] d p (length-reverse xs ∙ sym e) ∙ ap (λ (n : ℕ). get_or (x ∷ xs) n d) (last p (length xs) e)
      | inr g ↦
          get_or-append (reverse xs) (x ∷ []) d p (subst (λ (n : ℕ). p < n) (sym (length-reverse xs)) g)
          ∙ turned-at xs p d g
          ∙ ap (λ (n : ℕ). get_or (x ∷ xs) n d) (before p (length xs) g)
    ]
  where
    last : (p n : ℕ) → p ≡ n → 0 ≡ suc n - 1 - p
    last p n e = omega arith

    before : (p n : ℕ) → p < n → suc (n - 1 - p) ≡ suc n - 1 - p
    before p n g = omega arith

-- the doubled taps, in their first half and in their second
front : (taps : List Float) (p : ℕ) → p < length taps → get_or (doubled taps) p nan ≡ get_or taps (length taps - 1 - p) nan
unfolding doubled
front taps p h =
    get_or-append (reverse taps) (reverse taps) nan p (subst (λ (n : ℕ). p < n) (sym (length-reverse taps)) h) ∙ turned-at taps p nan h

rest : (taps : List Float) (p : ℕ) → p < length taps → get_or (doubled taps) (length taps + p) nan ≡ get_or taps (length taps - 1 - p) nan
unfolding doubled
rest taps p h =
    ap (λ (n : ℕ). get_or (doubled taps) (n + p) nan) (sym (length-reverse taps))
    ∙ get_or-append-add (reverse taps) (reverse taps) p nan
    ∙ turned-at taps p nan h

-- the place of a tap, counted in the taps
back : (n s j : ℕ) → s < n → j ≤ s → n - 1 - (n - s - 1 + j) ≡ s - j
back n s j h g = omega arith

round : (n s j : ℕ) → s < j → j < n → n - 1 - (j - s - 1) ≡ n + s - j
round n s j g k = omega arith

over : (n s j : ℕ) → s < j → j < n → n - s - 1 + j ≡ n + (j - s - 1)
over n s j g k = omega arith

pub same_tap : (taps : List Float) (s j : ℕ) → s < length taps → j < length taps → tap_at taps s j ≡ tap_doubled taps s j
same_tap taps s j h k = elim (below_or s j) [
  | inl g ↦
      tap_round taps s j g k
      ∙ sym
      (ap (λ (m : ℕ). get_or (doubled taps) m nan) (over (length taps) s j g k)
      ∙ rest taps (j - s - 1) (omega arith)
      ∙ ap (λ (m : ℕ). get_or taps m nan) (round (length taps) s j g k))
  | inr g ↦
      tap_back taps s j h g
      ∙ sym (front taps (length taps - s - 1 + j) (omega arith) ∙ ap (λ (m : ℕ). get_or taps m nan) (back (length taps) s j h g))
]

module _ (taps : List Float) (some : 1 ≤ length taps) where
  same_sum : (ring : List Float) (s : ℕ) → s < length taps → (j : ℕ) → j ≤ length taps → sum_to taps ring s j ≡ sum_doubled taps ring s j
  unfolding sum_to sum_doubled
  same_sum ring s h zero l = refl
  same_sum ring s h (suc j) l = λ i. add binary64 (mul binary64 (same_tap taps s j h l i) (get_or ring j nan)) (same_sum ring s h j (le_of_lt l) i)

  same_from : (k : ℕ) (ring row : List Float) → filtered_from taps k ring row ≡ filtered_doubled_from taps k ring row
  unfolding filtered_from filtered_doubled_from
  same_from k ring [] = refl
  same_from k ring (x ∷ xs) = λ i. same_sum (put taps k x ring) (slot_of taps k) (mod-lt k some) (length taps) (le_refl (length taps)) i ∷ same_from (suc k) (put taps k x ring) xs i

  pub same_row : (row : List Float) → filtered_row taps row ≡ filtered_doubled taps row
  same_row row = same_from 0 (replicate 256 nought) row
