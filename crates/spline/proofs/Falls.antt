-- Knots that do not fall, from one of them on. Assumes nothing.
use Rattle.std.proofs.Common.{◌≡◌, ℕ, zero, suc, ◌+◌, ◌<◌, ◌≤◌, true, false, not, ◌&&◌, List, [], ◌∷◌, length, get_or, drop, refl, le_of_suc-le-suc, not-suc-le-zero, add-one}
use borrow.Author.Tests.{not-true}
use lib.Ieee.{Float, nan, lt}
use Rattle.exact.proofs.Truth.{both}
use Rattle.spline.specs.Spline.{not_falling}

next : (l : List Float) (i : ℕ) → suc i < length l
    → not_falling (drop i l) ≡ (not (lt (get_or l (suc i) nan) (get_or l i nan)) && not_falling (drop (suc i) l))
unfolding not_falling
next [] i h = absurd (not-suc-le-zero h)
next (a ∷ []) i h = absurd (not-suc-le-zero (le_of_suc-le-suc h))
next (a ∷ b ∷ l) zero h = refl
next (a ∷ b ∷ l) (suc i) h = next (b ∷ l) i (le_of_suc-le-suc h)

pub falls-next : (l : List Float) (i : ℕ) → i + 1 < length l
    → not_falling (drop i l) ≡ (not (lt (get_or l (i + 1) nan) (get_or l i nan)) && not_falling (drop (i + 1) l))
falls-next l i h = rw add-one (next l i (rw add-one at h))

end : (l : List Float) (i : ℕ) → length l ≤ suc i → not_falling (drop i l) ≡ true
unfolding not_falling
end [] zero h = refl
end [] (suc i) h = refl
end (a ∷ []) zero h = refl
end (a ∷ b ∷ l) zero h = absurd (not-suc-le-zero (le_of_suc-le-suc h))
end (a ∷ l) (suc i) h = end l i (le_of_suc-le-suc h)

pub falls-end : (l : List Float) (i : ℕ) → length l ≤ i + 1 → not_falling (drop i l) ≡ true
falls-end l i h = end l i (rw add-one at h)

-- each knot but the first is not below the one before it
pub not-falling-at : (t : List Float) (i : ℕ) → not_falling t ≡ true → suc i < length t → lt (get_or t (suc i) nan) (get_or t i nan) ≡ false
unfolding not_falling
not-falling-at [] i e h = absurd (not-suc-le-zero h)
not-falling-at (a ∷ []) i e h = absurd (not-suc-le-zero (le_of_suc-le-suc h))
not-falling-at (a ∷ b ∷ l) zero e h = not-true (lt b a) (both (not (lt b a)) (not_falling (b ∷ l)) e).0
not-falling-at (a ∷ b ∷ l) (suc i) e h = not-falling-at (b ∷ l) i (both (not (lt b a)) (not_falling (b ∷ l)) e).1 (le_of_suc-le-suc h)
