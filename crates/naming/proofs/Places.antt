-- What stands at each place of a list, 0 past its end: a test that every byte passes, zeros that are cut off, a part. Assumes nothing.
use Prim.Native.Nat.{ℕ, zero, suc, ◌≤◌, ◌<◌, zero-le, suc-le-suc}
use mathlib.Core.Path.{◌≡◌, refl, sym}
use mathlib.Core.Bool.{Bool, true, false, and-false}
use mathlib.Core.List.{List, [], ◌∷◌}
use mathlib.Core.Logic.{⊎_elim}
use native.Mathlib.Nat.{le_refl, le_trans, le_of_suc-le-suc, min-le_left, not-suc-le-zero, zero-lt-suc}
use borrow.Author.Tests.{eqb-true}
use lib.ListN.{length, get_or, take, drop, length-take, get_or-eq_default}
use lib.Seq.{get_or-take}
use Rattle.exact.proofs.Naturals.{below_or}
use Rattle.exact.proofs.Truth.{both}
use Rattle.naming.specs.Name.{every, is_zero}

-- ---- a test

module _ (p : ℕ → Bool) where
  pub every-all : (l : List ℕ) → ((k : ℕ) → k < length l → p (get_or l k 0) ≡ true) → every p l ≡ true
  unfolding every
  every-all [] h = refl
  every-all (b ∷ bs) h = simp (h zero (zero-lt-suc (length bs)), every-all bs (λ k m. h (suc k) (suc-le-suc m)))

  pub every-at : (l : List ℕ) → every p l ≡ true → (k : ℕ) → k < length l → p (get_or l k 0) ≡ true
  unfolding every
  every-at [] e k h = absurd (not-suc-le-zero h)
  every-at (b ∷ bs) e zero h = (both (p b) (every p bs) e).0
  every-at (b ∷ bs) e (suc k) h = every-at bs (both (p b) (every p bs) e).1 k (le_of_suc-le-suc h)

  pub every-not : (l : List ℕ) (k : ℕ) → k < length l → p (get_or l k 0) ≡ false → every p l ≡ false
  unfolding every
  every-not [] k h e = absurd (not-suc-le-zero h)
  every-not (b ∷ bs) zero h e = simp e
  every-not (b ∷ bs) (suc k) h e = simp (every-not bs k (le_of_suc-le-suc h) e, and-false)

-- ---- zeros, which a list may have at its end or not

all-zero : (l : List ℕ) → every is_zero l ≡ true → (k : ℕ) → get_or l k 0 ≡ 0
unfolding every
all-zero [] e k = refl
all-zero (b ∷ bs) e zero = eqb-true b 0 (both (is_zero b) (every is_zero bs) e).0
all-zero (b ∷ bs) e (suc k) = all-zero bs (both (is_zero b) (every is_zero bs) e).1 k

pub cut-zeros : (j : ℕ) (l : List ℕ) → every is_zero (drop j l) ≡ true → (k : ℕ) → get_or (take j l) k 0 ≡ get_or l k 0
cut-zeros zero l e k = sym (all-zero l e k)
cut-zeros (suc j) [] e k = refl
cut-zeros (suc j) (b ∷ bs) e zero = refl
cut-zeros (suc j) (b ∷ bs) e (suc k) = cut-zeros j bs e k

-- ---- a part has what the list has, or nothing

pub part-le : (j : ℕ) (l : List ℕ) (k : ℕ) → get_or (take j l) k 0 ≤ get_or l k 0
part-le zero l k = zero-le
part-le (suc j) [] k = zero-le
part-le (suc j) (b ∷ bs) zero = le_refl b
part-le (suc j) (b ∷ bs) (suc k) = part-le j bs k

-- parts of lists that agree at every place do so too
pub part_same : (a b : List ℕ) → ((k : ℕ) → get_or a k 0 ≡ get_or b k 0) → (j k : ℕ) → get_or (take j a) k 0 ≡ get_or (take j b) k 0
part_same a b h j k = ⊎_elim (λ m. rw (get_or-take j a k 0 m, get_or-take j b k 0 m) (h k)) past (below_or k j)
  where
    short : (l : List ℕ) → j ≤ k → length (take j l) ≤ k
    short l m = simp length-take (le_trans (min-le_left j (length l)) m)

    past : j ≤ k → get_or (take j a) k 0 ≡ get_or (take j b) k 0
    past m = rw (get_or-eq_default (take j a) 0 (short a m), get_or-eq_default (take j b) 0 (short b m))
