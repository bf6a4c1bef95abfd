-- Sections from the k-th on, the first few of them written out. Assumes nothing.
use Prim.Native.Nat.{ℕ, zero, suc, ◌+◌, ◌-◌, ◌≤◌}
use native.Mathlib.Omega.{arith}
use mathlib.Core.Path.{◌≡◌, refl, ap}
use mathlib.Core.List.{List, [], ◌∷◌}
use lib.ListN.{length}
use lib.Ieee.{Float}
use Rattle.iir.specs.Section.{section_at, sections_from}

module _ (k : ℕ) where
  one_more : k + 1 ≡ suc k
  one_more = omega arith

  two-more : k + 2 ≡ suc (suc k)
  two-more = omega arith

  three-more : k + 3 ≡ suc (suc (suc k))
  three-more = omega arith

  four-more : k + 4 ≡ suc (suc (suc (suc k)))
  four-more = omega arith

pub count-from : (l : List Float) (n k : ℕ) → length (sections_from l n k) ≡ n
unfolding sections_from
count-from l zero k = refl
count-from l (suc n) k = ap suc (count-from l n (suc k))

-- ---- of n sections those from k on

pub all_from : (l : List Float) (n : ℕ) → sections_from l (n - 0) 0 ≡ sections_from l n 0
all_from l n = let e : n - 0 ≡ n = omega arith in rw e

module _ (l : List Float) (n k : ℕ) where
  pub four-from : k + 4 ≤ n → sections_from l (n - k) k ≡ section_at l k ∷ section_at l (k + 1) ∷ section_at l (k + 2) ∷ section_at l (k + 3) ∷ sections_from l (n - (k + 4)) (k + 4)
  unfolding sections_from
  four-from h =
      let e : n - k ≡ suc (suc (suc (suc (n - (k + 4))))) = omega arith in
      rw (e, one_more k, two-more k, three-more k, four-more k)

-- ---- two or three

module _ (l : List Float) (k : ℕ) where
  pub two_from : sections_from l 2 k ≡ section_at l k ∷ section_at l (k + 1) ∷ []
  unfolding sections_from
  two_from = rw (one_more k)

  pub three-from : sections_from l 3 k ≡ section_at l k ∷ section_at l (k + 1) ∷ section_at l (k + 2) ∷ []
  unfolding sections_from
  three-from = rw (one_more k, two-more k)
