-- The first so many elements of a list, walked from a place on; and a part of a part. Assumes nothing.
use Prim.Native.Nat.{ℕ, zero, suc, ◌+◌, ◌*◌, ◌≤◌, ◌<◌}
use mathlib.Core.List.{List, [], ◌∷◌}
use mathlib.Core.Path.{◌≡◌, refl, ap, ◌∙◌}
use native.Mathlib.Nat.{mul-le-mul, suc-mul}
use native.Mathlib.Omega.{arith}
use lib.ListN.{length, get_or, take, drop, drop_of_length-le}
use lib.Seq.{drop-cons, get_or-take, length-take-le, take-take}

module _ {A : Type 0} (l : List A) (many : ℕ) (within : many ≤ length l) where
  pub part-cons : (i : ℕ) (d : A) → i < many → drop i (take many l) ≡ get_or l i d ∷ drop (suc i) (take many l)
  part-cons i d h =
      drop-cons (take many l) i d (rw (length-take-le many l within) h)
      ∙ ap (λ (x : A). x ∷ drop (suc i) (take many l)) (get_or-take many l i d h)

  pub part_end : (i : ℕ) → many ≤ i → drop i (take many l) ≡ []
  part_end i h = drop_of_length-le (take many l) {i = i} (rw (length-take-le many l within) h)

module _ {A : Type 0} where
  pub part_of : (l : List A) (from n m : ℕ) → from + n ≤ m → take n (drop from (take m l)) ≡ take n (drop from l)
  part_of l zero n m h = take-take n m l (omega arith)
  part_of l (suc from) n zero h = absurd (never (omega arith))
    where
      never : suc from + n ≤ zero → ⊥
      never k = omega arith
  part_of [] (suc from) n (suc m) h = refl
  part_of (x ∷ l) (suc from) n (suc m) h = part_of l from n m (omega arith)

-- a row of a square is within it
pub row_within : (count row : ℕ) → row < count → row * count + count ≤ count * count
row_within count row h = omega (arith, suc-mul row count, mul-le-mul {n₁ = suc row} {m₁ = count} {n₂ = count} {m₂ = count} h (omega arith))

-- a product of two numbers that are at most eight
pub few : {a b : ℕ} → a ≤ 8 → b ≤ 8 → a * b ≤ 64
few {a} {b} h k = omega (arith, mul-le-mul {n₁ = a} {m₁ = b} {n₂ = 8} {m₂ = 8} h k)
