-- Laying a list over another from a place on: element by element, in two runs, and over what was laid there before. Assumes nothing.
use Prim.Native.Nat.{ℕ, suc, ◌+◌, ◌<◌, ◌≤◌}
use mathlib.Core.Path.{◌≡◌, sym}
use Prim.{⊥}
use mathlib.Core.List.{List, [], ◌∷◌, ◌++◌}
use native.Mathlib.Omega.{arith}
use lib.Ieee.{Float}
use lib.ListN.{length, take, drop, get_or, set, length-set, take-append-drop}
use lib.Seq.{take-suc-set, drop-set-lt, set-set, set-get_or, append_snoc}
use Rattle.merge.specs.Work.{over}

-- rows of numbers
abbrev pub Rows : Type 0
Rows = List (List Float)

module _ {A : Type 0} where
  pub over-nil : (n : ℕ) (l : List A) → over n [] l ≡ l
  unfolding over
  over-nil n l = let e : n + 0 ≡ n = omega arith in rw e (take-append-drop n l)

  pub over-cons : (n : ℕ) (x : A) (xs l : List A) → n < length l → over n (x ∷ xs) l ≡ over (n + 1) xs (set l n x)
  unfolding over
  over-cons n x xs l h =
      let e : n + 1 ≡ suc n = omega arith in
      let f : suc n + length xs ≡ n + suc (length xs) = omega arith in
      rw (e, take-suc-set l n x h, drop-set-lt (suc n + length xs) l n x (omega arith), f) (sym (append_snoc (take n l) x (xs ++ drop (n + suc (length xs)) l)))

  pub over-set : (n : ℕ) (y : A) (xs l : List A) → 0 < length xs → n < length l → over n xs (set l n y) ≡ over n xs l
  over-set n y [] l some h = let never : ⊥ = omega arith in absurd never
  over-set n y (x ∷ xs) l some h = rw (over-cons n x xs l h, over-cons n x xs (set l n y) (rw (length-set l n y) h), set-set l n y x)

  pub over-same : (n : ℕ) (d : A) (xs l : List A) → n < length l → over n (get_or l n d ∷ xs) l ≡ over (n + 1) xs l
  over-same n d xs l h = rw (over-cons n (get_or l n d) xs l h, set-get_or l n d)

  pub over-append : (n : ℕ) (xs ys l : List A) → n + length xs ≤ length l → over n (xs ++ ys) l ≡ over (n + length xs) ys (over n xs l)
  over-append n [] ys l h = let e : n + 0 ≡ n = omega arith in rw (e, over-nil n l)
  over-append n (x ∷ xs) ys l h =
      let e : n + 1 + length xs ≡ n + suc (length xs) = omega arith in
      let less : n < length l = omega arith in
      rw (over-cons n x (xs ++ ys) l less, over-cons n x xs l less, over-append (n + 1) xs ys (set l n x) (rw (length-set l n x) (omega arith)), e)

  pub length_over : (n : ℕ) (xs l : List A) → n + length xs ≤ length l → length (over n xs l) ≡ length l
  length_over n [] l h = rw (over-nil n l)
  length_over n (x ∷ xs) l h = rw (over-cons n x xs l (omega arith), length_over (n + 1) xs (set l n x) (rw (length-set l n x) (omega arith)), length-set l n x)
