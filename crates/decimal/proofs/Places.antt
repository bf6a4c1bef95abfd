-- Where a byte first stands in a text: laws of the search, and of the two parts. Assumes nothing.
use Prim.Native.Nat.{ℕ, suc, ◌+◌, ◌-◌, ◌≤◌, min}
use mathlib.Core.Path.{◌≡◌, sym, ◌∙◌}
use mathlib.Core.Bool.{Bool, true, false, cond}
use mathlib.Core.List.{List, [], ◌∷◌}
use mathlib.Core.Logic.{inl, inr}
use native.Mathlib.Nat.{eq-or-lt_of_le}
use native.Mathlib.Omega.{arith}
use lib.Dec.{eqb}
use lib.ListN.{length, take, drop, drop_of_length-le, length-drop}
use lib.Seq.{take_all}
use Rattle.decimal.specs.Digits.{place_of}

pub place-within : (b : ℕ) (text : List ℕ) → place_of b text ≤ length text
unfolding place_of
place-within b [] = omega arith
place-within b (x ∷ xs) = by (eqb x b) (place_of b xs) (length xs) (place-within b xs)
  where
    by : (t : Bool) (n m : ℕ) → n ≤ m → cond t 0 (suc n) ≤ suc m
    by true n m h = omega arith
    by false n m h = omega arith

-- the place behind, kept within the text, has the same behind it
pub behind-part : (text : List ℕ) (p q : ℕ) → p ≤ length text → q ≡ min (p + 1) (length text) → drop q text ≡ drop (suc p) text
behind-part text p q h e = elim (eq-or-lt_of_le h) [
  | inl at ↦ (
      let past : length text ≤ suc p = omega arith in
      let none : length text ≤ q = omega arith in
      drop_of_length-le text none ∙ sym (drop_of_length-le text past)
      )
  | inr before ↦ (let next : q ≡ suc p = omega arith in rw next)
]

-- all of what stands behind a place
pub rest_part : (text : List ℕ) (q : ℕ) → take (length text - q) (drop q text) ≡ drop q text
rest_part text q =
    let all : length (drop q text) ≤ length text - q = simp length-drop (omega arith) in
    take_all (length text - q) (drop q text) all
