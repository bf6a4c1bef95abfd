-- A number of 32-bit digits parted at a place: what its lower and its upper part are worth, and what a digit that is stored changes. Assumes nothing.
use mathlib.Core.Path.{◌≡◌, ap, ◌∙◌}
use mathlib.Core.List.{List, [], ◌∷◌, ◌++◌}
use Prim.Native.Nat.{ℕ, suc, ◌+◌, ◌*◌, ◌^◌, ◌<◌}
use native.Mathlib.Nat.{pow-suc}
use native.Mathlib.Omega.{arith}
use lib.ListN.{length, get_or, set, take, drop, length-set}
use lib.Seq.{take-suc, take-suc-set, take-set-le, drop-set-lt, drop-cons, get_or-set_same, length-take-le}
use Rattle.fma.specs.Sticky.{odd-of}
use Rattle.wide_decimal.specs.Limbs.{value, weight}

value-behind : (xs : List ℕ) (v : ℕ) → value (xs ++ (v ∷ [])) ≡ value xs + v * weight (length xs)
unfolding value
value-behind [] v = omega arith
value-behind (x ∷ xs) v = let h = value-behind xs v in let p = pow-suc (2 ^ 32) (length xs) in rw p (omega arith)

-- digits that fit 32 bits
pub value-below : (a : List ℕ) → ((i : ℕ) → get_or a i 0 < 2 ^ 32) → value a < weight (length a)
unfolding value
value-below [] h = omega arith
value-below (x ∷ xs) h = rw (pow-suc (2 ^ 32) (length xs)) (by (value xs) x (weight (length xs)) (value-below xs (λ i. h (suc i))) (h 0))
  where
    by : (v x w : ℕ) → v < w → x < 2 ^ 32 → v * 2 ^ 32 + x < w * 2 ^ 32
    by v x w h k = omega arith

-- ---- at a place
module _ (a : List ℕ) (i : ℕ) (l : i < length a) where
  pub upper : value (drop i a) ≡ value (drop (suc i) a) * 2 ^ 32 + get_or a i 0
  unfolding value
  upper = ap value (drop-cons a i 0 l)

  pub lower : value (take (suc i) a) ≡ value (take i a) + get_or a i 0 * weight i
  lower =
      ap value (take-suc a i 0 l) ∙ value-behind (take i a) (get_or a i 0) ∙ ap (λ (n : ℕ). value (take i a) + get_or a i 0 * weight n) (length-take-le i a (omega arith))

  module _ (v : ℕ) where
    pub upper-set : value (drop i (set a i v)) ≡ value (drop (suc i) a) * 2 ^ 32 + v
    unfolding value
    upper-set =
        ap value (drop-cons (set a i v) i 0 (simp length-set l))
        ∙ ap (λ (x : ℕ). value (drop (suc i) (set a i v)) * 2 ^ 32 + x) (get_or-set_same a i v 0 l)
        ∙ ap (λ (x : List ℕ). value x * 2 ^ 32 + v) (drop-set-lt (suc i) a i v (omega arith))

    pub lower-set : value (take (suc i) (set a i v)) ≡ value (take i a) + v * weight i
    lower-set = ap value (take-suc-set a i v l) ∙ value-behind (take i a) v ∙ ap (λ (n : ℕ). value (take i a) + v * weight n) (length-take-le i a (omega arith))

    pub above-set : value (drop (suc i) (set a i v)) ≡ value (drop (suc i) a)
    above-set = ap value (drop-set-lt (suc i) a i v (omega arith))

    pub below_set : value (take i (set a i v)) ≡ value (take i a)
    below_set = ap value (take-set-le i a i v (omega arith))

-- the last bit set
pub odd-first : (a : List ℕ) → 0 < length a → value (set a 0 (odd-of (get_or a 0 0))) ≡ odd-of (value a)
unfolding value
odd-first [] h = absurd (omega (arith, h))
odd-first (x ∷ xs) h = omega arith
