-- Request P1: "two splines are the same shape when all their numbers are equal": their rows are the same numbers exactly when their degrees, their
-- controls and their knots are. Assumes nothing.
use Rattle.std.proofs.Common.{◌≡◌, ℕ, zero, suc, ◌+◌, ◌-◌, ◌^◌, ◌≤◌, Bool, true, false, ◌&&◌, eqb, List, [], ◌∷◌, ◌++◌, length, take, replicate, sym, refl, ap, ◌∙◌, le_trans, suc-ne-zero, arith, lit<, lit≤, eqb-true}
use native.Mathlib.Nat.{suc_inj}
use borrow.Author.Tests.{eqb-false}
use lib.Seq.{take-append-add}
use lib.Ieee.{Float, eq, of_bits}
use Rattle.exact.proofs.Truth.{and-true, and-false}
use Rattle.exact.specs.Doubles.{nought}
use Rattle.spline.specs.Spline.{counts_fit}
use Rattle.spline.specs.Row.{counted, padded, row_of}
use Rattle.spline.specs.Same.{same_numbers}
use Rattle.spline.proofs.Equal.{eq_is}
use Rattle.spline.proofs.Stored.{Counts, counts_of, counted-value, padded-length}

-- ---- of two conjunctions
and-group : (a b c : Bool) → (a && b && c) ≡ (a && (b && c))
and-group true b c = refl
and-group false b c = refl

-- ---- of two counts
same_count : (m n : ℕ) → m ≤ 2 ^ 53 → n ≤ 2 ^ 53 → eq (counted m) (counted n) ≡ eqb m n
same_count m n h k = eq_is (counted m) (counted n) false false m n 1 (lit< tt) (counted-value m h) (counted-value n k) ∙ and-true (eqb m n)

-- ---- of two lists
same-append : (l l' m m' : List Float) → length l ≡ length l' → same_numbers (l ++ m) (l' ++ m') ≡ (same_numbers l l' && same_numbers m m')
unfolding same_numbers
same-append [] [] m m' e = refl
same-append [] (b ∷ l') m m' e = absurd (suc-ne-zero (length l') (sym e))
same-append (a ∷ l) [] m m' e = absurd (suc-ne-zero (length l) e)
same-append (a ∷ l) (b ∷ l') m m' e =
    ap (λ (z : Bool). eq a b && z) (same-append l l' m m' (suc_inj e)) ∙ sym (and-group (eq a b) (same_numbers l l') (same_numbers m m'))

other_length : (l l' : List Float) → (length l ≡ length l' → ⊥) → same_numbers l l' ≡ false
unfolding same_numbers
other_length [] [] h = absurd (h refl)
other_length [] (b ∷ l') h = refl
other_length (a ∷ l) [] h = refl
other_length (a ∷ l) (b ∷ l') h = ap (λ (z : Bool). eq a b && z) (other_length l l' (λ e. h (ap suc e))) ∙ and-false (eq a b)

same-zeros : (k m : ℕ) → same_numbers (take k (replicate m nought)) (take k (replicate m nought)) ≡ true
unfolding same_numbers eq of_bits
same-zeros zero m = refl
same-zeros (suc k) zero = refl
same-zeros (suc k) (suc m) = same-zeros k m

-- with zeros behind
same-padded : (m : ℕ) (l l' : List Float) → length l ≡ length l' → length l ≤ m → same_numbers (padded m l) (padded m l') ≡ same_numbers l l'
same-padded m l l' e h =
    let k = m - length l in
    let z = replicate m nought in
    let first : padded m l ≡ l ++ take k z = ap (λ (n : ℕ). take n (l ++ z)) (parts m (length l) (length l) refl h) ∙ take-append-add l z k in
    let second : padded m l' ≡ l' ++ take k z = ap (λ (n : ℕ). take n (l' ++ z)) (parts m (length l) (length l') e h) ∙ take-append-add l' z k in
    (λ i. same_numbers (first i) (second i))
    ∙ same-append l l' (take k z) (take k z) e
    ∙ ap (λ (b : Bool). same_numbers l l' && b) (same-zeros k m)
    ∙ and-true (same_numbers l l')
  where
    parts : (m a b : ℕ) → a ≡ b → a ≤ m → m ≡ b + (m - a)
    parts m a b e h = omega arith

-- ---- of two rows
module _ (p p' : ℕ) (c c' t t' : List Float) (f : counts_fit p (length c) (length t) ≡ true) (g : counts_fit p' (length c') (length t') ≡ true) where
  fit : Counts p (length c) (length t)
  fit = counts_of p (length c) (length t) f

  fit' : Counts p' (length c') (length t')
  fit' = counts_of p' (length c') (length t') g

  few : (n : ℕ) → n ≤ 32 → n ≤ 2 ^ 53
  few n h = le_trans h (lit≤ tt)

  -- the controls' and the knots' numbers, with the zeros behind them
  abbrev rest : Bool
  rest = same_numbers (padded 32 c) (padded 32 c') && same_numbers (padded 38 t) (padded 38 t')

  parts : same_numbers (row_of p c t) (row_of p' c' t') ≡ (eqb p p' && (eqb (length c) (length c') && rest))
  unfolding row_of same_numbers
  parts =
      let degrees = same_count p p' (few p (omega (arith, fit.sizes.degree))) (few p' (omega (arith, fit'.sizes.degree))) in
      let counts = same_count (length c) (length c') (few (length c) fit.sizes.most) (few (length c') fit'.sizes.most) in
      let lists = same-append (padded 32 c) (padded 32 c') (padded 38 t) (padded 38 t') (padded-length 32 c ∙ sym (padded-length 32 c')) in
      λ i. degrees i && (counts i && lists i)

  pub same_shape : same_numbers (row_of p c t) (row_of p' c' t') ≡ (eqb p p' && same_numbers c c' && same_numbers t t')
  same_shape = parts ∙ by (eqb p p') (eqb (length c) (length c')) refl refl
    where
      by : (a b : Bool) → eqb p p' ≡ a → eqb (length c) (length c') ≡ b → (a && (b && rest)) ≡ (a && same_numbers c c' && same_numbers t t')
      by false b d e = refl
      by true false d e = ap (λ (z : Bool). z && same_numbers t t') (sym (other_length c c' (eqb-false (length c) (length c') e)))
      by true true d e =
          let P = eqb-true p p' d in
          let N = eqb-true (length c) (length c') e in
          (λ i. same-padded 32 c c' N fit.sizes.most i && same-padded 38 t t' (knots P N) few-knots i)
        where
          knots : p ≡ p' → length c ≡ length c' → length t ≡ length t'
          knots P N = omega (arith, fit.known, fit'.known)

          few-knots : length t ≤ 38
          few-knots = omega (arith, fit.known, fit.sizes.degree, fit.sizes.most)
