-- Words that are numbers, one after another. Assumes nothing.
use Prim.Native.Nat.{ℕ, zero, suc, ◌+◌, ◌-◌, ◌≤◌, ◌<◌}
use mathlib.Core.Bool.{Bool, true, false, not, true≢false, ◌&&◌}
use mathlib.Core.List.{List, [], ◌∷◌}
use mathlib.Core.Logic.{◌⊎◌, inl, inr}
use mathlib.Core.Path.{◌≡◌, refl, sym, ap, ◌∙◌}
use native.Mathlib.Omega.{arith}
use native.Mathlib.Nat.{zero-lt-suc}
use borrow.Author.Tests.{eq-eqb, eqb-true, lt-ltb}
use lib.Dec.{eqb}
use lib.ListN.{length, take, drop, length-drop}
use lib.Seq.{drop-drop, drop-nil, take_all}
use Rattle.decimal.specs.Digits.{place_of}
use Rattle.decimal.specs.Number.{number_of}
use Rattle.decimal.proofs.Places.{place-within, rest_part}
use Rattle.fields.specs.Words.{words_of, first_word}
use Rattle.fields.proofs.Splitting.{words-one, words_more}
use Rattle.job.specs.List.{all_numbers, is_number, stops_at}

broken : (t s : Bool) → not t ≡ true → t && s ≡ false
broken true s e = absurd (true≢false (sym e))
broken false s e = refl

kept : (t s : Bool) → not t ≡ false → t && s ≡ s
kept true s e = refl
kept false s e = absurd (true≢false e)

one-stop : (left : ℕ) (w : List ℕ) (ws : List (List ℕ)) → stops_at left w ≡ true → all_numbers (drop left (w ∷ ws)) ≡ false
unfolding all_numbers stops_at
one-stop zero w ws e = broken (is_number (number_of w)) (all_numbers ws) e
one-stop (suc n) w ws e = absurd (true≢false (sym (rw (lt-ltb 0 (suc n) (zero-lt-suc n)) at e)))

one_on : (left : ℕ) (w : List ℕ) (ws : List (List ℕ)) → stops_at left w ≡ false → all_numbers (drop left (w ∷ ws)) ≡ all_numbers (drop (left - 1) ws)
unfolding all_numbers stops_at
one_on zero w ws e = kept (is_number (number_of w)) (all_numbers ws) e
one_on (suc n) w ws e = let same : suc n - 1 ≡ n = omega arith in rw same

cases : (a b : ℕ) → (a ≡ b) ⊎ (a ≡ b → ⊥)
cases a b = by (eqb a b) refl
  where
    by : (t : Bool) → eqb a b ≡ t → (a ≡ b) ⊎ (a ≡ b → ⊥)
    by true e = inl (eqb-true a b e)
    by false e = inr (λ z. absurd (true≢false (sym (eq-eqb a b z) ∙ e)))

module _ (line : List ℕ) (at left p : ℕ) (within : at ≤ length line) (place : p ≡ place_of 32 (take (length line - at) (drop at line))) where
  here : p ≡ place_of 32 (drop at line)
  here = rw (rest_part line at) at place

  pub first : take (at + p - at) (drop at line) ≡ first_word (drop at line)
  first = let same : at + p - at ≡ p = omega arith in rw (same, here)

  size : length (drop at line) ≡ length line - at
  size = length-drop at line

  pub last : at + p ≡ length line → words_of (drop at line) ≡ first_word (drop at line) ∷ []
  last e =
      let all : place_of 32 (drop at line) ≡ length (drop at line) = omega (arith, here, size) in
      let most : length (drop at line) ≤ place_of 32 (drop at line) = omega arith in
      rw (words-one (drop at line) all, take_all (place_of 32 (drop at line)) (drop at line) most)

  pub more : (at + p ≡ length line → ⊥) → words_of (drop at line) ≡ first_word (drop at line) ∷ words_of (drop (at + p + 1) line)
  more n =
      let short : place_of 32 (drop at line) < length (drop at line) = omega (arith, here, size, place-within 32 (drop at line)) in
      let behind : drop (suc (place_of 32 (drop at line))) (drop at line) ≡ drop (at + p + 1) line =
      drop-drop (suc (place_of 32 (drop at line))) at line ∙ ap (λ (k : ℕ). drop k line) (same at p (place_of 32 (drop at line)) here) in
      words_more (drop at line) short ∙ ap (λ (l : List ℕ). first_word (drop at line) ∷ words_of l) behind
    where
      same : (a p q : ℕ) → p ≡ q → a + suc q ≡ a + p + 1
      same a p q e = omega arith

  pub numbers-stop : stops_at left (take (at + p - at) (drop at line)) ≡ true → all_numbers (drop left (words_of (drop at line))) ≡ false
  numbers-stop e =
      let stop : stops_at left (first_word (drop at line)) ≡ true = rw first at e in
      elim (cases (at + p) (length line)) [
        | inl z ↦ rw (last z) (one-stop left (first_word (drop at line)) [] stop)
        | inr n ↦ rw (more n) (one-stop left (first_word (drop at line)) (words_of (drop (at + p + 1) line)) stop)
      ]

  pub numbers-last : stops_at left (take (at + p - at) (drop at line)) ≡ false → at + p ≡ length line → all_numbers (drop left (words_of (drop at line))) ≡ true
  unfolding all_numbers
  numbers-last e z =
      let go : stops_at left (first_word (drop at line)) ≡ false = rw first at e in
      rw (last z) (one_on left (first_word (drop at line)) [] go ∙ ap all_numbers (drop-nil (left - 1)))

  pub numbers_on : stops_at left (take (at + p - at) (drop at line)) ≡ false → (at + p ≡ length line → ⊥)
      → all_numbers (drop (left - 1) (words_of (drop (at + p + 1) line))) ≡ all_numbers (drop left (words_of (drop at line)))
  numbers_on e n =
      let go : stops_at left (first_word (drop at line)) ≡ false = rw first at e in
      sym (rw (more n) (one_on left (first_word (drop at line)) (words_of (drop (at + p + 1) line)) go))

  pub end-within : at + p ≤ length line
  end-within = omega (arith, here, place-within 32 (drop at line), size)
