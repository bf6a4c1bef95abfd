-- A text without the byte at its point: its length and its bytes. Assumes nothing.
use Prim.Native.Nat.{ℕ, suc, ◌+◌, ◌-◌, ◌≤◌, ◌<◌}
use mathlib.Core.Path.{◌≡◌, sym, ap, ◌∙◌}
use mathlib.Core.List.{List, ◌++◌}
use mathlib.Core.Logic.{inl, inr}
use Rattle.exact.proofs.Naturals.{below_or}
use native.Mathlib.Omega.{arith}
use lib.ListN.{length, get_or, take, drop, length-append, length-drop, drop_of_length-le}
use lib.Seq.{length-take-le, take_all, take-append_seam, get_or-append-add, get_or-take, get_or-drop}
use Rattle.wide_decimal.specs.Figures.{without}

left : (xs ys : List ℕ) (i : ℕ) → i < length xs → get_or (xs ++ ys) i 0 ≡ get_or xs i 0
left xs ys i h = sym (get_or-take (length xs) (xs ++ ys) i 0 h) ∙ ap (λ (l : List ℕ). get_or l i 0) (take-append_seam xs ys)

module _ (p : ℕ) (text : List ℕ) where
  pub with-point : p < length text → length (without p text) ≡ length text - 1
  unfolding without
  with-point h = length-append (take p text) (drop (suc p) text) ∙ rw (length-take-le p text (omega arith), length-drop (suc p) text) (omega arith)

  pub no-point : length text ≤ p → length (without p text) ≡ length text
  unfolding without
  no-point h =
      let past : length text ≤ suc p = omega arith in
      length-append (take p text) (drop (suc p) text) ∙ rw (take_all p text h, drop_of_length-le text past) (omega arith)

  pub at_most : length (without p text) ≤ length text
  at_most = elim (below_or p (length text)) [ inl h ↦ omega (arith, with-point h) | inr h ↦ omega (arith, no-point h) ]

  module _ (k : ℕ) (within : k < length (without p text)) where
    pub before-point : k < p → get_or (without p text) k 0 ≡ get_or text k 0
    unfolding without
    before-point h = elim (below_or p (length text)) [
      | inl l ↦ left (take p text) (drop (suc p) text) k (rw (length-take-le p text (omega arith)) h) ∙ get_or-take p text k 0 h
      | inr l ↦ left (take p text) (drop (suc p) text) k (rw (take_all p text l) (omega (arith, within, no-point l))) ∙ get_or-take p text k 0 h
    ]

    reach : p ≤ k → p < length text
    reach h = elim (below_or p (length text)) [ inl l ↦ l | inr l ↦ absurd (omega (arith, within, no-point l)) ]

    pub behind-within : p ≤ k → suc k < length text
    behind-within h = omega (arith, within, with-point (reach h), reach h)

    pub behind-point : p ≤ k → get_or (without p text) k 0 ≡ get_or text (suc k) 0
    unfolding without
    behind-point h =
        let long : length (take p text) ≡ p = length-take-le p text (omega (arith, reach h)) in
        let at : length (take p text) + (k - p) ≡ k = omega arith in
        let next : suc p + (k - p) ≡ suc k = omega arith in
        ap (λ (x : ℕ). get_or (take p text ++ drop (suc p) text) x 0) (sym at) ∙ get_or-append-add (take p text) (drop (suc p) text) (k - p) 0 ∙ get_or-drop (suc p) text (k - p) 0 ∙ ap (λ (x : ℕ). get_or text x 0) next
