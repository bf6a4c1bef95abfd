-- The loop of `correct`: the first k samples of both rows are corrected, and a turn adds one or two. What doubles settle is the fused sum. Assumes nothing.
use mathlib.Core.Path.{◌≡◌, refl, sym, ap, ◌∙◌, subst}
use mathlib.Core.List.{List}
use Prim.Native.Nat.{ℕ, ◌+◌, ◌≤◌, ◌<◌}
use native.Mathlib.Omega.{arith}
use lib.ListN.{length, get_or, set, length-set}
use lib.Seq.{get_or-set_other}
use lib.Ieee.{Float, nan}
use Rattle.rows.proofs.Turns.{upto, upto-get, upto_next, upto-end}
use Rattle.mixer.specs.Mixer.{corrected, corrected_row}
use Rattle.mixer.specs.Turns.{one_on, two_on}
use Rattle.mixer.proofs.Samples.{corrected-length, corrected-at}

-- ---- the first k samples are corrected
pub record FirstDone (i₀ q₀ : List Float) (m00 m01 o0 m10 m11 o1 : Float) (i q : List Float) (k : ℕ) : Type 0 where
  pub equal : length i₀ ≡ length q₀
  pub within : k ≤ length i₀
  pub same_i : length i ≡ length i₀
  pub same_q : length q ≡ length q₀
  pub done_i : i ≡ upto (corrected_row m00 m01 o0 i₀ q₀) i₀ k
  pub done_q : q ≡ upto (corrected_row m10 m11 o1 i₀ q₀) q₀ k

-- one turn, of one row
turn : (m n o : Float) (i₀ q₀ : List Float) (old row : List Float) (k : ℕ) (v : Float) → length i₀ ≡ length q₀ → length old ≡ length i₀ → k < length i₀ → row ≡ upto (corrected_row m n o i₀ q₀) old k → v ≡ corrected m n o (get_or i₀ k nan) (get_or q₀ k nan) → set row k v ≡ upto (corrected_row m n o i₀ q₀) old (k + 1)
turn m n o i₀ q₀ old row k v e s h done is =
    let new = corrected_row m n o i₀ q₀ in
    let inside : k < length old = omega arith in
    ap (λ (l : List Float). set l k v) done ∙ upto_next new old k nan v inside (corrected-length m n o i₀ q₀ e ∙ sym s) (corrected-at m n o i₀ q₀ k e h ∙ sym is)

-- both rows
turns : (i₀ q₀ : List Float) (m00 m01 o0 m10 m11 o1 : Float) (i q : List Float) (k : ℕ) (v w : Float) → k < length i₀ → FirstDone i₀ q₀ m00 m01 o0 m10 m11 o1 i q k → v ≡ corrected m00 m01 o0 (get_or i k nan) (get_or q k nan) → w ≡ corrected m10 m11 o1 (get_or i k nan) (get_or q k nan) → FirstDone i₀ q₀ m00 m01 o0 m10 m11 o1 (set i k v) (set q k w) (k + 1)
turns i₀ q₀ m00 m01 o0 m10 m11 o1 i q k v w h inv is-v is-w =
    let x : get_or i k nan ≡ get_or i₀ k nan = ap (λ (l : List Float). get_or l k nan) inv.done_i ∙ upto-get (corrected_row m00 m01 o0 i₀ q₀) i₀ k nan in
    let y : get_or q k nan ≡ get_or q₀ k nan = ap (λ (l : List Float). get_or l k nan) inv.done_q ∙ upto-get (corrected_row m10 m11 o1 i₀ q₀) q₀ k nan in
    let of : (m n o : Float) → corrected m n o (get_or i k nan) (get_or q k nan) ≡ corrected m n o (get_or i₀ k nan) (get_or q₀ k nan) = λ m n o. ap (λ (a : Float). corrected m n o a (get_or q k nan)) x ∙ ap (λ (b : Float). corrected m n o (get_or i₀ k nan) b) y in
    record {
      equal = inv.equal;
      within = omega arith;
      same_i = length-set i k v ∙ inv.same_i;
      same_q = length-set q k w ∙ inv.same_q;
      done_i = turn m00 m01 o0 i₀ q₀ i₀ i k v inv.equal refl h inv.done_i (is-v ∙ of m00 m01 o0);
      done_q = turn m10 m11 o1 i₀ q₀ q₀ q k w inv.equal (sym inv.equal) h inv.done_q (is-w ∙ of m10 m11 o1);
    }

-- the next sample does not change with one
next-stays : (row : List Float) (k : ℕ) (v : Float) → get_or (set row k v) (k + 1) nan ≡ get_or row (k + 1) nan
next-stays row k v = get_or-set_other row k (k + 1) v nan (apart k)
  where
    apart : (k : ℕ) → k + 1 ≡ k → ⊥
    apart k e = omega arith

-- one and then the next is two
pub one-and-one : (k : ℕ) (m00 m01 o0 m10 m11 o1 : Float) (i q i' q' i1 q1 i2 q2 : List Float) → i' ≡ i → q' ≡ q → i1 ≡ one_on k m00 m01 o0 i' q' i' → q1 ≡ one_on k m10 m11 o1 i' q' q'
    → i2 ≡ one_on (k + 1) m00 m01 o0 i1 q1 i1 → q2 ≡ one_on (k + 1) m10 m11 o1 i1 q1 q1 → (i2 ≡ two_on k m00 m01 o0 i q i) × (q2 ≡ two_on k m10 m11 o1 i q q)
one-and-one k m00 m01 o0 m10 m11 o1 i q i' q' i1 q1 i2 q2 a b c d e f =
    let v = corrected m00 m01 o0 (get_or i k nan) (get_or q k nan) in
    let w = corrected m10 m11 o1 (get_or i k nan) (get_or q k nan) in
    let I : i1 ≡ set i k v = c ∙ (λ j. one_on k m00 m01 o0 (a j) (b j) (a j)) in
    let Q : q1 ≡ set q k w = d ∙ (λ j. one_on k m10 m11 o1 (a j) (b j) (b j)) in (
      e ∙ (λ j. one_on (k + 1) m00 m01 o0 (I j) (Q j) (I j)) ∙ (λ j. set (set i k v) (k + 1) (corrected m00 m01 o0 (next-stays i k v j) (next-stays q k w j))),
      f ∙ (λ j. one_on (k + 1) m10 m11 o1 (I j) (Q j) (Q j)) ∙ (λ j. set (set q k w) (k + 1) (corrected m10 m11 o1 (next-stays i k v j) (next-stays q k w j))),
    )

module _ (i₀ q₀ : List Float) (m00 m01 o0 m10 m11 o1 : Float) (i q : List Float) (k : ℕ) (inv : FirstDone i₀ q₀ m00 m01 o0 m10 m11 o1 i q k) where
  pub one-turn : k < length i₀ → (i' q' : List Float) → i' ≡ one_on k m00 m01 o0 i q i → q' ≡ one_on k m10 m11 o1 i q q → FirstDone i₀ q₀ m00 m01 o0 m10 m11 o1 i' q' (k + 1)
  one-turn h i' q' a b =
      subst (λ (r : List Float). FirstDone i₀ q₀ m00 m01 o0 m10 m11 o1 r q' (k + 1)) (sym a)
      (subst (λ (r : List Float). FirstDone i₀ q₀ m00 m01 o0 m10 m11 o1 (one_on k m00 m01 o0 i q i) r (k + 1)) (sym b)
      (turns i₀ q₀ m00 m01 o0 m10 m11 o1 i q k (corrected m00 m01 o0 (get_or i k nan) (get_or q k nan)) (corrected m10 m11 o1 (get_or i k nan) (get_or q k nan)) h inv refl refl))

  pub two-turns : k + 1 < length i₀ → (i' q' : List Float) → i' ≡ two_on k m00 m01 o0 i q i → q' ≡ two_on k m10 m11 o1 i q q → FirstDone i₀ q₀ m00 m01 o0 m10 m11 o1 i' q' (k + 2)
  two-turns h i' q' a b =
      let v = corrected m00 m01 o0 (get_or i k nan) (get_or q k nan) in
      let w = corrected m10 m11 o1 (get_or i k nan) (get_or q k nan) in
      let later : (m n o : Float) → corrected m n o (get_or i (k + 1) nan) (get_or q (k + 1) nan) ≡ corrected m n o (get_or (set i k v) (k + 1) nan) (get_or (set q k w) (k + 1) nan) = λ m n o. λ j. corrected m n o (sym (next-stays i k v) j) (sym (next-stays q k w) j) in
      subst (λ (r : List Float). FirstDone i₀ q₀ m00 m01 o0 m10 m11 o1 r q' (k + 2)) (sym a)
      (subst (λ (r : List Float). FirstDone i₀ q₀ m00 m01 o0 m10 m11 o1 (two_on k m00 m01 o0 i q i) r (k + 2)) (sym b)
      (subst (λ (n : ℕ). FirstDone i₀ q₀ m00 m01 o0 m10 m11 o1 (two_on k m00 m01 o0 i q i) (two_on k m10 m11 o1 i q q) n) (two k)
      (turns i₀ q₀ m00 m01 o0 m10 m11 o1 (set i k v) (set q k w) (k + 1) (corrected m00 m01 o0 (get_or i (k + 1) nan) (get_or q (k + 1) nan)) (corrected m10 m11 o1 (get_or i (k + 1) nan) (get_or q (k + 1) nan)) h
      (turns i₀ q₀ m00 m01 o0 m10 m11 o1 i q k v w (less k h) inv refl refl) (later m00 m01 o0) (later m10 m11 o1))))
    where
      two : (k : ℕ) → k + 1 + 1 ≡ k + 2
      two k = omega arith

      less : (k : ℕ) → k + 1 < length i₀ → k < length i₀
      less k h = omega arith

  -- all of them
  pub all_done : k ≡ length i₀ → (i ≡ corrected_row m00 m01 o0 i₀ q₀) × (q ≡ corrected_row m10 m11 o1 i₀ q₀)
  all_done e = (
    inv.done_i ∙ ap (upto (corrected_row m00 m01 o0 i₀ q₀) i₀) e ∙ upto-end (corrected_row m00 m01 o0 i₀ q₀) i₀ (corrected-length m00 m01 o0 i₀ q₀ inv.equal),
    inv.done_q ∙ ap (upto (corrected_row m10 m11 o1 i₀ q₀) q₀) (e ∙ inv.equal) ∙ upto-end (corrected_row m10 m11 o1 i₀ q₀) q₀ (corrected-length m10 m11 o1 i₀ q₀ inv.equal ∙ inv.equal),
  )
