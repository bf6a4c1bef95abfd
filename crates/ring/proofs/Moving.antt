-- Several samples in their slots and their outputs in their places leave the row as it is to be: the definition takes them one after the other, and
-- the ring that it has for each is the one that the output finds. Assumes nothing.
use mathlib.Core.Path.{◌≡◌, refl, sym, ap, ◌∙◌, subst₂}
use mathlib.Core.List.{List, [], ◌∷◌, ◌++◌, append_assoc, append-nil}
use Prim.Native.Nat.{ℕ, zero, suc, ◌+◌, ◌-◌, ◌%◌, ◌≤◌, ◌<◌, suc-le-suc}
use native.Mathlib.Nat.{add-zero, zero-add, zero-lt-suc, suc-ne-zero, suc_inj, not-suc-le-zero, le_of_suc-le-suc, mod-add-mod, mod-eq_of_lt}
use native.Mathlib.Numerals.{add-one}
use native.Mathlib.Omega.{arith}
use lib.ListN.{length, take, drop, get_or, set, replicate, length-append, length-drop, take-append-drop}
use lib.Seq.{sets, sets-eq, length-sets, take_at, drop_at, drop-cons, drop-drop, length-take-le}
use lib.Ieee.{Float, nan}
use Rattle.exact.specs.Doubles.{nought}
use Rattle.ring.specs.Ring.{ring_sum, filtered_from, slot_of}
use Rattle.ring.specs.Inside.{output, Summed, Moved}
use Rattle.ring.proofs.Slots.{next}

-- inside one turn of the ring the slots go with the samples
slot-on : (n k s p : ℕ) → s ≡ k % n → s + p < n → s + p ≡ (k + p) % n
slot-on n k s p e h = sym (mod-eq_of_lt h) ∙ ap (λ (m : ℕ). (m + p) % n) e ∙ mod-add-mod k n p

-- the numbers of a list that is written out
each-one : (y : Float) (f : ℕ → Float) → y ≡ f 0 → (p : ℕ) → p < 1 → get_or (y ∷ []) p nan ≡ f p
each-one y f e zero h = e
each-one y f e (suc p) h = absurd (not-suc-le-zero (le_of_suc-le-suc h))

each_two : (y z : Float) (f : ℕ → Float) → y ≡ f 0 → z ≡ f 1 → (p : ℕ) → p < 2 → get_or (y ∷ z ∷ []) p nan ≡ f p
each_two y z f e g zero h = e
each_two y z f e g (suc zero) h = g
each_two y z f e g (suc (suc p)) h = absurd (not-suc-le-zero (le_of_suc-le-suc (le_of_suc-le-suc h)))

-- eight samples, and eight numbers put where there were none
eight-there : (row : List Float) (k : ℕ) → k + 8 ≤ length row → length (take 8 (drop k row)) ≡ 8
eight-there row k h = length-take-le 8 (drop k row) (rw length-drop (omega arith))

pub put_all : (xs row : List Float) (k : ℕ) → k + 8 ≤ length row → xs ≡ sets (replicate 8 nought) 0 (take (k + 8 - k) (drop k row)) → xs ≡ take 8 (drop k row)
put_all xs row k h e =
    let eight : k + 8 - k ≡ 8 = omega arith in
    let part = take 8 (drop k row) in
    let end : drop (0 + length part) (replicate 8 nought) ≡ [] = ap (λ (n : ℕ). drop n (replicate 8 nought)) (zero-add (length part) ∙ eight-there row k h) in
    e
    ∙ ap (λ (n : ℕ). sets (replicate 8 nought) 0 (take n (drop k row))) eight
    ∙ sets-eq part (replicate 8 nought) 0 (omega (arith, eight-there row k h))
    ∙ ap (λ (l : List Float). part ++ l) end
    ∙ append-nil part

pub put_count : (xs row : List Float) (k : ℕ) → k + 8 ≤ length row → xs ≡ sets (replicate 8 nought) 0 (take (k + 8 - k) (drop k row)) → length xs ≡ 8
put_count xs row k h e = ap length (put_all xs row k h e) ∙ eight-there row k h

module _ (taps : List Float) where
  -- ys are the outputs of the samples xs, whose slots are those from s on
  outputs : (xs ys ring : List Float) (k s : ℕ) (rest : List Float) → length ys ≡ length xs → ((p : ℕ) → p < length xs → s + p ≡ slot_of taps (k + p)) → ((p : ℕ) → p < length xs → get_or ys p nan ≡ output taps ring s xs p) → filtered_from taps k ring (xs ++ rest) ≡ ys ++ filtered_from taps (k + length xs) (sets ring s xs) rest
  unfolding filtered_from
  outputs [] [] ring k s rest e slots each = ap (λ (m : ℕ). filtered_from taps m ring rest) (sym (add-zero k))
  outputs [] (y ∷ ys) ring k s rest e slots each = absurd (suc-ne-zero (length ys) e)
  outputs (x ∷ xs) [] ring k s rest e slots each = absurd (suc-ne-zero (length xs) (sym e))
  outputs (x ∷ xs) (y ∷ ys) ring k s rest e slots each =
      let here : s ≡ slot_of taps k = sym (add-zero s) ∙ slots 0 (zero-lt-suc (length xs)) ∙ ap (slot_of taps) (add-zero k) in
      let first : y ≡ ring_sum taps (set ring s x) s = each 0 (zero-lt-suc (length xs)) ∙ ap (ring_sum taps (set ring s x)) (add-zero s) in
      let later = outputs xs ys (set ring s x) (suc k) (suc s) rest (suc_inj e)
      (λ p h. sym (next s p) ∙ slots (suc p) (suc-le-suc h) ∙ ap (slot_of taps) (next k p))
      (λ p h. each (suc p) (suc-le-suc h) ∙ ap (ring_sum taps (sets (set ring s x) (suc s) (take (suc p) xs))) (next s p)) in
      ap (λ (t : ℕ). ring_sum taps (set ring t x) t ∷ filtered_from taps (suc k) (set ring t x) (xs ++ rest)) (sym here)
      ∙ (λ i. sym first i ∷ later i)
      ∙ ap (λ (m : ℕ). y ∷ ys ++ filtered_from taps m (sets (set ring s x) (suc s) xs) rest) (sym (next k (length xs)))

  pub moves : (xs ys ring row : List Float) (k s w : ℕ) → length xs ≡ w → length ys ≡ w → k + w ≤ length row → xs ≡ take w (drop k row) → s ≡ slot_of taps k → s + w ≤ length taps → ((p : ℕ) → p < w → get_or ys p nan ≡ output taps ring s xs p) → Moved taps k w ring row (sets ring s xs) (sets row k ys)
  moves xs ys ring row k s w a b left e slot turn each =
      let rest = drop (k + w) row in
      let samples : xs ++ rest ≡ drop k row = ap (λ (l : List Float). xs ++ l) (sym (drop-drop w k row)) ∙ ap (λ (l : List Float). l ++ drop w (drop k row)) e ∙ take-append-drop w (drop k row) in
      let done : sets row k ys ≡ take k row ++ ys ++ rest = sets-eq ys row k (omega (arith, b)) ∙ ap (λ (m : ℕ). take k row ++ ys ++ drop (k + m) row) b in
      let front : length (take k row ++ ys) ≡ k + w = length-append (take k row) ys ∙ (λ i. length-take-le k row (omega arith) i + b i) in
      let after = filtered_from taps (k + w) (sets ring s xs) in
      record {
        left =
            ap (λ (l : List Float). take (k + w) l ++ after (drop (k + w) l)) done
            ∙ (λ i. take_at (take k row ++ ys) rest (k + w) front i ++ after (drop_at (take k row ++ ys) rest (k + w) front i))
            ∙ append_assoc (take k row) ys (after rest)
            ∙ ap (λ (m : ℕ). take k row ++ (ys ++ filtered_from taps (k + m) (sets ring s xs) rest)) (sym a)
            ∙ ap (λ (l : List Float). take k row ++ l) (sym (outputs xs ys ring k s rest (b ∙ sym a) (λ p h. slot-on (length taps) k s p slot (omega (arith, a))) (λ p h. each p (omega (arith, a)))))
            ∙ ap (λ (l : List Float). take k row ++ filtered_from taps k ring l) samples;
        same = length-sets row k ys;
        room = length-sets ring s xs;
      }

  -- one sample, and two
  module _ (ring row : List Float) (k s : ℕ) (slot : s ≡ slot_of taps k) where
    pub move-one : (y : Float) → k < length row → s < length taps → y ≡ output taps ring s (get_or row k nan ∷ []) 0 → Moved taps k 1 ring row (set ring s (get_or row k nan)) (set row k y)
    move-one y h turn e = moves (get_or row k nan ∷ []) (y ∷ []) ring row k s 1 refl refl (omega arith) (ap (take 1) (sym (drop-cons row k nan h))) slot (omega arith) (each-one y _ e)

    pub move-two : (y z : Float) → k + 2 ≤ length row → s + 2 ≤ length taps
        → y ≡ output taps ring s (get_or row k nan ∷ get_or row (k + 1) nan ∷ []) 0 → z ≡ output taps ring s (get_or row k nan ∷ get_or row (k + 1) nan ∷ []) 1
        → Moved taps k 2 ring row (set (set ring s (get_or row k nan)) (s + 1) (get_or row (k + 1) nan)) (set (set row k y) (k + 1) z)
    move-two y z h turn e f =
        let samples : drop k row ≡ get_or row k nan ∷ get_or row (suc k) nan ∷ drop (suc (suc k)) row =
        drop-cons row k nan (omega arith) ∙ ap (λ (l : List Float). get_or row k nan ∷ l) (drop-cons row (suc k) nan (omega arith)) in
        rw (add-one s, add-one k)
        (moves (get_or row k nan ∷ get_or row (suc k) nan ∷ []) (y ∷ z ∷ []) ring row k s 2 refl refl h (ap (take 2) (sym samples)) slot turn (each_two y z _ e (rw (add-one k) at f)))

    pub move-eight : (xs sums ring' row' : List Float) → k + 8 ≤ length row → s + 8 ≤ length taps → xs ≡ take 8 (drop k row) → Summed taps ring s xs (length taps) sums → ring' ≡ sets ring s xs → row' ≡ sets row k sums → Moved taps k 8 ring row ring' row'
    move-eight xs sums ring' row' h turn e sum f g = subst₂ (Moved taps k 8 ring row) (sym f) (sym g) (moves xs sums ring row k s 8 (ap length e ∙ eight-there row k h) sum.room h e slot turn sum.each)
