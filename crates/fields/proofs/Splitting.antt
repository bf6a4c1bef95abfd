-- Laws of words: the first one, those behind it, and how many there are. Assumes nothing.
use Rattle.std.specs.Prelude.{Some, None}
use Prim.Native.Nat.{ℕ, zero, suc, ◌+◌, ◌-◌, ◌≤◌, ◌<◌}
use mathlib.Core.Bool.{Bool, true, false, not, cond}
use mathlib.Core.List.{List, [], ◌∷◌}
use mathlib.Core.Logic.{inl, inr}
use mathlib.Core.Path.{◌≡◌, refl, sym, ap, ◌∙◌}
use native.Mathlib.Nat.{eq-or-lt_of_le, not-suc-le-zero}
use native.Mathlib.Omega.{arith}
use lib.Dec.{eqb}
use lib.ListN.{length, get_or, take, drop, length-drop, drop_of_length-le}
use lib.Seq.{drop-cons, drop-drop, take_all, take-nil, length-take-le}
use Rattle.lines.specs.Text.{before}
use Rattle.decimal.specs.Digits.{place_of}
use Rattle.decimal.proofs.Places.{place-within, rest_part}
use Rattle.sheet.specs.Reader.{Starts}
use Rattle.sheet.specs.Sheet.{value}
use Rattle.sheet.proofs.Keys.{missing, there}
use Rattle.sheet.proofs.Keys as keys
use Rattle.fields.specs.Words.{words_of, word_in, first_word, blank_of, Begins, Found}

-- no blank: one word
pub words-one : (text : List ℕ) → place_of 32 text ≡ length text → words_of text ≡ text ∷ []
unfolding words_of place_of
words-one [] e = refl
words-one (b ∷ bs) e = by (eqb b 32) refl (words-one bs)
  where
    by : (t : Bool) → eqb b 32 ≡ t → (place_of 32 bs ≡ length bs → words_of bs ≡ bs ∷ []) → cond t ([] ∷ words_of bs) (before b (words_of bs)) ≡ (b ∷ bs) ∷ []
    by true s rest = absurd (none (rw s at e))
      where
        none : 0 ≡ suc (length bs) → ⊥
        none k = omega arith
    by false s rest = let k = rw s at e in rw (rest (omega arith))

-- the first word, and the words behind its blank
pub words_more : (text : List ℕ) → place_of 32 text < length text → words_of text ≡ first_word text ∷ words_of (drop (suc (place_of 32 text)) text)
unfolding words_of place_of
words_more [] h = absurd (not-suc-le-zero h)
words_more (b ∷ bs) h = by (eqb b 32) refl (words_more bs)
  where
    at : Bool → ℕ
    at t = cond t 0 (suc (place_of 32 bs))

    by : (t : Bool) → eqb b 32 ≡ t → (place_of 32 bs < length bs → words_of bs ≡ first_word bs ∷ words_of (drop (suc (place_of 32 bs)) bs))
        → cond t ([] ∷ words_of bs) (before b (words_of bs)) ≡ take (at t) (b ∷ bs) ∷ words_of (drop (at t) bs)
    by true s rest = refl
    by false s rest = let k = rw s at h in rw (rest (omega arith))

pub words-head : (text : List ℕ) → get_or (words_of text) 0 [] ≡ first_word text
words-head text = elim (eq-or-lt_of_le (place-within 32 text)) [
  | inl e ↦ (let most : length text ≤ place_of 32 text = omega arith in rw (words-one text e, take_all (place_of 32 text) text most))
  | inr h ↦ rw (words_more text h)
]

-- ---- one word after another
module _ (line : List ℕ) (at left : ℕ) (some : 0 < left) (within : at ≤ length line) where
  rest : List ℕ
  rest = drop at line

  size : length (drop at line) ≡ length line - at
  size = length-drop at line

  pub none_left : at + place_of 32 (drop at line) ≡ length line → get_or (words_of (drop at line)) left [] ≡ []
  none_left e = rw (words-one (drop at line) (omega (arith, size))) (past left some)
    where
      past : (n : ℕ) → 0 < n → get_or (drop at line ∷ []) n [] ≡ []
      past zero h = absurd (not-suc-le-zero h)
      past (suc n) h = refl

  pub one_less : (at + place_of 32 (drop at line) ≡ length line → ⊥)
      → get_or (words_of (drop (at + place_of 32 (drop at line) + 1) line)) (left - 1) [] ≡ get_or (words_of (drop at line)) left []
  one_less n =
      let short : place_of 32 (drop at line) < length (drop at line) = omega (arith, size, place-within 32 (drop at line)) in
      let behind : drop (suc (place_of 32 (drop at line))) (drop at line) ≡ drop (at + place_of 32 (drop at line) + 1) line =
      drop-drop (suc (place_of 32 (drop at line))) at line ∙ ap (λ (k : ℕ). drop k line) (same at (place_of 32 (drop at line))) in
      rw (words_more (drop at line) short, behind) (next (words_of (drop (at + place_of 32 (drop at line) + 1) line)) (first_word (drop at line)) left some)
    where
      same : (a p : ℕ) → a + suc p ≡ a + p + 1
      same a p = omega arith

      next : (ws : List (List ℕ)) (w : List ℕ) (n : ℕ) → 0 < n → get_or ws (n - 1) [] ≡ get_or (w ∷ ws) n []
      next ws w zero h = absurd (not-suc-le-zero h)
      next ws w (suc n) h = let same : suc n - 1 ≡ n = omega arith in rw same

pub ends-word : (line : List ℕ) → first_word (drop (length line) line) ≡ []
unfolding place_of
ends-word line = let all : length line ≤ length line = omega arith in rw (drop_of_length-le line all)

-- ---- how many
pub words-some : (text : List ℕ) → 1 ≤ length (words_of text)
unfolding words_of
words-some [] = omega arith
words-some (b ∷ bs) = by (eqb b 32) (words_of bs) (words-some bs)
  where
    by : (t : Bool) (ws : List (List ℕ)) → 1 ≤ length ws → 1 ≤ length (cond t ([] ∷ ws) (before b ws))
    by true ws h = omega arith
    by false [] h = omega arith
    by false (w ∷ ws) h = omega arith

pub counts-on : (line : List ℕ) (i : ℕ) → i < length line → length (words_of (drop i line)) ≡ blank_of (get_or line i 0) + length (words_of (drop (suc i) line))
unfolding words_of
counts-on line i h = rw (drop-cons line i 0 h) (by (eqb (get_or line i 0) 32) (words_of (drop (suc i) line)) (words-some (drop (suc i) line)))
  where
    by : (t : Bool) (ws : List (List ℕ)) → 1 ≤ length ws → length (cond t ([] ∷ ws) (before (get_or line i 0) ws)) ≡ cond t 1 0 + length ws
    by true ws h = omega arith
    by false [] h = omega arith
    by false (w ∷ ws) h = omega arith

pub counts-last : (line : List ℕ) (i : ℕ) → length line ≤ i → length (words_of (drop i line)) ≡ 1
unfolding words_of
counts-last line i h = rw (drop_of_length-le line h)

-- ---- a part of a part
pub drop-take : (m n : ℕ) (l : List ℕ) → m ≤ n → drop m (take n l) ≡ take (n - m) (drop m l)
drop-take zero n l h = let same : n - zero ≡ n = omega arith in rw same
drop-take (suc m) zero l h = absurd (not-suc-le-zero h)
drop-take (suc m) (suc n) [] h = sym (take-nil (suc n - suc m))
drop-take (suc m) (suc n) (b ∷ bs) h = let same : suc n - suc m ≡ n - m = omega arith in rw same (drop-take m n bs (native.Mathlib.Nat.le_of_suc-le-suc h))

-- ---- the word that begins at a place, and its value
module _ (line : List ℕ) (k from p : ℕ) (begins : Begins line k from) (place : p ≡ place_of 32 (take (length line - from) (drop from line))) where
  pub place_is : p ≡ place_of 32 (drop from line)
  place_is = rw (rest_part line from) at place

  pub reaches : from + p ≤ length line
  reaches = omega (arith, place_is, place-within 32 (drop from line), length-drop from line, begins.within)

  pub word-is : take (from + p - from) (drop from line) ≡ word_in line k
  word-is = let same : from + p - from ≡ p = omega arith in rw (same, place_is) begins.is

  word-long : length (word_in line k) ≡ p
  word-long =
      let here : p ≤ length (drop from line) = rw place_is (place-within 32 (drop from line)) in
      let same : from + p - from ≡ p = omega arith in
      rw (← word-is, same) (length-take-le p (drop from line) here)

  module _ (key : List ℕ) (r : Bool) (starts : Starts key (take (from + p - from) (drop from line)) r) where
    pub found_none : not r ≡ true → Found line k key None
    found_none h = record { is = rw (← word-is) (missing key (take (from + p - from) (drop from line)) r starts h); inside = tt }

    pub found_at : not r ≡ false → Found line k key (Some (record { from = from + length key; to = from + p }))
    found_at h =
        let word = take (from + p - from) (drop from line) in
        let long : length key ≤ p = rw (word-is, word-long) at (keys.reaches key word r starts h) in
        let part : drop (length key) (take (from + p - from) (drop from line)) ≡ take (from + p - (from + length key)) (drop (from + length key) line) =
        drop-take (length key) (from + p - from) (drop from line) (omega arith)
        ∙ ap (λ (l : List ℕ). take (from + p - from - length key) l) (drop-drop (length key) from line)
        ∙ ap (λ (n : ℕ). take n (drop (from + length key) line)) (counted from p (length key)) in
        record { is = rw (← word-is) (there key word r starts h ∙ ap value part); inside = (omega arith, reaches) }
      where
        counted : (f p k : ℕ) → f + p - f - k ≡ f + p - (f + k)
        counted f p k = omega arith

-- ---- one turn of the search for word k
module _ (line : List ℕ) (k at left p : ℕ) (within : at ≤ length line) (place : p ≡ place_of 32 (take (length line - at) (drop at line))) where
  here : p ≡ place_of 32 (drop at line)
  here = rw (rest_part line at) at place

  pub turn-within : at + p ≤ length line
  turn-within = omega (arith, here, place-within 32 (drop at line), length-drop at line)

  module _ (some : 0 < left) (so_far : get_or (words_of (drop at line)) left [] ≡ word_in line k) where
    pub turn-ends : at + p ≡ length line → Begins line k (at + p)
    turn-ends e =
        let none : at + place_of 32 (drop at line) ≡ length line = rw (← here) e in
        record { within = turn-within; is = rw e (ends-word line ∙ sym (none_left line at left some within none) ∙ so_far) }

    pub turn-goes : (at + p ≡ length line → ⊥) → (at + p + 1 ≤ length line) × (get_or (words_of (drop (at + p + 1) line)) (left - 1) [] ≡ word_in line k)
    turn-goes n =
        let more : at + place_of 32 (drop at line) ≡ length line → ⊥ = rw (← here) n in
        (omega (arith, turn-within), rw here (one_less line at left some within more ∙ so_far))

pub blank-most : (b : ℕ) → blank_of b ≤ 1
blank-most b = by (eqb b 32)
  where
    by : (t : Bool) → cond t 1 0 ≤ 1
    by true = omega arith
    by false = omega arith
