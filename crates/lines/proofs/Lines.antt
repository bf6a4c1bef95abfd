-- Laws of lines: where the first one ends, and what is left behind it. Assumes nothing.
use Prim.Native.Nat.{ℕ, suc, ◌+◌, ◌≤◌, ◌<◌}
use mathlib.Core.Path.{◌≡◌, refl, ap}
use mathlib.Core.Bool.{Bool, true, false, cond}
use mathlib.Core.List.{List, [], ◌∷◌}
use native.Mathlib.Omega.{arith}
use native.Mathlib.Nat.{add-suc, not-suc-le-zero}
use native.Mathlib.Numerals.{add-one}
use borrow.Author.Tests.{eq-eqb, ne_eqb}
use lib.Dec.{eqb}
use lib.ListN.{length, get_or, take, drop, drop_of_length-le, length-drop}
use lib.Seq.{drop-cons, drop-drop}
use Rattle.lines.specs.Text.{before, lines_of, line_length}

module _ (text : List ℕ) (i : ℕ) where
  pub ends-here : i < length text → get_or text i 0 ≡ 10 → line_length (drop i text) ≡ 0
  unfolding line_length
  ends-here h e = rw (drop-cons text i 0 h) (simp (eq-eqb _ _ e))

  pub goes_on : i < length text → (get_or text i 0 ≡ 10 → ⊥) → line_length (drop i text) ≡ suc (line_length (drop (suc i) text))
  unfolding line_length
  goes_on h n = rw (drop-cons text i 0 h) (simp (ne_eqb _ _ n))

  pub ends_last : length text ≤ i → line_length (drop i text) ≡ 0
  unfolding line_length
  ends_last h = rw (drop_of_length-le text h)

-- ---- by whether a byte is a line feed

shorter : (feed : Bool) (n m : ℕ) → n ≤ m → cond feed 0 (suc n) ≤ suc m
shorter true n m h = omega arith
shorter false n m h = omega arith

longer : (feed : Bool) (b : ℕ) (bs : List ℕ)
    → (0 < length bs → lines_of bs ≡ take (line_length bs) bs ∷ lines_of (drop (suc (line_length bs)) bs))
    → cond feed ([] ∷ lines_of bs) (before b (lines_of bs))
    ≡ take (cond feed 0 (suc (line_length bs))) (b ∷ bs) ∷ lines_of (drop (cond feed 0 (suc (line_length bs))) bs)
unfolding lines_of line_length
longer true b bs rest = refl
longer false b [] rest = refl
longer false b (d ∷ ds) rest = ap (before b) (rest (omega arith))

-- ---- the lines of a text

pub line-within : (text : List ℕ) → line_length text ≤ length text
unfolding line_length
line-within [] = omega arith
line-within (b ∷ bs) = shorter (eqb b 10) (line_length bs) (length bs) (line-within bs)

pub first-line : (text : List ℕ) → 0 < length text → lines_of text ≡ take (line_length text) text ∷ lines_of (drop (suc (line_length text)) text)
unfolding lines_of line_length
first-line [] h = absurd (not-suc-le-zero h)
first-line (b ∷ bs) h = longer (eqb b 10) b bs (first-line bs)

-- ---- the lines from a place on

module _ (text : List ℕ) (at : ℕ) (h : at < length text) where
  pub line-ends-within : at + line_length (drop at text) ≤ length text
  line-ends-within = omega (arith, line-within (drop at text), length-drop at text)

  pub next-line : lines_of (drop at text)
      ≡ take (line_length (drop at text)) (drop at text) ∷ lines_of (drop (at + line_length (drop at text) + 1) text)
  next-line =
      let some : 0 < length (drop at text) = simp length-drop (omega arith) in
      let behind : drop (suc (line_length (drop at text))) (drop at text) ≡ drop (at + line_length (drop at text) + 1) text =
      rw (add-one, ← add-suc) (drop-drop (suc (line_length (drop at text))) at text) in
      rw (← behind) (first-line (drop at text) some)
