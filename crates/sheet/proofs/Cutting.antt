-- A text cut at its line feeds beside `line_length`: where the first line ends, and what reading it comes to. Assumes nothing.
use Prim.Native.Nat.{ℕ, suc, ◌+◌, ◌-◌, ◌<◌}
use mathlib.Core.Bool.{Bool, true, false, cond, and-false}
use mathlib.Core.List.{List, [], ◌∷◌}
use mathlib.Core.Path.{◌≡◌, refl, sym, ap, ◌∙◌}
use native.Mathlib.Nat.{add-suc}
use native.Mathlib.Numerals.{add-one}
use native.Mathlib.Omega.{arith}
use borrow.Author.Tests.{ne_eqb}
use lib.Dec.{eqb}
use lib.ListN.{length, take, drop, length-drop}
use lib.Seq.{drop-drop}
use Rattle.lines.proofs.Lines.{line-ends-within}
use Rattle.lines.specs.Text.{line_length}
use Rattle.quant.specs.declared.refusal.Refusal.{Refusal}
use Rattle.quant.specs.declared.refusal.Refusal.TheVariants.{Layout}
use Rattle.sheet.specs.Reader.{so_far, told, read_text}
use Rattle.sheet.specs.Sheet.{onto, cut, SoFar, Step, goes, stops, step, onward, complete, refuses, read_from}
use Rattle.sheet.specs.declared.state.State.{State}
use Rattle.sheet.specs.declared.state.Verdict.{Verdict}
use Rattle.sheet.specs.declared.state.Verdict.TheVariants.{Good, Bad}

-- no line feed: nothing but the rest
unended : (text : List ℕ) → line_length text ≡ length text → cut text ≡ record { whole = []; rest = text }
unfolding cut onto line_length
unended [] e = refl
unended (b ∷ bs) e = by (eqb b 10) refl (unended bs)
  where
    by : (t : Bool) → eqb b 10 ≡ t → (line_length bs ≡ length bs → cut bs ≡ record { whole = []; rest = bs })
        → cond t (record { whole = [] ∷ (cut bs).whole; rest = (cut bs).rest }) (onto b (cut bs).whole (cut bs).rest) ≡ record { whole = []; rest = b ∷ bs }
    by true s rest = absurd (none (rw s at e))
      where
        none : 0 ≡ suc (length bs) → ⊥
        none k = omega arith
    by false s rest = let k = rw s at e in rw (rest (omega arith))

-- the first line, and the cut of what follows its line feed
ended : (text : List ℕ) → line_length text < length text
    → cut text
    ≡ record { whole = take (line_length text) text ∷ (cut (drop (suc (line_length text)) text)).whole; rest = (cut (drop (suc (line_length text)) text)).rest }
unfolding cut onto line_length
ended [] h = absurd (none h)
  where
    none : 0 < 0 → ⊥
    none k = omega arith
ended (b ∷ bs) h = by (eqb b 10) refl (ended bs)
  where
    line : Bool → ℕ
    line t = cond t 0 (suc (line_length bs))

    by : (t : Bool) → eqb b 10 ≡ t
        → (line_length bs < length bs
        → cut bs ≡ record { whole = take (line_length bs) bs ∷ (cut (drop (suc (line_length bs)) bs)).whole; rest = (cut (drop (suc (line_length bs)) bs)).rest })
        → cond t (record { whole = [] ∷ (cut bs).whole; rest = (cut bs).rest }) (onto b (cut bs).whole (cut bs).rest)
        ≡ record { whole = take (line t) (b ∷ bs) ∷ (cut (drop (line t) bs)).whole; rest = (cut (drop (line t) bs)).rest }
    by true s rest = refl
    by false s rest = let k = rw s at h in rw (rest (omega arith))

module _ (place : ℕ) (s : SoFar) (text : List ℕ) where
  pub read_open : 0 < length text → line_length text ≡ length text → read_text place s text ≡ refuses Layout place
  unfolding read_from
  read_open h e = rw (unended text e, ne_eqb (length text) 0 (λ k. omega arith), and-false (complete s))

  pub read-line : line_length text < length text
      → read_text place s text ≡ onward place (step s (take (line_length text) text)) (λ t. read_text (suc place) t (drop (suc (line_length text)) text))
  unfolding read_from
  read-line h = rw (ended text h)

-- ---- the same from a place on

module _ (place : ℕ) (s : SoFar) (text : List ℕ) (at : ℕ) (h : at < length text) where
  some : 0 < length (drop at text)
  some = rw length-drop (omega arith)

  pub open-from : length text ≡ at + line_length (drop at text) → read_text place s (drop at text) ≡ refuses Layout place
  open-from e = read_open place s (drop at text) some (rw length-drop (omega arith))

  pub line-from : (end : ℕ) → end ≡ at + line_length (drop at text) → (end ≡ length text → ⊥)
      → read_text place s (drop at text) ≡ onward place (step s (take (end - at) (drop at text))) (λ t. read_text (place + 1) t (drop (end + 1) text))
  line-from end e n =
      let size : line_length (drop at text) ≡ end - at = omega arith in
      let behind : at + suc (line_length (drop at text)) ≡ end + 1 = rw add-suc (omega arith) in
      let within : line_length (drop at text) < length (drop at text) =
      rw length-drop (omega (arith, line-ends-within text at h)) in
      let next : drop (suc (line_length (drop at text))) (drop at text) ≡ drop (end + 1) text =
      drop-drop (suc (line_length (drop at text))) at text ∙ ap (λ (k : ℕ). drop k text) behind in
      let first : read_text place s (drop at text) ≡ onward place (step s (take (end - at) (drop at text))) (λ t. read_text (suc place) t (drop (end + 1) text)) =
      rw (next, size) at (read-line place s (drop at text) within) in
      first
      ∙ ap (λ (k : ℕ). onward place (step s (take (end - at) (drop at text))) (λ t. read_text k t (drop (end + 1) text))) (sym (add-one place))

-- what a verdict makes of a step
module _ (v : Verdict) (t : State) (to : Step) (e : told v t ≡ to) where
  pub bad-line : (r : Refusal) → v ≡ Bad r → to ≡ stops r
  bad-line r k = sym e ∙ ap (λ (w : Verdict). told w t) k

  pub good-line : v ≡ Good → to ≡ goes (so_far t)
  good-line k = sym e ∙ ap (λ (w : Verdict). told w t) k
