-- The step is the lone two, one after the other: of every row and number, and so of every call, accepted or refused. Assumes nothing.
use Rattle.quant.specs.Refusal.{Answer}
use mathlib.Core.Path.{◌≡◌, refl, sym, ap, ◌∙◌}
use mathlib.Core.Bool.{Bool, true, false, ◌&&◌}
use mathlib.Core.List.{List, [], ◌∷◌}
use Prim.Native.Nat.{ℕ, suc}
use native.Mathlib.Nat.{suc-ne-zero, suc_inj}
use borrow.Author.Tests.{eqb-true}
use lib.Dec.{eqb, leb}
use lib.ListN.{length}
use lib.Ieee.{Float}
use Rattle.exact.proofs.Truth.{both}
use Rattle.rows.specs.Rows.{rows_fit, all_finite, answer_of, after}
use Rattle.mixer.specs.Mixer.{corrected, corrected_row, mixer_fits, mixer_answer, Mixer}
use Rattle.mixer.specs.Lone.{mixed_row, raised_row, iq_fits, offset_fits, Iq, Offset, jointly}

pub row-by-row : (m n o : Float) (xs ys : List Float) → corrected_row m n o xs ys ≡ raised_row o (mixed_row m n xs ys)
unfolding corrected_row mixed_row raised_row
row-by-row m n o [] ys = refl
row-by-row m n o (x ∷ xs) [] = refl
row-by-row m n o (x ∷ xs) (y ∷ ys) = ap (λ (l : List Float). corrected m n o x y ∷ l) (row-by-row m n o xs ys)

-- ---- lengths stay, so that the second step meets the sizes that the first did

mixed-length : (m n : Float) (xs ys : List Float) → length xs ≡ length ys → length (mixed_row m n xs ys) ≡ length xs
unfolding mixed_row
mixed-length m n [] ys e = refl
mixed-length m n (x ∷ xs) [] e = absurd (suc-ne-zero (length xs) e)
mixed-length m n (x ∷ xs) (y ∷ ys) e = ap suc (mixed-length m n xs ys (suc_inj e))

-- two rows that fit are of equal length
pub equal-rows : (rows i q : ℕ) → rows_fit rows i q ≡ true → rows ≡ 2 → i ≡ q
equal-rows rows i q f two = eqb-true i q (both (leb i 65536) (eqb i q) (sym (ap (λ (n : ℕ). rows_fit n i q) two) ∙ f)).1

length-stays : (f p : Bool) (new old row : List Float) → (f ≡ true → length new ≡ length old) → row ≡ after (answer_of f p) new old → length row ≡ length old
length-stays true true new old row same h = ap length h ∙ same refl
length-stays true false new old row same h = ap length h
length-stays false p new old row same h = ap length h

-- ---- what they answer together, and the rows that they leave

together : (f p g r : Bool) → jointly (answer_of f p) (answer_of g r) ≡ answer_of (f && g) (p && r)
together true true true true = refl
together true true true false = refl
together true true false r = refl
together true false true true = refl
together true false true false = refl
together true false false r = refl
together false p true true = refl
together false p true false = refl
together false p false r = refl

rows_agree : (f p g r : Bool) (raised : List Float → List Float) (mixture i i₁ i₂ : List Float) → i₁ ≡ after (answer_of f p) mixture i → i₂ ≡ after (answer_of g r) (raised i₁) i₁
    → after (answer_of (f && g) (p && r)) i₂ i ≡ after (answer_of (f && g) (p && r)) (raised mixture) i
rows_agree true true true true raised mixture i i₁ i₂ h k = k ∙ ap raised h
rows_agree true true true false raised mixture i i₁ i₂ h k = refl
rows_agree true true false r raised mixture i i₁ i₂ h k = refl
rows_agree true false true r raised mixture i i₁ i₂ h k = refl
rows_agree true false false r raised mixture i i₁ i₂ h k = refl
rows_agree false p g r raised mixture i i₁ i₂ h k = refl

sizes-agree : (fit two four x y : Bool) → (two ≡ true → x ≡ y) → (fit && two && four && x) ≡ ((fit && two && four) && (fit && y))
sizes-agree true true true x y h = h refl
sizes-agree true true false x y h = refl
sizes-agree true false four x y h = refl
sizes-agree false two four x y h = refl

-- ---- of any call

module _ (rows : ℕ) (i q m o : List Float) (a b : Answer) (i₁ q₁ i₂ q₂ : List Float) (h : Iq rows i q m a i₁ q₁) (k : Offset rows i₁ q₁ o b i₂ q₂) where
  abbrev f : Bool
  f = iq_fits rows i q m

  abbrev g : Bool
  g = offset_fits rows i₁ q₁ o

  abbrev p : Bool
  p = all_finite m

  abbrev r : Bool
  r = all_finite o

  equal-lengths : f ≡ true → length i ≡ length q
  equal-lengths e =
      let two = both (rows_fit rows (length i) (length q)) (eqb rows 2) (both (rows_fit rows (length i) (length q) && eqb rows 2) (eqb (length m) 4) e).0 in
      equal-rows rows (length i) (length q) two.0 (eqb-true rows 2 two.1)

  fits-alike : mixer_fits rows (length i) (length q) (length m) (length o) ≡ (f && g)
  unfolding mixer_fits
  fits-alike =
      let first = length-stays f p _ i i₁ (λ e. mixed-length _ _ i q (equal-lengths e)) h.first in
      let second = length-stays f p _ q q₁ (λ e. mixed-length _ _ i q (equal-lengths e) ∙ equal-lengths e) h.second in
      sizes-agree (rows_fit rows (length i) (length q)) (eqb rows 2) (eqb (length m) 4) (eqb (length o) 2) (eqb (length o) rows) (λ e. ap (eqb (length o)) (sym (eqb-true rows 2 e)))
      ∙ ap (λ (fit : Bool). f && (fit && eqb (length o) rows)) (sym (λ j. rows_fit rows (first j) (second j)))

  fits : answer_of (f && g) (p && r) ≡ mixer_answer rows i q m o
  fits = ap (λ (fit : Bool). answer_of fit (p && r)) (sym fits-alike)

  answers : jointly a b ≡ answer_of (f && g) (p && r)
  answers = (λ j. jointly (h.answer j) (k.answer j)) ∙ together f p g r

  row : (x y z : Float) (old mid new : List Float) → mid ≡ after (answer_of f p) (mixed_row x y i q) old → new ≡ after (answer_of g r) (raised_row z mid) mid
      → after (jointly a b) new old ≡ after (mixer_answer rows i q m o) (corrected_row x y z i q) old
  row x y z old mid new d e =
      ap (λ (c : Answer). after c new old) answers
      ∙ rows_agree f p g r (raised_row z) (mixed_row x y i q) old mid new d e
      ∙ (λ j. after (fits j) (sym (row-by-row x y z i q) j) old)

  pub as_the-two : Mixer rows i q m o (jointly a b) (after (jointly a b) i₂ i) (after (jointly a b) q₂ q)
  as_the-two = record { answer = answers ∙ fits; first = row _ _ _ i i₁ i₂ h.first k.first; second = row _ _ _ q q₁ q₂ h.second k.second }
