-- Of a call: exactly when it is refused by 22, and with which section; exactly when it is accepted; and that its rows then are the cascade's but for
-- the signs of zeros, however many sections there are. Assumes nothing.
use Rattle.quant.proofs.Refusals.{same-why, same-place}
use Rattle.quant.specs.Refusal.{Answer, refuse}
use Rattle.std.specs.Prelude.{Ok}
use Prim.Native.Nat.{ℕ, zero, suc, ◌+◌, ◌*◌, ◌/◌, ◌≤◌}
use native.Mathlib.Omega.{arith}
use mathlib.Core.Path.{◌≡◌, refl, sym, subst}
use mathlib.Core.Bool.{Bool, true, false, cond}
use mathlib.Core.Logic.{◌↔◌}
use mathlib.Core.List.{List, [], ◌∷◌}
use lib.Dec.{T, leb, eqb-suc-zero}
use lib.ListN.{length}
use lib.Ieee.{Float}
use Rattle.quant.specs.declared.refusal.Refusal.TheVariants.{Malformed, WrongSize, WrongA0}
use Rattle.rows.specs.Rows.{all_finite, answer_of}
use Rattle.rows.proofs.Finite.{finite-at}
use Rattle.iir.specs.declared.biquad.Biquad.{Biquad}
use Rattle.iir.specs.Section.{sections_from, sections_of, a0s_judged, finite_sections}
use Rattle.iir.specs.Filter.{cascade, pipeline, filtered}
use Rattle.iir.specs.Iir.{iir_fits, first_refusal, iir_answer, Iir}
use Rattle.iir.specs.Alike.{AlikeRows}
use Rattle.iir.specs.A0.{AtSection, Accepted}
use Rattle.iir.proofs.Cascade.{in_turn}
use Rattle.iir.proofs.Agree.{same_rows, pipeline-alike}
use Rattle.iir.proofs.A0s.{A0sTold, none-wrong, first-wrong, told, none_is, first-is}
use Rattle.iir.proofs.Left.{done_filters}

-- ---- what is answered

module _ (rows : ℕ) (i q l : List Float) where
  abbrev answered : Answer
  answered = iir_answer rows (length i) (length q) l

  -- the one way to each answer, in the order of the refusals
  pub data Way : Answer → Type 0 where
    wrong_size : iir_fits rows (length i) (length q) (length l) ≡ false → Way (refuse WrongSize 0)
    malformed : iir_fits rows (length i) (length q) (length l) ≡ true → all_finite l ≡ false → Way (refuse Malformed 0)
    at-section : (k : ℕ) → AtSection rows i q l k → Way (refuse WrongA0 k)
    accepted : Accepted rows i q l → Way (Ok 0)

  pub way : Way answered
  way = by (iir_fits rows (length i) (length q) (length l)) (all_finite l) (a0s_judged l) refl refl (told l)
    where
      by : (fits fine : Bool) (a : Answer) → iir_fits rows (length i) (length q) (length l) ≡ fits → all_finite l ≡ fine → A0sTold l a → Way (first_refusal (answer_of fits fine) a)
      by false fine a e f t = wrong_size e
      by true false a e f t = malformed e f
      by true true a e f (none-wrong each) = accepted (record { numbers = record { sizes = e; fine = f }; each = each })
      by true true a e f (first-wrong k h) = at-section k (record { numbers = record { sizes = e; fine = f }; first = h })

  -- exactly when by 22, and with which section
  pub section-told : (k : ℕ) → (answered ≡ refuse WrongA0 k) ↔ AtSection rows i q l k
  section-told k = (to answered way, back)
    where
      to : (a : Answer) → Way a → a ≡ refuse WrongA0 k → AtSection rows i q l k
      to a (wrong_size e) same = let why = same-why _ _ _ _ same in let z : ◌≡◌ {A = ℕ} 0 1 = cc in absurd (omega arith)
      to a (malformed e f) same = let why = same-why _ _ _ _ same in let z : ◌≡◌ {A = ℕ} 0 1 = cc in absurd (omega arith)
      to a (at-section p h) same = let is : p ≡ k = same-place _ _ _ _ same in subst (AtSection rows i q l) is h
      to a (accepted h) same = let z : ◌≡◌ {A = ℕ} 0 1 = cc in absurd (omega arith)

      back : AtSection rows i q l k → answered ≡ refuse WrongA0 k
      back h = rw (h.numbers.sizes, h.numbers.fine) (first-is l k h.first)

  -- exactly when not at all
  pub acceptance_told : (answered ≡ Ok 0) ↔ Accepted rows i q l
  acceptance_told = (to answered way, back)
    where
      to : (a : Answer) → Way a → a ≡ Ok 0 → Accepted rows i q l
      to a (wrong_size e) same = let z : ◌≡◌ {A = ℕ} 0 1 = cc in absurd (omega arith)
      to a (malformed e f) same = let z : ◌≡◌ {A = ℕ} 0 1 = cc in absurd (omega arith)
      to a (at-section p h) same = let z : ◌≡◌ {A = ℕ} 0 1 = cc in absurd (omega arith)
      to a (accepted h) same = h

      back : Accepted rows i q l → answered ≡ Ok 0
      back h = rw (h.numbers.sizes, h.numbers.fine) (none_is l h.each)

-- ---- what an accepted call leaves

-- the numbers that sections run with are among the list's
fine-from : (l : List Float) (n k : ℕ) → all_finite l ≡ true → 6 * (k + n) ≤ length l → T (finite_sections (sections_from l n k))
unfolding sections_from finite_sections
fine-from l zero k e h = tt
fine-from l (suc n) k e h =
    rw (finite-at l (6 * k) e (omega arith), finite-at l (6 * k + 1) e (omega arith), finite-at l (6 * k + 2) e (omega arith), finite-at l (6 * k + 4) e (omega arith), finite-at l (6 * k + 5) e (omega arith))
    (fine-from l n (suc k) e (omega arith))

pub fine-sections : (l : List Float) → all_finite l ≡ true → T (finite_sections (sections_of l))
fine-sections l e = fine-from l (length l / 6) 0 e (omega arith)

filtered-alike : (bs : List Biquad) (xs : List Float) → AlikeRows (pipeline bs xs) (cascade bs xs) → AlikeRows (filtered bs xs) (cascade bs xs)
filtered-alike [] xs h = rw (in_turn [] xs) (same_rows xs)
filtered-alike (b ∷ bs) xs h = rw (eqb-suc-zero (length bs)) (go (leb (length (b ∷ bs)) 4))
  where
    go : (few : Bool) → AlikeRows (cond few (pipeline (b ∷ bs) xs) (cascade (b ∷ bs) xs)) (cascade (b ∷ bs) xs)
    go true = h
    go false = same_rows (cascade (b ∷ bs) xs)

pub done-cascade : (rows : ℕ) (i q l i' q' : List Float) → Iir rows i q l (Ok 0) i' q' → AlikeRows i' (cascade (sections_of l) i) × AlikeRows q' (cascade (sections_of l) q)
done-cascade rows i q l i' q' h =
    let fine = fine-sections l ((acceptance_told rows i q l).0 (sym h.answer)).numbers.fine in
    let left = done_filters rows i q l 0 i' q' h in
    let bs = sections_of l in
    (rw left.0 (filtered-alike bs i (pipeline-alike l i fine)), rw left.1 (filtered-alike bs q (pipeline-alike l q fine)))
