-- Rows that a call leaves as they came: both where it is refused, both where there is no section, and a second row of no samples. A row goes by the
-- answer. Assumes nothing.
use Rattle.quant.specs.Refusal.{Answer, refuse}
use Rattle.std.specs.Prelude.{Ok, Err}
use Prim.Native.Nat.{ℕ}
use mathlib.Core.Path.{◌≡◌, refl, ◌∙◌}
use mathlib.Core.Bool.{Bool, true, false, cond, and-false}
use mathlib.Core.List.{List, [], ◌∷◌}
use lib.Dec.{leb, eqb-suc-zero}
use lib.ListN.{length}
use lib.Ieee.{Float}
use Rattle.quant.specs.declared.refusal.Refusal.{Refusal}
use Rattle.rows.specs.Rows.{after}
use Rattle.rows.proofs.After.{by_answer}
use Rattle.iir.specs.declared.biquad.Biquad.{Biquad}
use Rattle.iir.specs.Section.{sections_from, sections_of}
use Rattle.iir.specs.Filter.{cascade, filtered}
use Rattle.iir.specs.Iir.{iir_answer, Iir}
use Rattle.iir.proofs.Pipeline.{pipeline-cascade}

pub refused-left : (rows : ℕ) (i q l : List Float) (r : Refusal) (place : ℕ) (i' q' : List Float) → Iir rows i q l (refuse r place) i' q' → (i' ≡ i) × (q' ≡ q)
refused-left rows i q l r place i' q' h =
    (by_answer (filtered (sections_of l) i) i h.answer h.i-row, by_answer (filtered (sections_of l) q) q h.answer h.q-row)

pub done_filters : (rows : ℕ) (i q l : List Float) (count : ℕ) (i' q' : List Float) → Iir rows i q l (Ok count) i' q'
    → (i' ≡ filtered (sections_of l) i) × (q' ≡ filtered (sections_of l) q)
done_filters rows i q l count i' q' h =
    (by_answer (filtered (sections_of l) i) i h.answer h.i-row, by_answer (filtered (sections_of l) q) q h.answer h.q-row)

either : (a : Answer) (xs : List Float) → after a xs xs ≡ xs
either (Ok count) xs = refl
either (Err e) xs = refl

pub none_left : (rows : ℕ) (i q : List Float) (r : Answer) (i' q' : List Float) → Iir rows i q [] r i' q' → (i' ≡ i) × (q' ≡ q)
unfolding sections_from
none_left rows i q r i' q' h = let a = iir_answer rows (length i) (length q) [] in (h.i-row ∙ either a i, h.q-row ∙ either a q)

-- ---- one row

either_way : (b : Bool) (xs : List Float) → cond b xs xs ≡ xs
either_way true xs = refl
either_way false xs = refl

no_samples : (bs : List Biquad) → filtered bs [] ≡ []
unfolding cascade
no_samples bs = rw (pipeline-cascade bs []) (simp either_way)

second : (l i q : List Float) → after (iir_answer 1 (length i) (length q) l) (filtered (sections_of l) q) q ≡ q
second l i [] = rw (no_samples (sections_of l)) (either (iir_answer 1 (length i) 0 l) [])
second l i (x ∷ xs) = rw (eqb-suc-zero (length xs), and-false (leb (length i) 65536))

pub second-left : (i q l : List Float) (r : Answer) (i' q' : List Float) → Iir 1 i q l r i' q' → q' ≡ q
second-left i q l r i' q' h = h.q-row ∙ second l i q
