-- Every way that a pulse is judged, one for each line of document 01's order, and that each gives its answer: so each number is given exactly when its
-- line says. Read off `judged`, test by test. Assumes nothing.
use Rattle.quant.specs.Aligned.{starts_at}
use Rattle.quant.specs.declared.aligned.Misplaced.{Misplaced}
use Rattle.quant.specs.declared.aligned.Start.{Start}
use Rattle.std.specs.Prelude.{Result, Ok, Err}
use Rattle.quant.specs.declared.aligned.Misplaced.TheVariants as placed
use Rattle.std.proofs.Common.{◌≡◌, ℕ, ◌+◌, ◌-◌, ◌<◌, ◌≤◌, Bool, true, false, cond, ltb, List, refl, ap, ◌∙◌, true≢false, arith, ltb-false, ltb-true, le-ltb, lt-ltb}
use lib.Ieee.{Float}
use Rattle.quant.specs.declared.refusal.Refusal.{Refusal}
use Rattle.quant.specs.declared.refusal.Refusal.TheVariants.{NotFinite, BeforeRow, StartPastRow, EndPastRow}
use Rattle.quant.specs.declared.settings.Settings.{Settings}
use Rattle.pulse.specs.declared.bin.Bin.{Bin}
use Rattle.pulse.specs.declared.envelope.Shape.{Shape}
use Rattle.pulse.specs.declared.envelope.Shape.TheVariants.{Plain, Hann, Spline}
use Rattle.pulse.specs.declared.list.Pulse.{Pulse}
use Rattle.pulse.specs.Envelope.{is_shaped}
use Rattle.placing.specs.declared.Judged.{Judged}
use Rattle.placing.specs.declared.Judged.TheVariants.{Plateau, Shaped}
use Rattle.placing.specs.Judged.{placed_at, plain_fine, curved_fine, count_of, flat_of, curved_of, plain_at, measured_at, shaped_at, formed_at, judged_at, judged}

-- a start within the row, and its offset
pub record Inside (s : Settings) (b : Bin) (p : Pulse) (len : ℕ) : Type 0 where
  pub start : ℕ
  pub offset : Float
  pub placed : placed_at s p ≡ starts_at start offset
  pub inside : start < len

pub plain-only : (z : Shape) → is_shaped z ≡ false → z ≡ Plain
plain-only Plain e = refl
plain-only Hann e = absurd (true≢false e)
plain-only Spline e = absurd (true≢false e)

module _ (s : Settings) (b : Bin) (numbers : List Float) (p : Pulse) (len : ℕ) where
  -- in the document's order: 8 for the index, 9, 10 (from 2^64 on, or in the row's count), 11 with 12 and 8 for the points of a shape, 12, 8 for the rest
  pub data Way (j : Result Judged Refusal) : Type 0 where
    no_index : placed_at s p ≡ Err placed.NotFinite → Err NotFinite ≡ j → Way j
    before : placed_at s p ≡ Err placed.Before → Err BeforeRow ≡ j → Way j
    beyond : placed_at s p ≡ Err placed.Beyond → Err StartPastRow ≡ j → Way j
    past : (w : ℕ) (o : Float) → placed_at s p ≡ starts_at w o → len ≤ w → Err StartPastRow ≡ j → Way j
    unshaped : (k : Inside s b p len) (r : Refusal) → is_shaped b.envelope.shape ≡ true → measured_at s b numbers k.offset (len - k.start) ≡ Err r → Err r ≡ j → Way j
    over : (k : Inside s b p len) → b.envelope.shape ≡ Plain → len < k.start + count_of s b → Err EndPastRow ≡ j → Way j
    plain-rest : (k : Inside s b p len) → b.envelope.shape ≡ Plain → k.start + count_of s b ≤ len → plain_fine s b p k.start k.offset ≡ false
        → Err NotFinite ≡ j → Way j
    curved-rest : (k : Inside s b p len) (n : ℕ) → is_shaped b.envelope.shape ≡ true → measured_at s b numbers k.offset (len - k.start) ≡ Ok n → curved_fine s b p k.start k.offset ≡ false
        → Err NotFinite ≡ j → Way j
    flat : (k : Inside s b p len) → b.envelope.shape ≡ Plain → k.start + count_of s b ≤ len → plain_fine s b p k.start k.offset ≡ true
        → Ok (Plateau (flat_of s b p k.start k.offset)) ≡ j → Way j
    curved : (k : Inside s b p len) (n : ℕ) → is_shaped b.envelope.shape ≡ true → measured_at s b numbers k.offset (len - k.start) ≡ Ok n → curved_fine s b p k.start k.offset ≡ true
        → Ok (Shaped (curved_of s b p k.start k.offset n)) ≡ j → Way j

  -- ---- there is no other
  module _ (j : Result Judged Refusal) (k : Inside s b p len) where
    plain-way : (x y : Bool) → b.envelope.shape ≡ Plain → ltb (len - k.start) (count_of s b) ≡ x → plain_fine s b p k.start k.offset ≡ y
        → cond x (Err EndPastRow) (cond y (Ok (Plateau (flat_of s b p k.start k.offset))) (Err NotFinite)) ≡ j → Way j
    plain-way true y z h m e = over k z (omega (arith, k.inside, ltb-true (len - k.start) (count_of s b) h)) e
    plain-way false true z h m e = flat k z (omega (arith, k.inside, ltb-false (len - k.start) (count_of s b) h)) m e
    plain-way false false z h m e = plain-rest k z (omega (arith, k.inside, ltb-false (len - k.start) (count_of s b) h)) m e

    curved-way : (n : ℕ) (x : Bool) → is_shaped b.envelope.shape ≡ true → measured_at s b numbers k.offset (len - k.start) ≡ Ok n → curved_fine s b p k.start k.offset ≡ x
        → cond x (Ok (Shaped (curved_of s b p k.start k.offset n))) (Err NotFinite) ≡ j → Way j
    curved-way n true z m h e = curved k n z m h e
    curved-way n false z m h e = curved-rest k n z m h e

    shaped-way : (q : Result ℕ Refusal) → is_shaped b.envelope.shape ≡ true → measured_at s b numbers k.offset (len - k.start) ≡ q → shaped_at s b p k.start k.offset q ≡ j → Way j
    shaped-way (Ok n) z m e = curved-way n (curved_fine s b p k.start k.offset) z m refl e
    shaped-way (Err r) z m e = unshaped k r z m e

    formed-way : (z : Bool) → is_shaped b.envelope.shape ≡ z
        → cond z (shaped_at s b p k.start k.offset (measured_at s b numbers k.offset (len - k.start))) (plain_at s b p k.start k.offset (len - k.start)) ≡ j → Way j
    formed-way true z e = shaped-way (measured_at s b numbers k.offset (len - k.start)) z refl e
    formed-way false z e = plain-way (ltb (len - k.start) (count_of s b)) (plain_fine s b p k.start k.offset) (plain-only b.envelope.shape z) refl refl e

  module _ (j : Result Judged Refusal) where
    started-way : (w : ℕ) (o : Float) (x : Bool) → placed_at s p ≡ starts_at w o → ltb w len ≡ x
        → cond x (formed_at s b numbers p w o (len - w)) (Err StartPastRow) ≡ j → Way j
    started-way w o true g h e = formed-way j (record { start = w; offset = o; placed = g; inside = ltb-true w len h }) (is_shaped b.envelope.shape) refl e
    started-way w o false g h e = past w o g (ltb-false w len h) e

    placed-way : (q : Result Start Misplaced) → placed_at s p ≡ q → judged_at s b numbers p len q ≡ j → Way j
    placed-way (Ok q) g e = started-way q.index q.offset (ltb q.index len) g refl e
    placed-way (Err placed.NotFinite) g e = no_index g e
    placed-way (Err placed.Before) g e = before g e
    placed-way (Err placed.Beyond) g e = beyond g e

    pub way : judged s b numbers p len ≡ j → Way j
    unfolding judged
    way e = placed-way (placed_at s p) refl e

  -- ---- each gives its answer
  inside_is : (k : Inside s b p len) (z : Bool) → is_shaped b.envelope.shape ≡ z
      → judged s b numbers p len
      ≡ cond z (shaped_at s b p k.start k.offset (measured_at s b numbers k.offset (len - k.start))) (plain_at s b p k.start k.offset (len - k.start))
  unfolding judged
  inside_is k z e =
      ap (judged_at s b numbers p len) k.placed
      ∙ ap (λ (x : Bool). cond x (formed_at s b numbers p k.start k.offset (len - k.start)) (Err StartPastRow)) (lt-ltb k.start len k.inside)
      ∙ ap (λ (y : Bool). cond y (shaped_at s b p k.start k.offset (measured_at s b numbers k.offset (len - k.start))) (plain_at s b p k.start k.offset (len - k.start))) e

  pub way-given : (j : Result Judged Refusal) → Way j → judged s b numbers p len ≡ j
  unfolding judged
  way-given j (no_index g e) = ap (judged_at s b numbers p len) g ∙ e
  way-given j (before g e) = ap (judged_at s b numbers p len) g ∙ e
  way-given j (beyond g e) = ap (judged_at s b numbers p len) g ∙ e
  way-given j (past w o g h e) =
      ap (judged_at s b numbers p len) g
      ∙ ap (λ (x : Bool). cond x (formed_at s b numbers p w o (len - w)) (Err StartPastRow)) (le-ltb w len h)
      ∙ e
  way-given j (unshaped k r z m e) = inside_is k true z ∙ ap (shaped_at s b p k.start k.offset) m ∙ e
  way-given j (over k z h e) = inside_is k false (ap is_shaped z) ∙ rw (lt-ltb (len - k.start) (count_of s b) (omega (arith, k.inside, h))) e
  way-given j (plain-rest k z h m e) = inside_is k false (ap is_shaped z) ∙ rw (le-ltb (len - k.start) (count_of s b) (omega (arith, k.inside, h)), m) e
  way-given j (curved-rest k n z m h e) = inside_is k true z ∙ ap (shaped_at s b p k.start k.offset) m ∙ rw h e
  way-given j (flat k z h m e) = inside_is k false (ap is_shaped z) ∙ rw (le-ltb (len - k.start) (count_of s b) (omega (arith, k.inside, h)), m) e
  way-given j (curved k n z m h e) = inside_is k true z ∙ ap (shaped_at s b p k.start k.offset) m ∙ rw h e
