-- The numbers 9 to 11 are given exactly when document 01's table says (12: proofs/Twelve.antt; 8 is given in every other refusal: proofs/Ways.antt). Read
-- off the ways that a pulse is judged; an envelope is refused by 11, 12 or 8 only. Assumes nothing.
use Rattle.quant.specs.Aligned.{starts_at}
use Rattle.std.specs.Prelude.{Err, Result}
use Rattle.quant.specs.declared.aligned.Misplaced.TheVariants as placed
use Rattle.std.proofs.Common.{◌≡◌, ℕ, ◌-◌, ◌≤◌, true, ◌⊎◌, List, sym, refl, ap, ◌∙◌, inl, inr, arith}
use lib.Ieee.{Float, lt}
use Rattle.exact.specs.Doubles.{nought}
use Rattle.quant.specs.declared.refusal.Refusal.{Refusal}
use Rattle.quant.specs.declared.refusal.Refusal.TheVariants.{NotFinite, BeforeRow, StartPastRow, ShapeTooShort, EndPastRow}
use Rattle.quant.specs.declared.settings.Settings.{Settings}
use Rattle.shape.specs.Parts.{t1}
use Rattle.shape.specs.Envelope.{enveloped_of, least}
use Rattle.shape.proofs.Envelopes.{eleven, refused-by}
use Rattle.shape.proofs.Laying.{too_short}
use Rattle.pulse.specs.declared.bin.Bin.{Bin}
use Rattle.pulse.specs.declared.list.Pulse.{Pulse}
use Rattle.pulse.specs.Envelope.{is_shaped}
use Rattle.placing.specs.declared.Judged.{Judged}
use Rattle.placing.specs.Judged.{placed_at, measured_at, judged}
use Rattle.placing.proofs.Ways.{Inside, Way, no_index, before, beyond, past, unshaped, over, plain-rest, curved-rest, flat, curved, way, way-given}

module _ (s : Settings) (b : Bin) (p : Pulse) (len : ℕ) where
  -- the start is not below the row length
  pub record Past : Type 0 where
    pub start : ℕ
    pub offset : Float
    pub placed : placed_at s p ≡ starts_at start offset
    pub past : len ≤ start

  -- a shaped pulse that starts within the row, with t1 < 0
  pub record Short : Type 0 where
    pub at : Inside s b p len
    pub shape : is_shaped b.envelope.shape ≡ true
    pub short : lt (t1 b.envelope.width.0 b.envelope.plateau.0 at.offset s.rate.0 s.dt.0) nought ≡ true

module _ (s : Settings) (b : Bin) (numbers : List Float) (p : Pulse) (len : ℕ) where
  -- an envelope that is refused
  measured-by : (o : Float) (room : ℕ) (r : Refusal) → measured_at s b numbers o room ≡ Err r → (r ≡ ShapeTooShort) ⊎ ((r ≡ EndPastRow) ⊎ (r ≡ NotFinite))
  measured-by o room r m = refused-by b.envelope.shape numbers b.envelope.width.0 b.envelope.plateau.0 o s.rate.0 s.dt.0 (least room 65536) r m

  not-nine : (r : Refusal) → (r ≡ ShapeTooShort) ⊎ ((r ≡ EndPastRow) ⊎ (r ≡ NotFinite)) → ◌≡◌ {A = (Result Judged Refusal)} (Err r) (Err BeforeRow) → ⊥
  not-nine r (inl h) e = let z : ◌≡◌ {A = ℕ} 0 1 = cc in omega arith
  not-nine r (inr (inl h)) e = let z : ◌≡◌ {A = ℕ} 0 1 = cc in omega arith
  not-nine r (inr (inr h)) e = let z : ◌≡◌ {A = ℕ} 0 1 = cc in omega arith

  not_ten : (r : Refusal) → (r ≡ ShapeTooShort) ⊎ ((r ≡ EndPastRow) ⊎ (r ≡ NotFinite)) → ◌≡◌ {A = (Result Judged Refusal)} (Err r) (Err StartPastRow) → ⊥
  not_ten r (inl h) e = let z : ◌≡◌ {A = ℕ} 0 1 = cc in omega arith
  not_ten r (inr (inl h)) e = let z : ◌≡◌ {A = ℕ} 0 1 = cc in omega arith
  not_ten r (inr (inr h)) e = let z : ◌≡◌ {A = ℕ} 0 1 = cc in omega arith

  -- ---- 9: the aligned start is below 0
  pub nine-given : placed_at s p ≡ Err placed.Before → judged s b numbers p len ≡ Err BeforeRow
  nine-given g = way-given s b numbers p len (Err BeforeRow) (before g refl)

  pub nine : judged s b numbers p len ≡ Err BeforeRow → placed_at s p ≡ Err placed.Before
  nine e = by (way s b numbers p len (Err BeforeRow) e)
    where
      by : Way s b numbers p len (Err BeforeRow) → placed_at s p ≡ Err placed.Before
      by (no_index g e) = let z : ◌≡◌ {A = ℕ} 0 1 = cc in absurd (omega arith)
      by (before g e) = g
      by (beyond g e) = let z : ◌≡◌ {A = ℕ} 0 1 = cc in absurd (omega arith)
      by (past w o g h e) = let z : ◌≡◌ {A = ℕ} 0 1 = cc in absurd (omega arith)
      by (unshaped k r z m e) = absurd (not-nine r (measured-by k.offset (len - k.start) r m) e)
      by (over k z h e) = let z : ◌≡◌ {A = ℕ} 0 1 = cc in absurd (omega arith)
      by (plain-rest k z h m e) = let z : ◌≡◌ {A = ℕ} 0 1 = cc in absurd (omega arith)
      by (curved-rest k n z m h e) = let z : ◌≡◌ {A = ℕ} 0 1 = cc in absurd (omega arith)
      by (flat k z h m e) = let z : ◌≡◌ {A = ℕ} 0 1 = cc in absurd (omega arith)
      by (curved k n z m h e) = let z : ◌≡◌ {A = ℕ} 0 1 = cc in absurd (omega arith)

  -- ---- 10: the start is not below the row length, or is from 2^64 on
  pub ten_given : (placed_at s p ≡ Err placed.Beyond) ⊎ Past s b p len → judged s b numbers p len ≡ Err StartPastRow
  ten_given (inl g) = way-given s b numbers p len (Err StartPastRow) (beyond g refl)
  ten_given (inr h) = way-given s b numbers p len (Err StartPastRow) (past h.start h.offset h.placed h.past refl)

  pub ten : judged s b numbers p len ≡ Err StartPastRow → (placed_at s p ≡ Err placed.Beyond) ⊎ Past s b p len
  ten e = by (way s b numbers p len (Err StartPastRow) e)
    where
      by : Way s b numbers p len (Err StartPastRow) → (placed_at s p ≡ Err placed.Beyond) ⊎ Past s b p len
      by (no_index g e) = let z : ◌≡◌ {A = ℕ} 0 1 = cc in absurd (omega arith)
      by (before g e) = let z : ◌≡◌ {A = ℕ} 0 1 = cc in absurd (omega arith)
      by (beyond g e) = inl g
      by (past w o g h e) = inr (record { start = w; offset = o; placed = g; past = h })
      by (unshaped k r z m e) = absurd (not_ten r (measured-by k.offset (len - k.start) r m) e)
      by (over k z h e) = let z : ◌≡◌ {A = ℕ} 0 1 = cc in absurd (omega arith)
      by (plain-rest k z h m e) = let z : ◌≡◌ {A = ℕ} 0 1 = cc in absurd (omega arith)
      by (curved-rest k n z m h e) = let z : ◌≡◌ {A = ℕ} 0 1 = cc in absurd (omega arith)
      by (flat k z h m e) = let z : ◌≡◌ {A = ℕ} 0 1 = cc in absurd (omega arith)
      by (curved k n z m h e) = let z : ◌≡◌ {A = ℕ} 0 1 = cc in absurd (omega arith)

  -- ---- 11: a shaped pulse that starts within the row, with t1 < 0
  pub eleven_given : Short s b p len → judged s b numbers p len ≡ Err ShapeTooShort
  eleven_given h =
      let k = h.at in
      let parted = too_short b.envelope.width.0 b.envelope.plateau.0 k.offset s.rate.0 s.dt.0 (least (len - k.start) 65536) h.short in
      way-given s b numbers p len (Err ShapeTooShort) (unshaped k ShapeTooShort h.shape (sym (ap (enveloped_of b.envelope.shape numbers) parted)) refl)

  pub only_eleven : judged s b numbers p len ≡ Err ShapeTooShort → Short s b p len
  only_eleven e = by (way s b numbers p len (Err ShapeTooShort) e)
    where
      by : Way s b numbers p len (Err ShapeTooShort) → Short s b p len
      by (no_index g e) = let z : ◌≡◌ {A = ℕ} 0 1 = cc in absurd (omega arith)
      by (before g e) = let z : ◌≡◌ {A = ℕ} 0 1 = cc in absurd (omega arith)
      by (beyond g e) = let z : ◌≡◌ {A = ℕ} 0 1 = cc in absurd (omega arith)
      by (past w o g h e) = let z : ◌≡◌ {A = ℕ} 0 1 = cc in absurd (omega arith)
      by (unshaped k r z m e) =
          let same : r ≡ ShapeTooShort = cc in
          record {
            at = k;
            shape = z;
            short = eleven b.envelope.shape numbers b.envelope.width.0 b.envelope.plateau.0 k.offset s.rate.0 s.dt.0 (least (len - k.start) 65536) (m ∙ ap Err same);
          }
      by (over k z h e) = let z : ◌≡◌ {A = ℕ} 0 1 = cc in absurd (omega arith)
      by (plain-rest k z h m e) = let z : ◌≡◌ {A = ℕ} 0 1 = cc in absurd (omega arith)
      by (curved-rest k n z m h e) = let z : ◌≡◌ {A = ℕ} 0 1 = cc in absurd (omega arith)
      by (flat k z h m e) = let z : ◌≡◌ {A = ℕ} 0 1 = cc in absurd (omega arith)
      by (curved k n z m h e) = let z : ◌≡◌ {A = ℕ} 0 1 = cc in absurd (omega arith)
