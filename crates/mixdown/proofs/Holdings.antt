-- An envelope in the scratch is the envelope: worked out again, in any room, it leaves the scratch as it is. For the room only decides whether the
-- parts are refused, not what they are. Assumes nothing.
use Rattle.std.specs.Prelude.{Result, Ok, Err}
use Rattle.quant.specs.declared.refusal.Refusal.{Refusal}
use Prim.Native.Nat.{ℕ, ◌≤◌}
use native.Mathlib.Omega.{arith}
use mathlib.Core.Path.{◌≡◌, refl, sym, ap, ◌∙◌}
use mathlib.Core.Bool.{Bool, true, false, cond}
use mathlib.Core.List.{List, ◌++◌}
use lib.Dec.{T, ltb, eqb}
use lib.Ieee.{Float, binary64, lt, eq, of_bits, to_bits, fits}
use lib.Ieee.Bits.{of_bits-to_bits}
use lib.ListN.{length, drop}
use borrow.Author.Tests.{eqb-true}
use Rattle.exact.specs.Doubles.{nought}
use Rattle.quant.specs.declared.refusal.Refusal.TheVariants.{ShapeTooShort, EndPastRow}
use Rattle.quant.specs.declared.settings.Settings.{Settings}
use Rattle.pulse.specs.declared.bin.Bin.{Bin}
use Rattle.pulse.specs.declared.envelope.Shape.{Shape}
use Rattle.shape.specs.declared.parts.Parts.{Parts}
use Rattle.shape.specs.Parts.{index_at, t1, t3, unbroken, broken, ordered, parted_of}
use Rattle.shape.specs.Envelope.{least, Fitting, shape_of, fine_points, scratch_filled, enveloped_of, scratch_after}
use Rattle.shape.proofs.Filling.{within-fits, fits_more, least-left}
use Rattle.shape.proofs.Envelopes.{scratch-length, rest-stays}
use Rattle.mixdown.specs.Sampled.{parts_at}

-- ---- the parts, without the room
module _ (w p o rate dt : Float) where
  abbrev n : ℕ
  n = index_at (t3 w p o rate dt) rate

  abbrev roomy : Result Parts Refusal
  roomy = cond (eq p nought) (Ok (unbroken w p o rate dt n)) (ordered (broken w p o rate dt n))

  roomy-is : (room : ℕ) (q : Parts) → parted_of w p o rate dt room ≡ Ok q → roomy ≡ Ok q
  unfolding parted_of
  roomy-is room q e = go (lt (t1 w p o rate dt) nought) (ltb room n) e
    where
      go : (a b : Bool) → cond a (Err ShapeTooShort) (cond b (Err EndPastRow) roomy) ≡ Ok q → roomy ≡ Ok q
      go true b f = let z : ◌≡◌ {A = ℕ} 0 1 = cc in absurd (omega arith)
      go false true f = let z : ◌≡◌ {A = ℕ} 0 1 = cc in absurd (omega arith)
      go false false f = f

  parts_same : (room room' : ℕ) (q q' : Parts) → parted_of w p o rate dt room ≡ Ok q → parted_of w p o rate dt room' ≡ Ok q' → q ≡ q'
  parts_same room room' q q' e f = let same : Ok q ≡ Ok q' = sym (roomy-is room q e) ∙ roomy-is room' q' f in cc

-- ---- filled twice
module _ (shape : Shape) (numbers : List Float) (q : Parts) (old : List Float) (fit : Fitting q (length old)) where
  abbrev once : List Float
  once = shape_of shape numbers q ++ drop q.length old

  filled-twice : scratch_filled shape numbers q (scratch_filled shape numbers q old) ≡ scratch_filled shape numbers q old
  filled-twice = go (fine_points shape numbers q)
    where
      go : (b : Bool) → cond b (shape_of shape numbers q ++ drop q.length (cond b once old)) (cond b once old) ≡ cond b once old
      go true = ap (λ (l : List Float). shape_of shape numbers q ++ l) (rest-stays shape numbers q old fit)
      go false = refl

  filled-length : length (scratch_filled shape numbers q old) ≡ length old
  filled-length = go (fine_points shape numbers q)
    where
      go : (b : Bool) → length (cond b once old) ≡ length old
      go true = scratch-length shape numbers q old fit
      go false = refl

module _ (s : Settings) (b : Bin) (numbers : List Float) (offset : Float) (room : ℕ) (old : List Float) (h : room ≤ length old) where
  abbrev shape : Shape
  shape = b.envelope.shape

  fitting : (q : Parts) → parts_at s b offset room ≡ Ok q → Fitting q (length old)
  fitting q e = fits_more q (least room 65536) (length old) (let less = least-left room 65536 in omega (arith, less)) (within-fits (least room 65536) q _ _ _ _ _ e)

  -- the scratch is as long as before
  pub after-length : length (scratch_after shape numbers (parts_at s b offset room) old) ≡ length old
  after-length = go (parts_at s b offset room) refl
    where
      go : (d : Result Parts Refusal) → parts_at s b offset room ≡ d → length (scratch_after shape numbers d old) ≡ length old
      go (Ok q) e = filled-length shape numbers q old (fitting q e)
      go (Err r) e = refl

  -- and holds the envelope
  pub holds_after : (k : ℕ) → enveloped_of shape numbers (parts_at s b offset room) ≡ Ok k → (room' : ℕ)
      → scratch_after shape numbers (parts_at s b offset room') (scratch_after shape numbers (parts_at s b offset room) old) ≡ scratch_after shape numbers (parts_at s b offset room) old
  holds_after k points room' = go (parts_at s b offset room) refl points (parts_at s b offset room') refl
    where
      go : (d : Result Parts Refusal) → parts_at s b offset room ≡ d → enveloped_of shape numbers d ≡ Ok k → (d' : Result Parts Refusal) → parts_at s b offset room' ≡ d'
          → scratch_after shape numbers d' (scratch_after shape numbers d old) ≡ scratch_after shape numbers d old
      go (Err r) e f d' e' = let z : ◌≡◌ {A = ℕ} 0 1 = cc in absurd (omega arith)
      go (Ok q) e f (Err r) e' = refl
      go (Ok q) e f (Ok q') e' = rw (parts_same _ _ _ _ _ (least room' 65536) (least room 65536) q' q e' e) (filled-twice shape numbers q old (fitting q e))

-- ---- offsets by their bits

pub bits-same : (a b : Float) → T (fits binary64 a) → T (fits binary64 b) → eqb (to_bits binary64 a) (to_bits binary64 b) ≡ true → a ≡ b
bits-same a b f g e = sym (of_bits-to_bits binary64 a f) ∙ ap (of_bits binary64) (eqb-true _ _ e) ∙ of_bits-to_bits binary64 b g
