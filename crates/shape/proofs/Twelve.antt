-- 12 is given exactly where t1 is not below 0 and the envelope has more points than there is room for, since parts out of order cannot be: a plateau
-- of either zero has no parts to put in order. Assumes nothing.
use Rattle.std.specs.Prelude.{Result, Ok, Err}
use Rattle.quant.specs.declared.refusal.Refusal.{Refusal}
use Rattle.std.proofs.Common.{◌≡◌, ℕ, ◌+◌, ◌^◌, ◌<◌, Bool, true, false, cond, T, ltb, List, sym, refl, ◌∙◌, subst, true≢false, arith, pow_pos, ltb-false, ltb-true}
use lib.Ieee.{Float, binary64, mul, lt, eq, fits}
use lib.Ieee.Fits.{mul-fits}
use lib.Ieee.Scale.{finite}
use Rattle.exact.specs.Doubles.{nought}
use Rattle.exact.specs.Value.{Units, sign_of, units_of}
use Rattle.exact.proofs.Compare.{lt-is, above, some}
use Rattle.exact.proofs.Value.{own}
use Rattle.quant.specs.declared.refusal.Refusal.TheVariants.{ShapeTooShort, EndPastRow, NotFinite}
use Rattle.pulse.specs.declared.envelope.Shape.{Shape}
use Rattle.shape.specs.declared.parts.Parts.{Parts}
use Rattle.shape.specs.Parts.{index_at, t1, t2, t3, unbroken, broken, in_order, parted_of}
use Rattle.shape.specs.Envelope.{fine_points, enveloped_of}
use Rattle.shape.proofs.Rising.{last, zero-size, in_order_lem}

-- a double that is neither below 0 nor 0
above_zero : (x : Float) → T (fits binary64 x) → T (finite x) → lt x nought ≡ false → eq x nought ≡ false → Units x false (units_of x)
above_zero x f t low apart = by (sign_of x) (own x f t)
  where
    by : (s : Bool) → Units x s (units_of x) → Units x false (units_of x)
    by false u = u
    by true u =
        let none = ltb-false 0 (units_of x + 0) (sym (lt-is x nought true false (units_of x) 0 (2 ^ 1074) (pow_pos 1074) u zero-size) ∙ low) in
        let more = some x f t apart in
        absurd (omega (arith, none, more))

-- an envelope that is refused by 12 has parts that are
parts-past : (shape : Shape) (numbers : List Float) (q : Result Parts Refusal) → enveloped_of shape numbers q ≡ Err EndPastRow → q ≡ Err EndPastRow
parts-past shape numbers (Err r) e = cc
parts-past shape numbers (Ok p) e = by (fine_points shape numbers p) e
  where
    by : (b : Bool) → cond b (Ok p.length) (Err NotFinite) ≡ Err EndPastRow → Ok p ≡ Err EndPastRow
    by true f = let z : ◌≡◌ {A = ℕ} 0 1 = cc in absurd (omega arith)
    by false f = let z : ◌≡◌ {A = ℕ} 0 1 = cc in absurd (omega arith)

-- the numbers of a pulse with a shape, all of them doubles: a width above 0, a plateau not below 0, a rate above 0 and a finite offset in time
pub record Measurable (w p o rate dt : Float) : Type 0 where
  pub width_fits : T (fits binary64 w)
  pub width-finite : T (finite w)
  pub width_low : lt w nought ≡ false
  pub width_some : eq w nought ≡ false
  pub plateau-fits : T (fits binary64 p)
  pub plateau-finite : T (finite p)
  pub plateau-low : lt p nought ≡ false
  pub rate-fits : T (fits binary64 rate)
  pub rate-finite : T (finite rate)
  pub rate-above : lt nought rate ≡ true
  pub offset-finite : T (finite (mul binary64 o dt))

-- what 12 says of them
pub record PastRoom (w p o rate dt : Float) (room : ℕ) : Type 0 where
  pub reaches : lt (t1 w p o rate dt) nought ≡ false
  pub past : room < index_at (t3 w p o rate dt) rate

module _ (w p o rate dt : Float) (m : Measurable w p o rate dt) where
  abbrev n : ℕ
  n = index_at (t3 w p o rate dt) rate

  -- with a plateau
  parts-ordered : eq p nought ≡ false → lt (t1 w p o rate dt) nought ≡ false → n < last → in_order (index_at (t1 w p o rate dt) rate) (index_at (t2 w p o rate dt) rate) n ≡ true
  parts-ordered e f within =
      let off = mul binary64 o dt in
      let up = above rate nought 0 m.rate-fits m.rate-finite zero-size m.rate-above in
      in_order_lem w p o rate dt (units_of w) (units_of p) (units_of rate) (units_of off) (sign_of off) m.width_fits
      (above_zero w m.width_fits m.width-finite m.width_low m.width_some)
      (above_zero p m.plateau-fits m.plateau-finite m.plateau-low e)
      (subst (λ (s : Bool). Units rate s (units_of rate)) up.0 (own rate m.rate-fits m.rate-finite))
      up.1
      (own off (mul-fits binary64 o dt) m.offset-finite)
      f within

  parts_twelve : (room : ℕ) → room < last → parted_of w p o rate dt room ≡ Err EndPastRow → PastRoom w p o rate dt room
  unfolding parted_of
  parts_twelve room h e = by (unbroken w p o rate dt n) (broken w p o rate dt n) (lt (t1 w p o rate dt) nought) (ltb room n) (eq p nought) (in_order (index_at (t1 w p o rate dt) rate) (index_at (t2 w p o rate dt) rate) n) refl refl refl refl e
    where
      by : (u v : Parts) (a b c d : Bool) → lt (t1 w p o rate dt) nought ≡ a → ltb room n ≡ b → eq p nought ≡ c → in_order (index_at (t1 w p o rate dt) rate) (index_at (t2 w p o rate dt) rate) n ≡ d
          → cond a (Err ShapeTooShort) (cond b (Err EndPastRow) (cond c (Ok u) (cond d (Ok v) (Err EndPastRow)))) ≡ Err EndPastRow
          → PastRoom w p o rate dt room
      by u v true b c d f g j k e = let z : ◌≡◌ {A = ℕ} 0 1 = cc in absurd (omega arith)
      by u v false true c d f g j k e = record { reaches = f; past = ltb-true room n g }
      by u v false false true d f g j k e = let z : ◌≡◌ {A = ℕ} 0 1 = cc in absurd (omega arith)
      by u v false false false true f g j k e = let z : ◌≡◌ {A = ℕ} 0 1 = cc in absurd (omega arith)
      by u v false false false false f g j k e = absurd (true≢false (sym (parts-ordered j f (omega (arith, ltb-false room n g))) ∙ k))

  -- that it is given there is `past_row` of proofs/Laying.antt
  pub twelve : (shape : Shape) (numbers : List Float) (room : ℕ) → room < last → enveloped_of shape numbers (parted_of w p o rate dt room) ≡ Err EndPastRow → PastRoom w p o rate dt room
  twelve shape numbers room h e = parts_twelve room h (parts-past shape numbers (parted_of w p o rate dt room) e)
