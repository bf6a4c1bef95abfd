-- A number and what stands for it with a sticky last bit round to one double, where at least 56 digits are left: the double keeps 53 of them, so both are
-- rounded at a place two bits or more above the sticky one. Assumes nothing.
use Rattle.std.proofs.Common.{◌≡◌, ℕ, suc, ◌+◌, ◌-◌, ◌*◌, ◌/◌, ◌%◌, ◌^◌, ◌<◌, ◌≤◌, Bool, sym, refl, ap, ◌∙◌, inl, inr, lt_of_lt_of_le, add-zero, mod-lt, mul_assoc, eq-zero-or-pos, mul-pos, lt_of_not-le, div-add-mod', not-le_of_lt, arith, pow_pos, pow_mono}
use lib.Pow.{shl-shr}
use lib.Ieee.{binary64, size, units, round}
use lib.Ieee.Digits.{size-lt, size_reaches}
use lib.Ieee.Fits.{round_is}
use lib.Ieee.Nearest.{closest, closest_same}
use Rattle.fma.specs.Sticky.{Sticky, odd-of}
use Rattle.fma.specs.Pack.{quarter}
use Rattle.fma.proofs.StickyBit.{sticky-cut, sticky-via, sticky-ge, sticky-lt}
use Rattle.fma.proofs.Quarters.{sticky-rounds}
use Rattle.fma.proofs.Packing.{size_is}

-- s smallest doubles, of whose digits k are dropped
round-units : (g : Bool) (s k : ℕ) → size s - 53 ≡ k → round binary64 g s (2 ^ 1074) ≡ units binary64 g (closest s (2 ^ k)) k
round-units g s k h =
    round_is binary64 g s (2 ^ 1074)
    ∙ ap (λ (x : ℕ). units binary64 g (closest (s * 2 ^ 1074) (2 ^ 1074 * 2 ^ x)) x) (ap (λ (x : ℕ). size x - 53) (shl-shr s 1074) ∙ h)
    ∙ ap (λ (x : ℕ). units binary64 g x k)
    (closest_same (s * 2 ^ 1074) (2 ^ 1074 * 2 ^ k) s (2 ^ k) (mul-pos (pow_pos 1074) (pow_pos k)) (pow_pos k) (mul_assoc s (2 ^ 1074) (2 ^ k)))

-- for every w and every shift there is what stands for w
cut : (w d : ℕ) → (v : ℕ) × Sticky v d w
cut w d =
    let q = w / 2 ^ d in
    let r = w % 2 ^ d in
    let e : q * 2 ^ d + r ≡ w = div-add-mod' w (2 ^ d) in
    elim (eq-zero-or-pos r) [
      | inl z ↦ (q, inl (sym (add-zero (q * 2 ^ d)) ∙ ap (λ (x : ℕ). q * 2 ^ d + x) (sym z) ∙ e))
      | inr p ↦ (odd-of q, sticky-cut q r w d e p (mod-lt w (pow_pos d)))
    ]

module _ (g : Bool) (w j : ℕ) (h : 2 ^ 55 ≤ w) where
  digits : 56 ≤ size w
  digits = lt_of_not-le (λ (l : size w ≤ 55). not-le_of_lt (lt_of_lt_of_le (size-lt w) (pow_mono l)) h)

  -- w stands for s, and v for w: with v two bits are left to round at
  rounds : (v s : ℕ) → Sticky v (size w - 55) w → Sticky w j s → round binary64 g s (2 ^ 1074) ≡ units binary64 g (quarter v) (size w - 55 + j + 2)
  rounds v s a b =
      let z = size w in
      let n : size s ≡ z + j =
      size_is s (z - 1 + j) (z + j) (next z j digits) (sticky-ge w s j (z - 1) (some z digits) (size_reaches w (z - 1) (last z digits)) b) (sticky-lt w s j z (size-lt w) b) in
      round-units g s (z - 55 + j + 2) (ap (λ (x : ℕ). x - 53) n ∙ dropped z j digits)
      ∙ ap (λ (x : ℕ). units binary64 g x (z - 55 + j + 2)) (sticky-rounds v (z - 55 + j) s (sticky-via v w s (z - 55) j a b))
    where
      next : (z j : ℕ) → 56 ≤ z → z + j ≡ suc (z - 1 + j)
      next z j h = omega arith

      some : (z : ℕ) → 56 ≤ z → 0 < z - 1
      some z h = omega arith

      last : (z : ℕ) → 56 ≤ z → z - 1 < z
      last z h = omega arith

      dropped : (z j : ℕ) → 56 ≤ z → z + j - 53 ≡ z - 55 + j + 2
      dropped z j h = omega arith

pub sticky-same : (g : Bool) (w j s : ℕ) → 2 ^ 55 ≤ w → Sticky w j s → round binary64 g s (2 ^ 1074) ≡ round binary64 g (w * 2 ^ j) (2 ^ 1074)
sticky-same g w j s h b =
    let c = cut w (size w - 55) in
    rounds g w j h c.0 s c.1 b ∙ sym (rounds g w j h c.0 (w * 2 ^ j) c.1 (inl refl))
