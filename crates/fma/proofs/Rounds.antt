-- `round binary64` of s / 2 ^ 2272, from a word with its top bit set that stands for s: which digits it drops, and what is left. Assumes nothing.
use Rattle.std.proofs.Common.{◌≡◌, ℕ, suc, ◌+◌, ◌-◌, ◌*◌, ◌/◌, ◌%◌, ◌^◌, ◌<◌, ◌≤◌, Bool, sym, refl, ap, ◌∙◌, le_trans, le_of_eq, lt_of_lt_of_le, mul_assoc, mul_comm, mul-pos, le-div_iff_mul-le, arith, lit<, pow_pos, pow_mono, pow-add, shr_lt}
use Prim.Native.Nat.{compare}
use lib.Ieee.{binary64, size, units, round}
use lib.Ieee.Digits.{size-le}
use lib.Ieee.Fits.{round_is}
use lib.Ieee.Nearest.{closest, closest_same, div_same, nearest-ge}
use Rattle.fma.specs.Sticky.{Sticky}
use Rattle.fma.proofs.StickyBit.{sticky-ge, sticky-lt}
use Rattle.fma.proofs.Packing.{size_is}

-- ---- s / 2 ^ 2272 is s / 2 ^ 1198 smallest doubles
round-at : (g : Bool) (s k : ℕ) → size (s / 2 ^ 1198) - 53 ≡ k → round binary64 g s (2 ^ 2272) ≡ units binary64 g (closest s (2 ^ (1198 + k))) k
round-at g s k h =
    round_is binary64 g s (2 ^ 2272)
    ∙ ap (λ (x : ℕ). units binary64 g (closest (s * 2 ^ 1074) (2 ^ 2272 * 2 ^ x)) x) (ap (λ (x : ℕ). size x - 53) whole ∙ h)
    ∙ ap (λ (x : ℕ). units binary64 g x k) near
  where
    whole : s * 2 ^ 1074 / 2 ^ 2272 ≡ s / 2 ^ 1198
    whole = div_same (s * 2 ^ 1074) (2 ^ 2272) s (2 ^ 1198) (pow_pos 2272) (pow_pos 1198) (mul_assoc s (2 ^ 1074) (2 ^ 1198) ∙ ap (λ (x : ℕ). s * x) (sym (pow-add 2 1074 1198)))

    cross : (s p u d k : ℕ) → d ≡ u * p → s * p * (u * k) ≡ s * (d * k)
    cross s p u d k e = mul_assoc s p (u * k) ∙ ap (λ (x : ℕ). s * x) (sym (mul_assoc p u k) ∙ ap (λ (x : ℕ). x * k) (mul_comm p u ∙ sym e))

    near : closest (s * 2 ^ 1074) (2 ^ 2272 * 2 ^ k) ≡ closest s (2 ^ (1198 + k))
    near =
        closest_same (s * 2 ^ 1074) (2 ^ 2272 * 2 ^ k) s (2 ^ (1198 + k)) (mul-pos (pow_pos 2272) (pow_pos k)) (pow_pos (1198 + k))
        (ap (λ (x : ℕ). s * 2 ^ 1074 * x) (pow-add 2 1198 k) ∙ cross s (2 ^ 1074) (2 ^ 1198) (2 ^ 2272) (2 ^ k) (pow-add 2 1198 1074))

-- ---- n of 64 bits stands for s / 2 ^ e
module _ (g : Bool) (n s e : ℕ) (top : 2 ^ 63 ≤ n) (word : n < 2 ^ 64) (v : Sticky n e s) where
  ge : 2 ^ (63 + e) ≤ s
  ge = sticky-ge n s e 63 (lit< tt) top v

  lt : s < 2 ^ (64 + e)
  lt = sticky-lt n s e 64 word v

  -- below e = 1187 no digit is dropped
  pub round-low : e < 1187 → round binary64 g s (2 ^ 2272) ≡ units binary64 g (closest s (2 ^ 1198)) 0
  round-low h = round-at g s 0 (few (size (s / 2 ^ 1198)) (size-le (s / 2 ^ 1198) 53 (shr_lt 53 1198 (lt_of_lt_of_le lt (pow_mono (sum e h))))))
    where
      few : (z : ℕ) → z ≤ 53 → z - 53 ≡ 0
      few z h = omega arith

      sum : (e : ℕ) → e < 1187 → 64 + e ≤ 53 + 1198
      sum e h = omega arith

  -- from there on e - 1187 are
  pub round-high : 1187 ≤ e → round binary64 g s (2 ^ 2272) ≡ units binary64 g (closest s (2 ^ (1198 + (e - 1187)))) (e - 1187)
  round-high h =
      let z = e + 63 - 1198 in
      round-at g s (e - 1187)
      (ap (λ (x : ℕ). x - 53)
      (size_is (s / 2 ^ 1198) z (suc z) refl ((le-div_iff_mul-le (pow_pos 1198)).1 (le_trans (le_of_eq (sym (pow-add 2 z 1198))) (le_trans (pow_mono (low e h)) ge)))
      (shr_lt (suc z) 1198 (lt_of_lt_of_le lt (pow_mono (high e h)))))
      ∙ off e h)
    where
      low : (e : ℕ) → 1187 ≤ e → e + 63 - 1198 + 1198 ≤ 63 + e
      low e h = omega arith

      high : (e : ℕ) → 1187 ≤ e → 64 + e ≤ suc (e + 63 - 1198) + 1198
      high e h = omega arith

      off : (e : ℕ) → 1187 ≤ e → suc (e + 63 - 1198) - 53 ≡ e - 1187
      off e h = omega arith

-- a whole part is no more than what it rounds to
pub closest-ge : (a b w : ℕ) → 0 < b → w * b ≤ a → w ≤ closest a b
closest-ge a b w B h = le_trans ((le-div_iff_mul-le B).1 h) (nearest-ge (a / b) (compare (a % b * 2) b))
