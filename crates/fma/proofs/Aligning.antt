-- ±x * 2 ^ e ± y * 2 ^ (e - d), from x and from the j that stands for y / 2 ^ d: sums, differences and orders are those of x and j. Assumes nothing.
use Rattle.std.proofs.Common.{◌≡◌, ℕ, suc, ◌+◌, ◌-◌, ◌*◌, ◌/◌, ◌%◌, ◌^◌, ◌<◌, ◌≤◌, sym, ap, ◌∙◌, subst, le_of_eq, lt_of_lt_of_le, le_of_suc-le-suc, lt_of_le_of_lt, add-zero, mul_assoc, add-mul, add_comm, mul-lt-mul_of_pos_right, lt_of_not-le, div-add-mod', sub-add_cancel, arith, lit<, lit≤, pow_pos, pow_mono, pow-add}
use native.Mathlib.Nat.{mul-mod_left}
use Rattle.exact.proofs.Naturals.{sub-mul}
use Rattle.fma.specs.Sticky.{Sticky, Whole}
use Rattle.fma.proofs.StickyBit.{sticky-scale, sticky-add, sticky-sub, sticky-from, sticky-above, sticky-below, sticky-even, sticky-clean, lt-of-sticky}

module _ (x y j e d : ℕ) (even : x % 2 ≡ 0) (v : Sticky j d y) (within : d ≤ e) (x-low : 2 ^ 124 ≤ x) (y-high : y < 2 ^ 127) (clear : y % 2 ^ 20 ≡ 0) where
  rest : d + (e - d) ≡ e
  rest = add_comm d (e - d) ∙ sub-add_cancel within

  scaled : x * 2 ^ d * 2 ^ (e - d) ≡ x * 2 ^ e
  scaled = mul_assoc x (2 ^ d) (2 ^ (e - d)) ∙ ap (λ (z : ℕ). x * z) (sym (pow-add 2 d (e - d)) ∙ ap (λ (z : ℕ). 2 ^ z) rest)

  lifted : (w s t : ℕ) → Sticky w d s → s * 2 ^ (e - d) ≡ t → Sticky w e t
  lifted w s t h q = subst (λ (z : ℕ). Sticky w e z) q (subst (λ (z : ℕ). Sticky w z (s * 2 ^ (e - d))) rest (sticky-scale w d (e - d) s h))

  -- ---- the orders
  pub order-up : x < j → x * 2 ^ e < y * 2 ^ (e - d)
  order-up h = lt_of_le_of_lt (le_of_eq (sym scaled)) (mul-lt-mul_of_pos_right (sticky-above x j y d v h) (pow_pos (e - d)))

  pub order-down : j < x → y * 2 ^ (e - d) < x * 2 ^ e
  order-down h = lt_of_lt_of_le (mul-lt-mul_of_pos_right (sticky-below x j y d v h) (pow_pos (e - d))) (le_of_eq scaled)

  pub order_same : x ≡ j → x * 2 ^ e ≡ y * 2 ^ (e - d)
  order_same h =
      sym scaled
      ∙ ap (λ (z : ℕ). z * 2 ^ (e - d)) (ap (λ (z : ℕ). z * 2 ^ d) h ∙ sticky-even j y d (ap (λ (z : ℕ). z % 2) (sym h) ∙ even) v)

  -- ---- where the difference fits one word, y was shifted by twenty bits at most, and nothing was lost
  far : 20 < d → j < 2 ^ 107
  far h = lt-of-sticky j y d 107 (lit< tt) (lt_of_lt_of_le y-high (pow_mono (more d h))) v
    where
      more : (d : ℕ) → 20 < d → 127 ≤ 107 + d
      more d h = omega arith

  near : (20 < d → ⊥) → d ≤ 20
  near f = le_of_suc-le-suc (lt_of_not-le (λ (g : suc 20 ≤ d). f g))

  clean : d ≤ 20 → j * 2 ^ e ≡ y * 2 ^ (e - d)
  clean h =
      ap (λ (z : ℕ). j * z) (ap (λ (z : ℕ). 2 ^ z) (sym rest) ∙ pow-add 2 d (e - d))
      ∙ sym (mul_assoc j (2 ^ d) (2 ^ (e - d)))
      ∙ ap (λ (z : ℕ). z * 2 ^ (e - d)) (sticky-clean j d y v (ap (λ (z : ℕ). z % 2 ^ d) whole ∙ mul-mod_left (y / 2 ^ 20 * 2 ^ (20 - d)) (2 ^ d)))
    where
      whole : y ≡ y / 2 ^ 20 * 2 ^ (20 - d) * 2 ^ d
      whole =
          sym (div-add-mod' y (2 ^ 20))
          ∙ ap (λ (z : ℕ). y / 2 ^ 20 * 2 ^ 20 + z) clear
          ∙ add-zero (y / 2 ^ 20 * 2 ^ 20)
          ∙ ap (λ (z : ℕ). y / 2 ^ 20 * 2 ^ z) (sym (sub-add_cancel {n = 20} {m = d} h))
          ∙ ap (λ (z : ℕ). y / 2 ^ 20 * z) (pow-add 2 (20 - d) d)
          ∙ sym (mul_assoc (y / 2 ^ 20) (2 ^ (20 - d)) (2 ^ d))

  -- ---- the sum, and the difference either way
  pub whole_sum : Whole (x + j) e (x * 2 ^ e + y * 2 ^ (e - d))
  whole_sum =
      record {
        sticky = lifted (x + j) (x * 2 ^ d + y) (x * 2 ^ e + y * 2 ^ (e - d)) (sticky-add x j y d even v) (add-mul (x * 2 ^ d) y (2 ^ (e - d)) ∙ ap (λ (z : ℕ). z + y * 2 ^ (e - d)) scaled);
        clean = λ l. absurd (large x j (2 ^ 64) (lt_of_lt_of_le (lit< tt) x-low) l);
      }
    where
      large : (x j p : ℕ) → p < x → x + j < p → ⊥
      large x j p h k = omega arith

  pub whole-down : j < x → Whole (x - j) e (x * 2 ^ e - y * 2 ^ (e - d))
  whole-down h =
      record {
        sticky = lifted (x - j) (x * 2 ^ d - y) (x * 2 ^ e - y * 2 ^ (e - d)) (sticky-sub x j y d even v h) (sub-mul (x * 2 ^ d) y (2 ^ (e - d)) ∙ ap (λ (z : ℕ). z - y * 2 ^ (e - d)) scaled);
        clean = λ l. sub-mul x j (2 ^ e) ∙ ap (λ (z : ℕ). x * 2 ^ e - z) (clean (near (λ g. large x j (2 ^ 124) (2 ^ 107) (2 ^ 64) x-low (far g) (lit≤ tt) l)));
      }
    where
      large : (x j a b c : ℕ) → a ≤ x → j < b → b + c ≤ a → x - j < c → ⊥
      large x j a b c h k l m = omega arith

  pub whole-up : x < j → Whole (j - x) e (y * 2 ^ (e - d) - x * 2 ^ e)
  whole-up h =
      record {
        sticky = lifted (j - x) (y - x * 2 ^ d) (y * 2 ^ (e - d) - x * 2 ^ e) (sticky-from x j y d even v h) (sub-mul y (x * 2 ^ d) (2 ^ (e - d)) ∙ ap (λ (z : ℕ). y * 2 ^ (e - d) - z) scaled);
        clean = λ l. sub-mul j x (2 ^ e) ∙ ap (λ (z : ℕ). z - x * 2 ^ e) (clean (near (λ g. large x j (2 ^ 124) (2 ^ 107) x-low (far g) (lit≤ tt) h)));
      }
    where
      large : (x j a b : ℕ) → a ≤ x → j < b → b ≤ a → x < j → ⊥
      large x j a b h k l m = omega arith
