-- Only the least i32 has no opposite, and there both powers are infinite.
use Rattle.std.proofs.Common.{◌≡◌, refl, sym, ap, ◌∙◌, false, ℕ, zero, suc, ◌≤◌, ◌<◌, min, arith, ℤ, pos, negsuc, neg_ℤ, w32}
use Rattle.std.specs.Int.{saturate_signed}
use mathlib.Core.Logic.{◌⊎◌, inl, inr}
use mir.Val.{SFits}
use mir.ValLaws.{to_z-of_z}
use native.Mathlib.Nat.{eq-or-lt_of_le}
use lib.Dec.{lt→ltb}
use lib.Ieee.{inf}
use Rattle.ieee.specs.Exp2.{exp2_of}
use Rattle.ieee.proofs.Powers.{overflow}
use Rattle.quant.proofs.aligned.exp2_of_minus.Goals as goal

nearest : (n : ℕ) → n ≤ 2147483647 → min n 2147483647 ≡ n
nearest n h = omega arith

far : (n : ℕ) → 1023 < n → exp2_of (pos n) ≡ inf false
far n h = overflow (pos n) (record { lt = lt→ltb 1023 n h })

least : (n : ℕ) → (n ≡ 2147483647) ⊎ (n < 2147483647) → exp2_of (pos (min (suc n) 2147483647)) ≡ exp2_of (pos (suc n))
least n (inl e) = far (min (suc n) 2147483647) (omega arith) ∙ sym (far (suc n) (omega arith))
least n (inr h) = ap (λ (k : ℕ). exp2_of (pos k)) (nearest (suc n) (omega arith))

saturated : (z : ℤ) → SFits w32 z → exp2_of (saturate_signed w32 (neg_ℤ z)) ≡ exp2_of (neg_ℤ z)
saturated (pos zero) f = refl
saturated (pos (suc n)) f = ap (λ (k : ℕ). exp2_of (negsuc k)) (nearest n (let h : suc n < 2147483648 = f.sfits in omega arith))
saturated (negsuc n) f = least n (eq-or-lt_of_le (let h : n < 2147483648 = f.sfits in omega arith))

pub returns : goal.returns
returns c =
    c.exp2.ensures
    ∙ ap exp2_of (to_z-of_z w32 c.saturating_neg.result (record { sfits = c.saturating_neg.type_inv }) ∙ c.saturating_neg.ensures)
    ∙ ap (λ (z : ℤ). exp2_of (saturate_signed w32 (neg_ℤ z))) (to_z-of_z w32 c.args.level c.ranges.level)
    ∙ saturated c.args.level c.ranges.level
