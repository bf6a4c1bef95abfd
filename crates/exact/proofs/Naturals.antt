-- Laws of naturals that the library lacks: which of two is below the other, that there is one first, a difference times a number, and orders of equal
-- fractions. Assumes nothing.
use mathlib.Core.Path.{◌≡◌, refl, sym, ap, ◌∙◌, subst}
use mathlib.Core.Bool.{Bool, true, false}
use mathlib.Core.Logic.{◌⊎◌, inl, inr}
use Prim.Native.Nat.{ℕ, ◌-◌, ◌*◌, ◌<◌, ◌≤◌}
use native.Mathlib.Omega.{arith}
use native.Mathlib.Nat.{lt_of_mul-lt-mul_right, mul_comm, mul-sub, mul-lt-mul_of_pos_right}
use borrow.Author.Tests.{ltb-true, ltb-false}
use lib.Dec.{ltb}
use Rattle.exact.proofs.Order.{ltb-same}

pub below_or : (a b : ℕ) → (a < b) ⊎ (b ≤ a)
below_or a b = by (ltb a b) refl
  where
    by : (t : Bool) → ltb a b ≡ t → (a < b) ⊎ (b ≤ a)
    by true e = inl (ltb-true a b e)
    by false e = inr (ltb-false a b e)

-- the first of which something holds is one
pub first-once : (P : ℕ → Type 0) (a b : ℕ) → P a → ((j : ℕ) → j < a → P j → ⊥) → P b → ((j : ℕ) → j < b → P j → ⊥) → a ≡ b
first-once P a b here before-a there before-b = go (below_or a b) (below_or b a)
  where
    go : (a < b) ⊎ (b ≤ a) → (b < a) ⊎ (a ≤ b) → a ≡ b
    go (inl less) _ = absurd (before-b a less here)
    go (inr low) (inl less) = absurd (before-a b less there)
    go (inr low) (inr high) = omega arith

pub sub-mul : (x y u : ℕ) → (x - y) * u ≡ x * u - y * u
sub-mul x y u = mul_comm (x - y) u ∙ mul-sub u x y ∙ ap (λ (z : ℕ). z - u * y) (mul_comm u x) ∙ ap (λ (z : ℕ). x * u - z) (mul_comm u y)

-- ---- x / c and a / u are one fraction, and so are y / c and b / u
cross-lt : (x y c a b u : ℕ) → 0 < u → x * u ≡ a * c → y * u ≡ b * c → x < y → a < b
cross-lt x y c a b u U p q h =
    lt_of_mul-lt-mul_right c (subst (λ (z : ℕ). z < b * c) p (subst (λ (z : ℕ). x * u < z) q (mul-lt-mul_of_pos_right h U)))

pub ltb-cross : (x y c a b u : ℕ) → 0 < c → 0 < u → x * u ≡ a * c → y * u ≡ b * c → ltb x y ≡ ltb a b
ltb-cross x y c a b u C U p q = ltb-same x y a b (cross-lt x y c a b u U p q) (cross-lt a b u x y c C (sym p) (sym q))

pub cross-sub : (x y c a b u : ℕ) → x * u ≡ a * c → y * u ≡ b * c → (x - y) * u ≡ (a - b) * c
cross-sub x y c a b u p q = sub-mul x y u ∙ ap (λ (z : ℕ). z - y * u) p ∙ ap (λ (z : ℕ). a * c - z) q ∙ sym (sub-mul a b c)
