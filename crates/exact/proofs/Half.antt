-- To the nearest whole number is off by a half at most. Assumes nothing.
use mathlib.Core.Path.{◌≡◌, refl, sym, subst}
use mathlib.Core.Logic.{◌⊎◌, inl, inr}
use Prim.Native.Nat.{ℕ, suc, ◌+◌, ◌*◌, ◌/◌, ◌%◌, ◌≤◌, ◌<◌, compare, Ordering}
use native.Mathlib.Nat.{mod-lt, div-add-mod', eq-zero-or-pos, suc-mul, le_antisymm, le_of_suc-le-suc, lt_of_not-le, mul-le-mul_right}
use native.Mathlib.Omega.{arith}
use lib.Ieee.{nearest}
use lib.Ieee.Nearest.{closest}
use Rattle.exact.specs.Near.{Half}
use Rattle.exact.proofs.Order.{Stands, compared}

-- q is the whole part w where the rest r is at most a half of b, or the next number where it is a half at least
abbrev Either : ℕ → ℕ → ℕ → ℕ → Type 0
Either w r b q = ((q ≡ w) × (r * 2 ≤ b)) ⊎ ((q ≡ suc w) × (b ≤ r * 2))

either : (w r b : ℕ) (o : Ordering) → Stands o (r * 2) b → Either w r b (nearest w o)
either w r b Ordering.lt h = inl (refl, omega arith)
either w r b Ordering.eq h = elim (eq-zero-or-pos (w % 2)) [ inl z ↦ inl (omega arith) | inr z ↦ inr (omega arith) ]
either w r b Ordering.gt h = inr (refl, omega arith)

pub closest-half : (a b : ℕ) → 0 < b → Half (closest a b) a b
closest-half a b B =
    by (closest a b) (either (a / b) (a % b) b (compare (a % b * 2) b) (compared (a % b * 2) b)) (div-add-mod' a b) (mod-lt a B)
  where
    by : (q : ℕ) → Either (a / b) (a % b) b q → a / b * b + a % b ≡ a → a % b < b → Half q a b
    by q (inl h) e l = subst (λ (x : ℕ). Half x a b) (sym h.0) (omega (arith, h.1))
    by q (inr h) e l = subst (λ (x : ℕ). Half x a b) (sym h.0) (omega (arith, h.1, suc-mul (a / b) b))

-- at a whole number it is that number
pub closest-whole : (q b : ℕ) → 0 < b → closest (q * b) b ≡ q
closest-whole q b B = by (closest (q * b) b) (closest-half (q * b) b B)
  where
    below : (x y : ℕ) → x * b * 2 ≤ y * b * 2 + b → x ≤ y
    below x y h = le_of_suc-le-suc (lt_of_not-le (λ (g : suc y ≤ x). clash (mul-le-mul_right b g) (suc-mul y b)))
      where
        clash : suc y * b ≤ x * b → suc y * b ≡ y * b + b → ⊥
        clash k e = omega arith

    by : (x : ℕ) → Half x (q * b) b → x ≡ q
    by x h = le_antisymm (below x q h.over) (below q x h.under)
