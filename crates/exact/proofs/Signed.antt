-- Signed whole numbers as pairs: distances add up along a way, and grow with a common factor; and a number but 0 is one pair of a sign and a size. Assumes nothing.
use mathlib.Core.Path.{◌≡◌, refl, ap}
use mathlib.Core.Bool.{Bool, true, false}
use Prim.Native.Nat.{ℕ, ◌+◌, ◌*◌, ◌≤◌, ◌<◌}
use native.Mathlib.Nat.{mul-le-mul_left, le_of_mul-le-mul_left}
use native.Mathlib.Omega.{arith}
use Rattle.exact.specs.Signed.{Signed, Same, Apart, signed, times, plus_s, less_s}

pub apart_none : (x y : Signed) → Same x y → Apart x y 0
apart_none x y e = record { over = omega arith; under = omega arith }

pub apart-turn : (x y : Signed) (e : ℕ) → Apart x y e → Apart y x e
apart-turn x y e h = record { over = h.under; under = h.over }

pub apart_more : (x y : Signed) (e d : ℕ) → e ≤ d → Apart x y e → Apart x y d
apart_more x y e d l h = record { over = omega (arith, h.over); under = omega (arith, h.under) }

pub apart-via : (x y z : Signed) (e d : ℕ) → Apart x y e → Apart y z d → Apart x z (e + d)
apart-via x y z e d h k = record { over = omega (arith, h.over, k.over); under = omega (arith, h.under, k.under) }

pub apart-sum : (x y z w : Signed) (e d : ℕ) → Apart x y e → Apart z w d → Apart (plus_s x z) (plus_s y w) (e + d)
apart-sum x y z w e d h k = record { over = omega (arith, h.over, k.over); under = omega (arith, h.under, k.under) }

pub apart-less : (x y z w : Signed) (e d : ℕ) → Apart x y e → Apart z w d → Apart (less_s x z) (less_s y w) (e + d)
apart-less x y z w e d h k = record { over = omega (arith, h.over, k.under); under = omega (arith, h.under, k.over) }

-- sizes with one sign are as far apart as the sizes
pub apart-signed : (s : Bool) (a b e : ℕ) → a ≤ b + e → b ≤ a + e → Apart (signed s a) (signed s b) e
apart-signed true a b e h k = record { over = omega arith; under = omega arith }
apart-signed false a b e h k = record { over = omega arith; under = omega arith }

-- ---- a common factor
up : (n a b c d e : ℕ) → a + b ≤ c + d + e → n * a + n * b ≤ n * c + n * d + n * e
up n a b c d e h = let k : n * (a + b) ≤ n * (c + d + e) = mul-le-mul_left n h in omega arith

off : (n a b c d e : ℕ) → 0 < n → n * a + n * b ≤ n * c + n * d + n * e → a + b ≤ c + d + e
off n a b c d e N h = le_of_mul-le-mul_left {m = a + b} {n = c + d + e} {k = n} (omega arith) N

pub apart-times : (n : ℕ) (x y : Signed) (e : ℕ) → Apart x y e → Apart (times n x) (times n y) (n * e)
apart-times n x y e h = record { over = up n x.plus y.less y.plus x.less e h.over; under = up n y.plus x.less x.plus y.less e h.under }

pub apart-cancel : (n : ℕ) (x y : Signed) (e : ℕ) → 0 < n → Apart (times n x) (times n y) (n * e) → Apart x y e
apart-cancel n x y e N h = record { over = off n x.plus y.less y.plus x.less e N h.over; under = off n y.plus x.less x.plus y.less e N h.under }

pub same-times : (s : Bool) (n m : ℕ) (k : Signed) → Same (signed s n) k → Same (signed s (n * m)) (times m k)
same-times true n m k e = let f : (n + k.plus) * m ≡ k.less * m = ap (λ (z : ℕ). z * m) (omega arith) in omega arith
same-times false n m k e = let f : (n + k.less) * m ≡ k.plus * m = ap (λ (z : ℕ). z * m) (omega arith) in omega arith

-- neither part is more than the size
pub sizes : (s : Bool) (a : ℕ) → ((signed s a).plus ≤ a) × ((signed s a).less ≤ a)
sizes true a = (omega arith, omega arith)
sizes false a = (omega arith, omega arith)

-- ---- a number that is not zero has one sign and one size
pub alike : (s u : Bool) (a b : ℕ) → 0 < a → Same (signed s a) (signed u b) → (s ≡ u) × (a ≡ b)
alike true true a b h e = (refl, omega arith)
alike false false a b h e = (refl, omega arith)
alike true false a b h e = absurd (none a b h e)
  where
    none : (a b : ℕ) → 0 < a → 0 + 0 ≡ b + a → ⊥
    none a b h e = omega arith
alike false true a b h e = absurd (none a b h e)
  where
    none : (a b : ℕ) → 0 < a → a + b ≡ 0 + 0 → ⊥
    none a b h e = omega arith
