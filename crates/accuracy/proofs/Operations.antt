-- What one rounding costs a sum and a product of doubles that are far from overflow: a part in 2 ^ 53 of the exact result, and for a product half a unit
-- more. A sum is in whole numbers of 2 ^ -1074, a product in those of 2 ^ -2148. Assumes nothing.
use mathlib.Core.Path.{◌≡◌, refl, sym, subst}
use mathlib.Core.Bool.{Bool, true, false, not, beq}
use Prim.Native.Nat.{ℕ, ◌+◌, ◌-◌, ◌*◌, ◌^◌, ◌≤◌, ◌<◌, max, compare, Ordering}
use native.Mathlib.Nat.{le_refl, le_trans, le_of_eq, mul_assoc, mul-pos, mul-le-mul_right, le_of_mul-le-mul_right}
use native.Mathlib.Omega.{arith}
use lib.Dec.{T, lit≤}
use lib.Pow.{pow_pos}
use lib.Ieee.{Float, binary64, unlike, round, sum, add, sub, mul}
use lib.Ieee.Scale.{grid, finite}
use Rattle.exact.specs.Value.{Units}
use Rattle.exact.specs.Near.{Part}
use Rattle.exact.specs.Signed.{Signed, Same, Apart, signed, times, plus_s}
use Rattle.exact.proofs.Order.{Stands, compared}
use Rattle.exact.proofs.Sum.{sum_like, sum_first, sum-second, sum-none}
use Rattle.exact.proofs.Operation.{mul-rounds, add_rounds, sub-rounds}
use Rattle.exact.proofs.Rounding.{round-within, round-part, round-off}
use Rattle.exact.proofs.Few.{value-finite}

finite-below : (s : Bool) (a c : ℕ) → 0 < c → a * 2 ^ 1074 ≤ 2 ^ 2090 * c → T (finite (round binary64 s a c))
finite-below s a c C h =
    let r = round-off s a c 2036 C h (lit≤ tt) in
    value-finite (round binary64 s a c) s r.0 r.1

-- ---- a sum: r is finite and within e / 2 ^ 53 units of x
pub record Sum (r : Float) (x : Signed) (e : ℕ) : Type 0 where
  pub sign : Bool
  pub size : ℕ
  pub value : Units r sign size
  pub apart : Apart (times (2 ^ 53) (signed sign size)) (times (2 ^ 53) x) e

rounded : (z : Bool) (n e : ℕ) (x : Signed) → n ≤ e → e ≤ 2 ^ 2090 → Same (signed z n) x → Sum (round binary64 z n (2 ^ 1074)) x e
rounded z n e x l h same =
    let r = round-part z n (finite-below z n (2 ^ 1074) (pow_pos 1074) (mul-le-mul_right (2 ^ 1074) (le_trans l h))) in
    record { sign = z; size = grid binary64 n (2 ^ 1074); value = r.0; apart = by z (grid binary64 n (2 ^ 1074)) n r.1 same l }
  where
    by : (z : Bool) (v n : ℕ) → Part v n → Same (signed z n) x → n ≤ e → Apart (times (2 ^ 53) (signed z v)) (times (2 ^ 53) x) e
    by true v n p same l = record { over = omega (arith, p.over, p.under); under = omega (arith, p.over, p.under) }
    by false v n p same l = record { over = omega (arith, p.over, p.under); under = omega (arith, p.over, p.under) }

module _ (a b : ℕ) (h : a + b ≤ 2 ^ 2090) where
  like : (s t : Bool) → beq s t ≡ true → Same (signed s (a + b)) (plus_s (signed s a) (signed t b)) → Sum (sum binary64 s a t b (2 ^ 1074)) (plus_s (signed s a) (signed t b)) (a + b)
  like s t e same =
      subst (λ (r : Float). Sum r (plus_s (signed s a) (signed t b)) (a + b)) (sym (sum_like binary64 s t a b (2 ^ 1074) e))
      (rounded s (a + b) (a + b) (plus_s (signed s a) (signed t b)) (le_refl (a + b)) h same)

  differ : (s t : Bool) (x : Signed) → beq s t ≡ false → (a < b → Same (signed t (b - a)) x) → (b < a → Same (signed s (a - b)) x) → (a ≡ b → Same (signed false 0) x)
      → Sum (sum binary64 s a t b (2 ^ 1074)) x (a + b)
  differ s t x e less more none = by (compare a b) (compared a b)
    where
      by : (o : Ordering) → Stands o a b → Sum (sum binary64 s a t b (2 ^ 1074)) x (a + b)
      by Ordering.lt l = subst (λ (r : Float). Sum r x (a + b)) (sym (sum-second binary64 s t a b (2 ^ 1074) e l)) (rounded t (b - a) (a + b) x (omega arith) h (less l))
      by Ordering.eq l = subst (λ (r : Float). Sum r x (a + b)) (sym (sum-none binary64 s t a b (2 ^ 1074) e l)) (rounded false 0 (a + b) x (omega arith) h (none l))
      by Ordering.gt l = subst (λ (r : Float). Sum r x (a + b)) (sym (sum_first binary64 s t a b (2 ^ 1074) e l)) (rounded s (a - b) (a + b) x (omega arith) h (more l))

  sum_near : (s t : Bool) → Sum (sum binary64 s a t b (2 ^ 1074)) (plus_s (signed s a) (signed t b)) (a + b)
  sum_near true true = like true true refl (omega arith)
  sum_near false false = like false false refl (omega arith)
  sum_near true false = differ true false (plus_s (signed true a) (signed false b)) refl (λ l. omega arith) (λ l. omega arith) (λ l. omega arith)
  sum_near false true = differ false true (plus_s (signed false a) (signed true b)) refl (λ l. omega arith) (λ l. omega arith) (λ l. omega arith)

  module _ (x y : Float) (s t : Bool) (v : Units x s a) (w : Units y t b) where
    pub add-near : Sum (add binary64 x y) (plus_s (signed s a) (signed t b)) (a + b)
    add-near = subst (λ (r : Float). Sum r (plus_s (signed s a) (signed t b)) (a + b)) (sym (add_rounds binary64 x y s t a b (2 ^ 1074) (pow_pos 1074) v w)) (sum_near s t)

    pub sub-near : Sum (sub binary64 x y) (plus_s (signed s a) (signed (not t) b)) (a + b)
    sub-near = subst (λ (r : Float). Sum r (plus_s (signed s a) (signed (not t) b)) (a + b)) (sym (sub-rounds binary64 x y s t a b (2 ^ 1074) (pow_pos 1074) v w)) (sum_near s (not t))

-- ---- a product: r has the sign s, and its size in units is near n / 2 ^ 1074
pub record Times (r : Float) (s : Bool) (n : ℕ) : Type 0 where
  pub size : ℕ
  pub value : Units r s size
  pub over : size * 2 ^ 1074 * 2 ^ 53 ≤ n * 2 ^ 53 + (n + 2 ^ 1074 * 2 ^ 52)
  pub under : n * 2 ^ 53 ≤ size * 2 ^ 1074 * 2 ^ 53 + (n + 2 ^ 1074 * 2 ^ 52)

pub mul-near : (x y : Float) (s t : Bool) (a b : ℕ) → Units x s a → Units y t b → a * b ≤ 2 ^ 2080 * 2 ^ 1074 → Times (mul binary64 x y) (unlike s t) (a * b)
mul-near x y s t a b v w h =
    let d = 2 ^ 1074 in
    let p = pow_pos 1074 in
    let more : a * b ≤ 2 ^ 2090 * 2 ^ 1074 = le_trans h (lit≤ tt) in
    let few : a * b * d ≤ 2 ^ 2090 * (d * d) = le_trans (mul-le-mul_right d more) (le_of_eq (mul_assoc (2 ^ 2090) d d)) in
    let r = round-within (unlike s t) (a * b) (d * d) (mul-pos p p) (finite-below (unlike s t) (a * b) (d * d) (mul-pos p p) few) in
    let n = grid binary64 (a * b) (d * d) in
    record {
      size = n;
      value = subst (λ (z : Float). Units z (unlike s t) n) (sym (mul-rounds binary64 x y s t a d b d p p v w)) r.0;
      over = le_of_mul-le-mul_right {k = d} (up n (a * b) d r.1.over) p;
      under = le_of_mul-le-mul_right {k = d} (down n (a * b) d r.1.under) p;
    }
  where
    most : (x y : ℕ) → max x y ≤ x + y
    most x y = omega arith

    up : (v n d : ℕ) → v * (d * d) * 2 ^ 53 ≤ n * d * 2 ^ 53 + max (n * d) (d * d * 2 ^ 52) → v * d * 2 ^ 53 * d ≤ (n * 2 ^ 53 + (n + d * 2 ^ 52)) * d
    up v n d h = let l = most (n * d) (d * d * 2 ^ 52) in omega arith

    down : (v n d : ℕ) → n * d * 2 ^ 53 ≤ v * (d * d) * 2 ^ 53 + max (n * d) (d * d * 2 ^ 52) → n * 2 ^ 53 * d ≤ (v * d * 2 ^ 53 + (n + d * 2 ^ 52)) * d
    down v n d h = let l = most (n * d) (d * d * 2 ^ 52) in omega arith
