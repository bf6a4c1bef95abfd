-- A product and a difference of doubles below a known power of two are finite, and off by half of that power's unit in the last place at
-- most: 2 ^ i units for a size of up to 2 ^ (54 + i). Assumes nothing.
use mathlib.Core.Path.{◌≡◌, sym, ap, ◌∙◌, subst}
use mathlib.Core.Bool.{Bool, true, false, not, cond}
use Prim.Native.Nat.{ℕ, ◌+◌, ◌-◌, ◌*◌, ◌^◌, ◌≤◌, ◌<◌}
use native.Mathlib.Nat.{le_trans, le_of_eq, mul_assoc, mul-pos, mul-le-mul_right, le_of_mul-le-mul_right}
use native.Mathlib.Omega.{arith}
use lib.Dec.{T, ltb, ltb→lt, nltb→le}
use lib.Pow.{pow_pos}
use lib.Ieee.{Float, binary64, unlike, round, sum, sub, mul}
use Rattle.exact.specs.Value.{Units}
use Rattle.exact.specs.Near.{Off}
use Rattle.exact.specs.Signed.{Apart, signed, less_s}
use Rattle.exact.proofs.Operation.{mul-rounds, sub-rounds}
use Rattle.exact.proofs.Rounding.{round-off}

-- ---- f has the sign s, and its size is within 2 ^ i of n / c
pub record Sized (f : Float) (s : Bool) (n c i : ℕ) : Type 0 where
  pub size : ℕ
  pub value : Units f s size
  pub off : Off size n c (2 ^ i)

-- a common factor goes
thin : (v n c q e : ℕ) → 0 < q → Off v (n * q) (c * q) e → Off v n c e
thin v n c q e p h =
    record {
      over = le_of_mul-le-mul_right {k = q} (one h.over) p;
      under = le_of_mul-le-mul_right {k = q} (two h.under) p;
    }
  where
    one : v * (c * q) ≤ n * q + c * q * e → v * c * q ≤ (n + c * e) * q
    one h = omega arith

    two : n * q ≤ v * (c * q) + c * q * e → n * q ≤ (v * c + c * e) * q
    two h = omega arith

pub mul-off : (x y : Float) (s t : Bool) (a b i : ℕ) → Units x s a → Units y t b → a * b ≤ 2 ^ (54 + i) * 2 ^ 1074
    → 2 ^ (54 + i) + 2 ^ (1 + i) ≤ 2 ^ 2098 → Sized (mul binary64 x y) (unlike s t) (a * b) (2 ^ 1074) i
mul-off x y s t a b i v w h o =
    let q = 2 ^ 1074 in
    let p = pow_pos 1074 in
    let l : a * b * q ≤ 2 ^ (54 + i) * (q * q) = le_trans (mul-le-mul_right q h) (le_of_eq (mul_assoc (2 ^ (54 + i)) q q)) in
    let r = round-off (unlike s t) (a * b) (q * q) i (mul-pos p p) l o in
    record {
      size = r.0;
      value = subst (λ (z : Float). Units z (unlike s t) r.0) (sym (mul-rounds binary64 x y s t a q b q p p v w)) r.1;
      off = thin r.0 (a * b) q q (2 ^ i) p r.2;
    }

-- ---- the difference of two that are not negative: it has a minus sign where the first is the smaller
gap : ℕ → ℕ → ℕ
gap a b = a - b + (b - a)

gap-first : (a b : ℕ) → b ≤ a → a - b ≡ gap a b
unfolding gap
gap-first a b h = omega arith

gap-second : (a b : ℕ) → a < b → b - a ≡ gap a b
unfolding gap
gap-second a b h = omega arith

gap-le : (a b n : ℕ) → a ≤ b + n → b ≤ a + n → gap a b ≤ n
unfolding gap
gap-le a b n h k = omega arith

sub_is : (x y : Float) (a b : ℕ) → Units x false a → Units y false b → sub binary64 x y ≡ round binary64 (ltb a b) (gap a b) (2 ^ 1074)
unfolding sum
sub_is x y a b v w =
    sub-rounds binary64 x y false false a b (2 ^ 1074) (pow_pos 1074) v w
    ∙ by (ltb a b) (ltb→lt a b) (nltb→le a b)
  where
    by : (z : Bool) → (T z → a < b) → (T (not z) → b ≤ a)
        → cond z (round binary64 true (b - a) (2 ^ 1074)) (round binary64 false (a - b) (2 ^ 1074)) ≡ round binary64 z (gap a b) (2 ^ 1074)
    by true h _ = ap (λ (n : ℕ). round binary64 true n (2 ^ 1074)) (gap-second a b (h tt))
    by false _ h = ap (λ (n : ℕ). round binary64 false n (2 ^ 1074)) (gap-first a b (h tt))

pub record Less (f : Float) (a b i : ℕ) : Type 0 where
  pub size : ℕ
  pub value : Units f (ltb a b) size
  pub apart : Apart (signed (ltb a b) size) (less_s (signed false a) (signed false b)) (2 ^ i)

pub sub-apart : (x y : Float) (a b i : ℕ) → Units x false a → Units y false b → a ≤ b + 2 ^ (54 + i) → b ≤ a + 2 ^ (54 + i)
    → 2 ^ (54 + i) + 2 ^ (1 + i) ≤ 2 ^ 2098 → Less (sub binary64 x y) a b i
sub-apart x y a b i v w h k o =
    let q = 2 ^ 1074 in
    let n = gap a b in
    let r = round-off (ltb a b) n q i (pow_pos 1074) (mul-le-mul_right q (gap-le a b (2 ^ (54 + i)) h k)) o in
    record {
      size = r.0;
      value = subst (λ (z : Float). Units z (ltb a b) r.0) (sym (sub_is x y a b v w)) r.1;
      apart =
          either r.0 (2 ^ i) (ltb a b) (ltb→lt a b) (nltb→le a b)
          (le_of_mul-le-mul_right (over r.0 n q (2 ^ i) r.2.over) (pow_pos 1074))
          (le_of_mul-le-mul_right (under r.0 n q (2 ^ i) r.2.under) (pow_pos 1074));
    }
  where
    over : (v n q e : ℕ) → v * q ≤ n * q + q * e → v * q ≤ (n + e) * q
    over v n q e h = omega arith

    under : (v n q e : ℕ) → n * q ≤ v * q + q * e → n * q ≤ (v + e) * q
    under v n q e h = omega arith

    either : (v e : ℕ) (z : Bool) → (T z → a < b) → (T (not z) → b ≤ a) → v ≤ gap a b + e → gap a b ≤ v + e
        → Apart (signed z v) (less_s (signed false a) (signed false b)) e
    either v e true h _ o u =
        let l = h tt in
        let g = gap-second a b l in
        record { over = omega arith; under = omega arith }
    either v e false _ h o u =
        let l = h tt in
        let g = gap-first a b l in
        record { over = omega arith; under = omega arith }
