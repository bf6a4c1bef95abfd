-- What three roundings cost one part of a complex product: the exact part is a sum of two products, n and m in size, and the computed one is within
-- 3 (n + m) / 2 ^ 53 of it, and 2 units more. In whole numbers of 2 ^ -2148. Assumes nothing.
use mathlib.Core.Bool.{Bool, true, false}
use Prim.Native.Nat.{ℕ, ◌+◌, ◌*◌, ◌^◌, ◌≤◌, ◌<◌}
use native.Mathlib.Nat.{le_of_mul-le-mul_right}
use native.Mathlib.Omega.{arith}
use lib.Dec.{lit≤}
use lib.Pow.{pow_pos}
use lib.Ieee.{Float}
use Rattle.exact.specs.Value.{Units}
use Rattle.exact.specs.Signed.{Signed, Apart, signed, times, plus_s}
use Rattle.exact.proofs.Signed.{apart-via, apart-times, apart-sum, apart_more}
use Rattle.accuracy.proofs.Operations.{Sum, Times}

-- r is finite, and within e / 2 ^ 53 of x
pub record Part (r : Float) (x : Signed) (e : ℕ) : Type 0 where
  pub sign : Bool
  pub size : ℕ
  pub value : Units r sign size
  pub apart : Apart (times (2 ^ 1074) (times (2 ^ 53) (signed sign size))) (times (2 ^ 53) x) e

-- ---- a size with its sign, in a scale of d 2 ^ 53
scaled : (s : Bool) (v n d e : ℕ) → v * d * 2 ^ 53 ≤ n * 2 ^ 53 + e → n * 2 ^ 53 ≤ v * d * 2 ^ 53 + e → Apart (times d (times (2 ^ 53) (signed s v))) (times (2 ^ 53) (signed s n)) e
scaled true v n d e h k = record { over = omega arith; under = omega arith }
scaled false v n d e h k = record { over = omega arith; under = omega arith }

spread : (d e : ℕ) (x y z w : Signed) → Apart (plus_s (times d (times (2 ^ 53) x)) (times d (times (2 ^ 53) y))) (plus_s (times (2 ^ 53) z) (times (2 ^ 53) w)) e
    → Apart (times d (times (2 ^ 53) (plus_s x y))) (times (2 ^ 53) (plus_s z w)) e
spread d e x y z w h = by x.plus x.less y.plus y.less z.plus z.less w.plus w.less h.over h.under
  where
    by : (a b f g p q u v : ℕ) → d * (2 ^ 53 * a) + d * (2 ^ 53 * f) + (2 ^ 53 * q + 2 ^ 53 * v) ≤ 2 ^ 53 * p + 2 ^ 53 * u + (d * (2 ^ 53 * b) + d * (2 ^ 53 * g)) + e
        → 2 ^ 53 * p + 2 ^ 53 * u + (d * (2 ^ 53 * b) + d * (2 ^ 53 * g)) ≤ d * (2 ^ 53 * a) + d * (2 ^ 53 * f) + (2 ^ 53 * q + 2 ^ 53 * v) + e
        → Apart (times d (times (2 ^ 53) (record { plus = a + f; less = b + g }))) (times (2 ^ 53) (record { plus = p + u; less = q + v })) e
    by a b f g p q u v h k = record { over = omega arith; under = omega arith }

-- ---- both products, then their sum
module _ (s t : Bool) (n m : ℕ) (x y : Float) (h : Times x s n) (k : Times y t m) (n-most : n ≤ 2 ^ 2080 * 2 ^ 1074) (m-most : m ≤ 2 ^ 2080 * 2 ^ 1074) where
  -- a rounded product is not much larger than the product
  small : (v n d : ℕ) → v * d * 2 ^ 53 ≤ n * 2 ^ 53 + (n + d * 2 ^ 52) → v * d ≤ 2 * n + d
  small v n d h = omega arith

  below : (v n d c : ℕ) → 0 < d → n ≤ c * d → v * d ≤ 2 * n + d → v ≤ 2 * c + 1
  below v n d c p l h = le_of_mul-le-mul_right {m = v} {n = 2 * c + 1} {k = d} (omega arith) p

  pub sum-most : h.size + k.size ≤ 2 ^ 2090
  sum-most =
      both h.size k.size (2 * 2 ^ 2080 + 1) (2 ^ 2090)
      (below h.size n (2 ^ 1074) (2 ^ 2080) (pow_pos 1074) n-most (small h.size n (2 ^ 1074) h.over))
      (below k.size m (2 ^ 1074) (2 ^ 2080) (pow_pos 1074) m-most (small k.size m (2 ^ 1074) k.over))
      (lit≤ tt)
    where
      both : (v w c e : ℕ) → v ≤ c → w ≤ c → c + c ≤ e → v + w ≤ e
      both v w c e a b l = omega arith

  cost : (d v w : ℕ) → v * d ≤ 2 * n + d → w * d ≤ 2 * m + d → d * (v + w) + (n + d * 2 ^ 52 + (m + d * 2 ^ 52)) ≤ 3 * (n + m) + d * 2 ^ 54
  cost d v w a b = omega arith

  -- u: the second product's sign in the sum, which a difference turns
  pub joined : (r : Float) (u : Bool) → Sum r (plus_s (signed s h.size) (signed u k.size)) (h.size + k.size) → Part r (plus_s (signed s n) (signed u m)) (3 * (n + m) + 2 ^ 1074 * 2 ^ 54)
  joined r u j =
      let d = 2 ^ 1074 in
      let v = signed s h.size in
      let w = signed u k.size in
      let x = plus_s (signed s n) (signed u m) in
      let e = n + d * 2 ^ 52 in
      let f = m + d * 2 ^ 52 in
      let z = times d (times (2 ^ 53) (signed j.sign j.size)) in
      let both = times d (times (2 ^ 53) (plus_s v w)) in
      let last : Apart z both (d * (h.size + k.size)) = apart-times d (times (2 ^ 53) (signed j.sign j.size)) (times (2 ^ 53) (plus_s v w)) (h.size + k.size) j.apart in
      let first : Apart both (times (2 ^ 53) x) (e + f) =
      spread d (e + f) v w (signed s n) (signed u m)
      (apart-sum (times d (times (2 ^ 53) v)) (times (2 ^ 53) (signed s n)) (times d (times (2 ^ 53) w)) (times (2 ^ 53) (signed u m)) e f
      (scaled s h.size n d e h.over h.under) (scaled u k.size m d f k.over k.under)) in
      record {
        sign = j.sign;
        size = j.size;
        value = j.value;
        apart =
            apart_more z (times (2 ^ 53) x) (d * (h.size + k.size) + (e + f)) (3 * (n + m) + d * 2 ^ 54)
            (cost d h.size k.size (small h.size n d h.over) (small k.size m d k.over))
            (apart-via z both (times (2 ^ 53) x) (d * (h.size + k.size)) (e + f) last first);
      }
