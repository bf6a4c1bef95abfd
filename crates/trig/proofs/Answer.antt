-- From the chain to the two answers, in signed whole numbers: v = 1 - y p, which is cosine, and r v, which is sine, each within an
-- error of Horner's form of its series; and from there to within 2 ^ -48 of a partial sum. Assumes nothing.
use mathlib.Core.Path.{◌≡◌, refl, sym, ap, subst}
use mathlib.Core.List.{List, ◌∷◌}
use mathlib.Core.Bool.{Bool, true, false}
use Prim.Native.Nat.{ℕ, suc, ◌+◌, ◌*◌, ◌/◌, ◌^◌, ◌≤◌, ◌<◌}
use native.Mathlib.Nat.{le_trans, le_of_eq, le-add_left, zero-lt-suc, mul_assoc, mul_left_comm, mul-add, one-mul}
use native.Mathlib.Nat.{mul-le-mul, mul-le-mul_left, mul-le-mul_right, le_of_mul-le-mul_left, le_of_mul-le-mul_right}
use native.Mathlib.Omega.{arith}
use lib.Dec.{T, ltb, lit≤}
use lib.Pow.{pow_pos}
use lib.Ieee.{Float, binary64, of_bits, unlike, mul}
use Rattle.exact.specs.Doubles.{one}
use Rattle.exact.specs.Value.{Units, units_of}
use Rattle.exact.specs.Near.{Off}
use Rattle.exact.specs.Signed.{Signed, Same, Apart, signed, times, less_s}
use Rattle.exact.proofs.Signed.{apart-via, apart-times, apart-cancel, apart_more}
use Rattle.exact.proofs.Bounded.{mul-off, sub-apart}
use Rattle.trig.specs.Reduce.{PI}
use Rattle.trig.specs.Trig.{horner}
use Rattle.trig.proofs.Series.{ratio, ratios, folded, tail, tail-first}
use Rattle.trig.proofs.Partial.{fact, fact-next, facing}
use Rattle.trig.proofs.Step.{product}
use Rattle.trig.proofs.Chain.{Q, most, half_times, from_y, from_y_enough, from_p, from_p-enough, error, fine, fine-first}
use Rattle.trig.proofs.Chain.{Square, x-falls, rounded-below, times-y, count, chain}

-- ---- y, for a reduced angle r of x units
pi-below : 10000 * units_of PI ≤ 31416 * Q
unfolding of_bits
pi-below = lit≤ tt

angle_below : (x : ℕ) → x ≤ units_of PI → 10000 * x ≤ 31416 * Q
angle_below x h = le_trans (mul-le-mul_left 10000 h) pi-below

square-below : (q x : ℕ) → 10000 * x ≤ 31416 * q → 10000 * (x * x) ≤ 98697 * (q * q)
square-below q x h = last (mul-le-mul h h)
  where
    last : 10000 * x * (10000 * x) ≤ 31416 * q * (31416 * q) → 10000 * (x * x) ≤ 98697 * (q * q)
    last h = omega arith

pub squared : (r : Float) (s : Bool) (x : ℕ) → Units r s x → x ≤ units_of PI → Square x (mul binary64 r r)
squared r s x v h =
    let small : 10000 * (x * x) ≤ 98697 * (Q * Q) = square-below Q x (angle_below x h) in
    let m = mul-off r r s s x x 1024 v v (sixteen Q x small) (lit≤ tt) in
    record {
      size = m.size;
      value = subst (λ (b : Bool). Units (mul binary64 r r) b m.size) (like s) m.value;
      off = m.off;
      x-small = small;
      y-small = below m.size x Q (2 ^ 1024) (pow_pos 1074) (lit≤ tt) small m.off.over;
    }
  where
    like : (s : Bool) → unlike s s ≡ false
    like true = refl
    like false = refl

    sixteen : (q x : ℕ) → 10000 * (x * x) ≤ 98697 * (q * q) → x * x ≤ 16 * q * q
    sixteen q x h = omega arith

    below : (y x q d : ℕ) → 0 < q → 1000000 * d ≤ q → 10000 * (x * x) ≤ 98697 * (q * q) → y * q ≤ x * x + q * d → 100 * y ≤ 987 * q
    below y x q d p e a b = le_of_mul-le-mul_right (last (mul-le-mul_right q e)) p
      where
        last : 1000000 * d * q ≤ q * q → 100 * y * q ≤ 987 * q * q
        last c = omega arith

-- ---- v = 1 - y p
-- v is ± size, at most b, and within e of Q folded / ratios, d terms
pub record Inner (o x d e b : ℕ) (v : Float) : Type 0 where
  pub sign : Bool
  pub size : ℕ
  pub value : Units v sign size
  pub small : size ≤ b
  pub near : Apart (times (ratios Q o d 0) (signed sign size)) (times Q (folded Q o x d 0)) (ratios Q o d 0 * e)

-- the error of y p
unfoldable pub loss : ℕ → Float → List Float → ℕ
unfolding half_times from_y from_p error
loss o c cs = 2 ^ half_times c + from_y c + from_p (error o 1 c cs)

one_value : Units one false Q
unfolding of_bits
one_value = (refl, refl)

-- where t is within e of q z / w, q - t is within e of q n / w, n being w - z
less-near : (q t z w e : ℕ) (n : Signed) → Off t (q * z) w e → n.plus + z ≡ n.less + w
    → Apart (times w (less_s (signed false q) (signed false t))) (times q n) (w * e)
less-near q t z w e n h s =
    let a : q * (n.plus + z) ≡ q * (n.less + w) = ap (λ (m : ℕ). q * m) s in
    record { over = omega (arith, h.under); under = omega (arith, h.over) }

less-size : (z : Bool) (v q t n e : ℕ) → q ≤ t + n → t ≤ q + n → Apart (signed z v) (less_s (signed false q) (signed false t)) e → v ≤ n + e
less-size true v q t n e h k a = omega (arith, a.under)
less-size false v q t n e h k a = omega (arith, a.over)

-- v's rounding is off by 2 ^ j, where y p is at most 1 + 2 ^ (54 + j) units
module _ (o x : ℕ) (y : Float) (S : Square x y) (c : Float) (cs : List Float) (j : ℕ) (first : fact o 0 ≡ 1) (ok : T (fine c cs))
    (q-le : Q ≤ 2 ^ (54 + j)) (t-le : 987 * most c + 100 * 2 ^ half_times c ≤ 100 * (Q + 2 ^ (54 + j)))
    (room : 2 ^ (54 + j) + 2 ^ (1 + j) ≤ 2 ^ 2098) where
  pub inner : (n : ℕ) → Inner o x (suc (count cs n)) (2 ^ j + loss o c cs) (2 ^ (54 + j) + 2 ^ j) (horner y one (c ∷ cs))
  unfolding horner loss ratios ratio
  inner n =
      let d = count cs n in
      let f = horner y c cs in
      let I = chain o x y S 0 c cs n ok in
      let P = times-y x y f c I.size S I.value I.small (fine-first c cs ok) in
      let t = P.size in
      let l = tail Q o x d 1 in
      let w = ratios Q o d 1 in
      let b = (2 * 0 + 1 + o) * (2 * 0 + 2 + o) in
      let a = error o 1 c cs in
      let e = 2 ^ half_times c + from_y c + from_p a in
      let W = Q * Q * b * w in
      let R : Off t (Q * (x * x * l)) W e =
      rw (mul_left_comm (x * x) Q l, fact-next o 0, first, one-mul b, ← mul_assoc (Q * Q) b w)
      at (product Q x S.size I.size l (fact o 1 * w) t (2 ^ 1024) a (most c) (2 ^ half_times c) (from_y c) (from_p a)
      S.off I.near P.off I.small (from_y_enough c) (from_p-enough Q x a S.x-small)) in
      let above : Q ≤ t + 2 ^ (54 + j) = le_trans q-le (le-add_left (2 ^ (54 + j)) t) in
      let below : t ≤ Q + 2 ^ (54 + j) =
      le_of_mul-le-mul_left
      (le_trans (rounded-below t S.size I.size Q (most c) (2 ^ half_times c) (pow_pos 1074) S.y-small I.small P.off.over) t-le)
      (zero-lt-suc 99) in
      let D = sub-apart one (mul binary64 y f) Q t j one_value P.value above below room in
      let v = signed (ltb Q t) D.size in
      let exact = less_s (signed false Q) (signed false t) in
      let N = folded Q o x (suc d) 0 in
      record {
        sign = ltb Q t;
        size = D.size;
        value = D.value;
        small = less-size (ltb Q t) D.size Q t (2 ^ (54 + j)) (2 ^ j) above below D.apart;
        near =
            apart_more (times W v) (times Q N) (W * 2 ^ j + W * e) (W * (2 ^ j + e)) (le_of_eq (sym (mul-add W (2 ^ j) e)))
            (apart-via (times W v) (times W exact) (times Q N) (W * 2 ^ j) (W * e) (apart-times W v exact (2 ^ j) D.apart)
            (less-near Q t (x * x * l) W e N R (tail-first Q o x (x-falls Q x S.x-small) d)));
      }

-- ---- r v: the sizes are x and n, and the product m is within i of x n / q
-- its rounding, with v's sign
times-rounds : (z : Bool) (q w x n m i : ℕ) → Off m (x * n) q i
    → Apart (times q (times w (signed z m))) (times x (times w (signed z n))) (q * (w * i))
times-rounds z q w x n m i h = by z (mul-le-mul_right w h.over) (mul-le-mul_right w h.under)
  where
    by : (z : Bool) → m * q * w ≤ (x * n + q * i) * w → x * n * w ≤ (m * q + q * i) * w
        → Apart (times q (times w (signed z m))) (times x (times w (signed z n))) (q * (w * i))
    by true a b = record { over = omega arith; under = omega arith }
    by false a b = record { over = omega arith; under = omega arith }

-- v is within e of q a / w: so m is within i + h of x a / w
times-near : (z : Bool) (q w x n m i e h : ℕ) (a : Signed) → 0 < q → Off m (x * n) q i
    → Apart (times w (signed z n)) (times q a) (w * e) → x * e ≤ q * h → Apart (times w (signed z m)) (times x a) (w * (i + h))
times-near z q w x n m i e h a p R A H =
    let m' = times w (signed z m) in
    let n' = times w (signed z n) in
    apart-cancel q m' (times x a) (w * (i + h)) p
    (apart_more (times q m') (times q (times x a)) (q * (w * i) + x * (w * e)) (q * (w * (i + h))) (more (mul-le-mul_right w H))
    (apart-via (times q m') (times x n') (times q (times x a)) (q * (w * i)) (x * (w * e)) (times-rounds z q w x n m i R)
    (swaps (times x n') (x * (w * e)) (apart-times x n' (times q a) (w * e) A))))
  where
    more : x * e * w ≤ q * h * w → q * (w * i) + x * (w * e) ≤ q * (w * (i + h))
    more k = omega arith

    swaps : (b : Signed) (d : ℕ) → Apart b (times x (times q a)) d → Apart b (times q (times x a)) d
    swaps b d k = record { over = omega (arith, k.over); under = omega (arith, k.under) }

-- r's sign turns the answer and the sum
times-sign : (s z : Bool) (w m e : ℕ) (a : Signed) → Apart (times w (signed z m)) a e → Apart (times w (signed (unlike s z) m)) (facing s a) e
times-sign true true w m e a h = record { over = omega (arith, h.under); under = omega (arith, h.over) }
times-sign true false w m e a h = record { over = omega (arith, h.under); under = omega (arith, h.over) }
times-sign false true w m e a h = record { over = omega (arith, h.over); under = omega (arith, h.under) }
times-sign false false w m e a h = record { over = omega (arith, h.over); under = omega (arith, h.under) }

-- what an error e of v makes of the product's
unfoldable pub from_v : ℕ → ℕ
from_v e = 31416 * e / 10000 + 1

from_v_enough : (q x e : ℕ) → 10000 * x ≤ 31416 * q → x * e ≤ q * from_v e
unfolding from_v
from_v_enough q x e h =
    let a : 10000 * x * e ≤ 31416 * q * e = mul-le-mul_right e h in
    let b : 31416 * e * q ≤ (31416 * e / 10000 + 1) * 10000 * q = mul-le-mul_right q (omega arith) in
    omega arith

-- the answer is ± size, within e of x folded / ratios with r's sign s, d terms
pub record Outer (s : Bool) (x d e : ℕ) (v : Float) : Type 0 where
  pub sign : Bool
  pub size : ℕ
  pub value : Units v sign size
  pub near : Apart (times (ratios Q 1 d 0) (signed sign size)) (facing s (times x (folded Q 1 x d 0))) (ratios Q 1 d 0 * e)

pub outer : (r v : Float) (s : Bool) (x d e b : ℕ) → Units r s x → x ≤ units_of PI → Inner 1 x d e b v → 10 * b ≤ 11 * Q
    → Outer s x d (2 ^ 1022 + from_v e) (mul binary64 r v)
outer r v s x d e b u h I l =
    let w = ratios Q 1 d 0 in
    let N = folded Q 1 x d 0 in
    let n = I.size in
    let p = angle_below x h in
    let M = mul-off r v s I.sign x n 1022 u I.value (four Q x n p (le_trans (mul-le-mul_left 10 I.small) l)) (lit≤ tt) in
    record {
      sign = unlike s I.sign;
      size = M.size;
      value = M.value;
      near =
          times-sign s I.sign w M.size (w * (2 ^ 1022 + from_v e)) (times x N)
          (times-near I.sign Q w x n M.size (2 ^ 1022) e (from_v e) N (pow_pos 1074) M.off I.near (from_v_enough Q x e p));
    }
  where
    four : (q x n : ℕ) → 10000 * x ≤ 31416 * q → 10 * n ≤ 11 * q → x * n ≤ 4 * q * q
    four q x n h k = last (mul-le-mul h k)
      where
        last : 10000 * x * (10 * n) ≤ 31416 * q * (11 * q) → x * n ≤ 4 * q * q
        last a = omega arith

-- ---- v is within e of m / w, and m / (q w) is t / b: so v / q is within 1 / h of t / b, where h e is at most q
pub settles : (h q w b e : ℕ) (v m t : Signed) → 0 < w → h * e ≤ q → Apart (times w v) m (w * e) → Same (times (q * w) t) (times b m)
    → Apart (times (h * b) v) (times (h * q) t) (q * b)
settles h q w b e v m t p H A E =
    let g : h * (q * w * t.plus + b * m.less) ≡ h * (b * m.plus + q * w * t.less) = ap (λ (n : ℕ). h * n) E in
    let k : h * e * (b * w) ≤ q * (b * w) = mul-le-mul_right (b * w) H in
    record {
      over =
          let a : h * b * (w * v.plus + m.less) ≤ h * b * (m.plus + w * v.less + w * e) = mul-le-mul_left (h * b) A.over in
          le_of_mul-le-mul_right {k = w} (omega arith) p;
      under =
          let a : h * b * (m.plus + w * v.less) ≤ h * b * (w * v.plus + m.less + w * e) = mul-le-mul_left (h * b) A.under in
          le_of_mul-le-mul_right {k = w} (omega arith) p;
    }
