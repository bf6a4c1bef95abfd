-- Horner's rule over a list of coefficients: the answer of each step is a double that is not negative, and within `error` of what the
-- terms from its own on add up to. What a list has to meet for this is one test, `fine`, which antt computes. All numbers are counted in
-- units of 2 ^ -1074. Assumes nothing.
use mathlib.Core.Path.{◌≡◌, subst}
use mathlib.Core.List.{List, [], ◌∷◌}
use mathlib.Core.Bool.{Bool, true, false, not, ◌&&◌, true≢false}
use Prim.Native.Nat.{ℕ, suc, ◌+◌, ◌-◌, ◌*◌, ◌/◌, ◌^◌, ◌≤◌, ◌<◌}
use native.Mathlib.Nat.{le_trans, le_of_lt, le-add_right, zero-lt-suc, mul_assoc, mul_left_comm, lt-div-mul-add}
use native.Mathlib.Nat.{mul-le-mul, mul-le-mul_left, mul-le-mul_right, le_of_mul-le-mul_left, le_of_mul-le-mul_right}
use native.Mathlib.Omega.{arith}
use lib.Dec.{T, leb, ltb, leb→le, lit≤}
use lib.Pow.{pow_pos}
use lib.Ieee.{Float, binary64, sub, mul, fits, size}
use lib.Ieee.Fits.{and_l, and_r}
use lib.Ieee.Bits.{is_false}
use lib.Ieee.Scale.{finite}
use Rattle.exact.specs.Value.{Units, sign_of, units_of}
use Rattle.exact.specs.Near.{Off}
use Rattle.exact.specs.Signed.{Apart, signed, less_s}
use Rattle.exact.proofs.Order.{ltb_no}
use Rattle.exact.proofs.Value.{own}
use Rattle.exact.proofs.Bounded.{Sized, mul-off, sub-apart}
use Rattle.trig.specs.Trig.{horner}
use Rattle.trig.specs.Series.{factorial}
use Rattle.trig.proofs.Series.{ratio, ratios, tail, tail-le, tail-next}
use Rattle.trig.proofs.Partial.{fact, fact-next, fact-some}
use Rattle.trig.proofs.Step.{product, difference}

-- the units of 1
abbrev pub Q : ℕ
Q = 2 ^ 1074

-- ---- what is claimed of the step of a coefficient c
-- 2 ^ half_of n is half a unit in the last place of a size of up to n
unfoldable pub half_of : ℕ → ℕ
unfolding size
half_of n = size (n - 1) - 54

-- its answer is at most this
unfoldable pub most : Float → ℕ
unfolding half_of
most c = units_of c + 2 ^ half_of (units_of c)

-- 2 ^ half_times c is half a unit in the last place of its answer times y, which is at most 9.87
unfoldable pub half_times : Float → ℕ
unfolding most
half_times c = half_of (987 * most c / 100 + 1)

-- c misses 1 / n by at most this
unfoldable miss : ℕ → Float → ℕ
miss n c = (units_of c * n - Q + (Q - units_of c * n)) / n + 1

-- what y's own error, 2 ^ 1024 units, makes of the product's
unfoldable pub from_y : Float → ℕ
unfolding most
from_y c = 2 ^ 1024 * most c / Q + 1

-- what an error e of the answer makes of the product's
unfoldable pub from_p : ℕ → ℕ
from_p e = 98697 * e / 10000 + 1

-- the error of c's step, c being term k's coefficient: the product's rounding, y's error, the next step's error; the difference's
-- rounding; and what c misses. After the last coefficient what is left of the series is lost, which is at most its first term
unfoldable pub error : ℕ → ℕ → Float → List Float → ℕ
unfolding half_times miss from_y from_p factorial
error o k c [] = 0 + 0 + from_p (Q / fact o (suc k) + 1) + 0 + miss (fact o k) c
error o k c (d ∷ ds) = 2 ^ half_times d + from_y d + from_p (error o (suc k) d ds) + 2 ^ half_of (units_of c) + miss (fact o k) c

miss-off : (n : ℕ) (c : Float) → 0 < n → Off (units_of c) Q n (miss n c)
unfolding miss
miss-off n c h = by (units_of c) Q n ((units_of c * n - Q + (Q - units_of c * n)) / n) (lt-div-mul-add h)
  where
    by : (a q n k : ℕ) → a * n - q + (q - a * n) < k * n + n → Off a q n (k + 1)
    by a q n k l = record { over = omega arith; under = omega arith }

pub from_y_enough : (c : Float) → 2 ^ 1024 * most c ≤ from_y c * Q
unfolding from_y
from_y_enough c = by (2 ^ 1024 * most c) Q (lt-div-mul-add (pow_pos 1074))
  where
    by : (a q : ℕ) → a < a / q * q + q → a ≤ (a / q + 1) * q
    by a q h = omega arith

pub from_p-enough : (q x e : ℕ) → 10000 * (x * x) ≤ 98697 * (q * q) → x * x * e ≤ from_p e * (q * q)
unfolding from_p
from_p-enough q x e h =
    let a : 10000 * (x * x) * e ≤ 98697 * (q * q) * e = mul-le-mul_right e h in
    let b : 98697 * e * (q * q) ≤ (98697 * e / 10000 + 1) * 10000 * (q * q) = mul-le-mul_right (q * q) (omega arith) in
    omega arith

most-own : (c : Float) → units_of c ≤ most c
unfolding most
most-own c = le-add_right (units_of c) (2 ^ half_of (units_of c))

most-less : (c : Float) (v t : ℕ) → v + t ≤ units_of c + 2 ^ half_of (units_of c) → v ≤ most c
unfolding most
most-less c v t h = le_trans (le-add_right v t) h

-- ---- the test: each c is a double that is not negative, and its two powers of two are large enough; and the product of y and the next
-- step's answer, d's, is at most c
unfoldable sound : Float → Bool
unfolding half_of most half_times
sound c =
    fits binary64 c
    && (finite c
    && (not (sign_of c)
    && (leb (units_of c) (2 ^ (54 + half_of (units_of c)))
    && (leb (2 ^ (54 + half_of (units_of c)) + 2 ^ (1 + half_of (units_of c))) (2 ^ 2098)
    && (leb (987 * most c) (100 * 2 ^ (54 + half_times c)) && leb (2 ^ (54 + half_times c) + 2 ^ (1 + half_times c)) (2 ^ 2098))))))

unfoldable follows : Float → Float → Bool
unfolding most half_times
follows c d = leb (987 * most d + 100 * 2 ^ half_times d) (100 * units_of c)

unfoldable pub fine : Float → List Float → Bool
unfolding sound follows
fine c [] = sound c
fine c (d ∷ ds) = sound c && (follows c d && fine d ds)

-- what it says
pub record Sound (c : Float) : Type 0 where
  pub value : Units c false (units_of c)
  pub half-enough : units_of c ≤ 2 ^ (54 + half_of (units_of c))
  pub half_room : 2 ^ (54 + half_of (units_of c)) + 2 ^ (1 + half_of (units_of c)) ≤ 2 ^ 2098
  pub times-enough : 987 * most c ≤ 100 * 2 ^ (54 + half_times c)
  pub times-room : 2 ^ (54 + half_times c) + 2 ^ (1 + half_times c) ≤ 2 ^ 2098

sounds : (c : Float) → T (sound c) → Sound c
unfolding sound
sounds c t =
    let a = fits binary64 c in
    let b = finite c in
    let d = not (sign_of c) in
    let e = leb (units_of c) (2 ^ (54 + half_of (units_of c))) in
    let f = leb (2 ^ (54 + half_of (units_of c)) + 2 ^ (1 + half_of (units_of c))) (2 ^ 2098) in
    let g = leb (987 * most c) (100 * 2 ^ (54 + half_times c)) in
    let h = leb (2 ^ (54 + half_times c) + 2 ^ (1 + half_times c)) (2 ^ 2098) in
    let t1 = and_r a (b && (d && (e && (f && (g && h))))) t in
    let t2 = and_r b (d && (e && (f && (g && h)))) t1 in
    let t3 = and_r d (e && (f && (g && h))) t2 in
    let t4 = and_r e (f && (g && h)) t3 in
    let t5 = and_r f (g && h) t4 in
    record {
      value =
          subst (λ (s : Bool). Units c s (units_of c)) (is_false (sign_of c) (and_l d (e && (f && (g && h))) t2))
          (own c (and_l a (b && (d && (e && (f && (g && h))))) t) (and_l b (d && (e && (f && (g && h)))) t1));
      half-enough = leb→le (units_of c) (2 ^ (54 + half_of (units_of c))) (and_l e (f && (g && h)) t3);
      half_room = leb→le (2 ^ (54 + half_of (units_of c)) + 2 ^ (1 + half_of (units_of c))) (2 ^ 2098) (and_l f (g && h) t4);
      times-enough = leb→le (987 * most c) (100 * 2 ^ (54 + half_times c)) (and_l g h t5);
      times-room = leb→le (2 ^ (54 + half_times c) + 2 ^ (1 + half_times c)) (2 ^ 2098) (and_r g h t5);
    }

followed : (c d : Float) → T (follows c d) → 987 * most d + 100 * 2 ^ half_times d ≤ 100 * units_of c
unfolding follows
followed c d t = leb→le (987 * most d + 100 * 2 ^ half_times d) (100 * units_of c) t

pub fine-first : (c : Float) (cs : List Float) → T (fine c cs) → Sound c
unfolding fine
fine-first c [] t = sounds c t
fine-first c (d ∷ ds) t = sounds c (and_l (sound c) (follows c d && fine d ds) t)

-- ---- y, the rounded square of an angle of x units, at most 3.1416 in size
pub record Square (x : ℕ) (y : Float) : Type 0 where
  pub size : ℕ
  pub value : Units y false size
  pub off : Off size (x * x) Q (2 ^ 1024)
  pub x-small : 10000 * (x * x) ≤ 98697 * (Q * Q)
  pub y-small : 100 * size ≤ 987 * Q

pub x-falls : (q x : ℕ) → 10000 * (x * x) ≤ 98697 * (q * q) → x * x ≤ 12 * (q * q)
x-falls q x h = omega arith

-- y p for a p of at most m: at most 9.87 m, and so is the rounded product t but for its rounding
product-below : (y p q m h : ℕ) → 100 * y ≤ 987 * q → p ≤ m → 987 * m ≤ 100 * h → y * p ≤ h * q
product-below y p q m h a b c =
    let d : 100 * y * p ≤ 987 * q * m = mul-le-mul a b in
    let e : 987 * m * q ≤ 100 * h * q = mul-le-mul_right q c in
    omega arith

pub rounded-below : (t y p q m i : ℕ) → 0 < q → 100 * y ≤ 987 * q → p ≤ m → t * q ≤ y * p + q * i → 100 * t ≤ 987 * m + 100 * i
rounded-below t y p q m i h a b c = le_of_mul-le-mul_right (last (mul-le-mul a b)) h
  where
    last : 100 * y * p ≤ 987 * q * m → 100 * t * q ≤ (987 * m + 100 * i) * q
    last d = omega arith

pub times-y : (x : ℕ) (y f c : Float) (p : ℕ) (S : Square x y) → Units f false p → p ≤ most c → Sound c
    → Sized (mul binary64 y f) false (S.size * p) Q (half_times c)
times-y x y f c p S v h C =
    mul-off y f false false S.size p (half_times c) S.value v
    (product-below S.size p Q (most c) (2 ^ (54 + half_times c)) S.y-small h C.times-enough) C.times-room

-- ---- c - t, for a t of at most c
record Taken (f : Float) (a b e : ℕ) : Type 0 where
  size : ℕ
  value : Units f false size
  over : size + b ≤ a + e
  under : a ≤ size + b + e

taken : (x y : Float) (a b i : ℕ) → Units x false a → Units y false b → b ≤ a → a ≤ 2 ^ (54 + i) → 2 ^ (54 + i) + 2 ^ (1 + i) ≤ 2 ^ 2098
    → Taken (sub binary64 x y) a b (2 ^ i)
taken x y a b i v w h l r =
    let d = sub-apart x y a b i v w (one a b (2 ^ (54 + i)) l) (two a b (2 ^ (54 + i)) h) r in
    plain (sub binary64 x y) d.size (2 ^ i) (ltb a b) (ltb_no a b h) d.value d.apart
  where
    one : (a b n : ℕ) → a ≤ n → a ≤ b + n
    one a b n h = omega arith

    two : (a b n : ℕ) → b ≤ a → b ≤ a + n
    two a b n h = omega arith

    plain : (f : Float) (v e : ℕ) (z : Bool) → z ≡ false → Units f z v → Apart (signed z v) (less_s (signed false a) (signed false b)) e
        → Taken f a b e
    plain f v e true n u p = absurd (true≢false n)
    plain f v e false n u p = record { size = v; value = u; over = omega (arith, p.over); under = omega (arith, p.under) }

-- ---- the chain
-- how many terms a list of coefficients stands for, with m more after it
unfoldable pub count : List Float → ℕ → ℕ
count [] m = suc m
count (c ∷ cs) m = suc (count cs m)

-- the answer f at term k is at most m, and within e of d terms from term k on, over term k's power of the angle
pub record Link (o x : ℕ) (f : Float) (k d m e : ℕ) : Type 0 where
  pub size : ℕ
  pub value : Units f false size
  pub small : size ≤ m
  pub near : Off size (Q * tail Q o x d k) (fact o k * ratios Q o d k) e

-- what is lost after the last coefficient: 0 stands for l / w, which is at most 1
lost : (q f l w : ℕ) → 0 < f → l ≤ w → Off 0 (q * l) (f * w) (q / f + 1)
lost q f l w h k = by (q / f) (lt-div-mul-add h)
  where
    by : (n : ℕ) → q < n * f + f → Off 0 (q * l) (f * w) (n + 1)
    by n r =
        let a : q * l ≤ q * w = mul-le-mul_left q k in
        let b : q * w ≤ (n * f + f) * w = mul-le-mul_right w (le_of_lt r) in
        record { over = omega arith; under = omega arith }

nothing : (y q : ℕ) → Off 0 (y * 0) q 0
nothing y q = record { over = omega arith; under = omega arith }

module _ (o x : ℕ) (y : Float) (S : Square x y) where
  -- the step at term k + 1 in whole numbers: p is the answer at term k + 2, t its product with y, v the difference of c and t
  step : (k d p t v c m i g e j a : ℕ) → Off p (Q * tail Q o x d (suc (suc k))) (fact o (suc (suc k)) * ratios Q o d (suc (suc k))) e
      → Off t (S.size * p) Q i → p ≤ m → 2 ^ 1024 * m ≤ g * Q → v + t ≤ c + j → c ≤ v + t + j → Off c Q (fact o (suc k)) a
      → Off v (Q * tail Q o x (suc d) (suc k)) (fact o (suc k) * ratios Q o (suc d) (suc k)) (i + g + from_p e + j + a)
  unfolding ratios ratio
  step k d p t v c m i g e j a P R h G over under C =
      let n = fact o (suc k) in
      let b = (2 * suc k + 1 + o) * (2 * suc k + 2 + o) in
      let w = ratios Q o d (suc (suc k)) in
      let l = tail Q o x d (suc (suc k)) in
      difference Q c t v (tail Q o x (suc d) (suc k)) (x * x * l) n (Q * Q * b * w) a (i + g + from_p e) j C
      (rw (mul_left_comm (x * x) Q l, fact-next o (suc k), turn n Q b w)
      at (product Q x S.size p l (fact o (suc (suc k)) * w) t (2 ^ 1024) e m i g (from_p e) S.off P R h G
      (from_p-enough Q x e S.x-small)))
      over under (tail-next Q o x (x-falls Q x S.x-small) d k)
    where
      turn : (n q b w : ℕ) → q * q * (n * b * w) ≡ n * (q * q * b * w)
      turn n q b w = simp (mul_assoc, mul_left_comm)

  -- THE CHAIN
  pub chain : (k : ℕ) (c : Float) (cs : List Float) (n : ℕ) → T (fine c cs)
      → Link o x (horner y c cs) (suc k) (count cs n) (most c) (error o (suc k) c cs)
  unfolding horner fine count error
  chain k c [] n t =
      let f = fact o (suc k) in
      let g = fact o (suc (suc k)) in
      record {
        size = units_of c;
        value = (sounds c t).value;
        small = most-own c;
        near =
            step k n 0 0 (units_of c) (units_of c) 0 0 0 (Q / g + 1) 0 (miss f c)
            (lost Q g (tail Q o x n (suc (suc k))) (ratios Q o n (suc (suc k))) (fact-some o (suc (suc k)))
            (tail-le Q o x (x-falls Q x S.x-small) n (suc k)))
            (nothing S.size Q) (lit≤ tt) (lit≤ tt) (over (units_of c)) (under (units_of c)) (miss-off f c (fact-some o (suc k)));
      }
    where
      over : (a : ℕ) → a + 0 ≤ a + 0
      over a = omega arith

      under : (a : ℕ) → a ≤ a + 0 + 0
      under a = omega arith
  chain k c (d ∷ ds) n t =
      let u = and_r (sound c) (follows c d && fine d ds) t in
      let C = sounds c (and_l (sound c) (follows c d && fine d ds) t) in
      let ok = and_r (follows c d) (fine d ds) u in
      let f = horner y d ds in
      let I = chain (suc k) d ds n ok in
      let P = times-y x y f d I.size S I.value I.small (fine-first d ds ok) in
      let h : P.size ≤ units_of c =
      le_of_mul-le-mul_left
      (le_trans (rounded-below P.size S.size I.size Q (most d) (2 ^ half_times d) (pow_pos 1074) S.y-small I.small P.off.over)
      (followed c d (and_l (follows c d) (fine d ds) u))) (zero-lt-suc 99) in
      let D = taken c (mul binary64 y f) (units_of c) P.size (half_of (units_of c)) C.value P.value h C.half-enough C.half_room in
      record {
        size = D.size;
        value = D.value;
        small = most-less c D.size P.size D.over;
        near =
            step k (count ds n) I.size P.size D.size (units_of c) (most d) (2 ^ half_times d) (from_y d) (error o (suc (suc k)) d ds)
            (2 ^ half_of (units_of c)) (miss (fact o (suc k)) c) I.near P.off I.small (from_y_enough d) D.over D.under
            (miss-off (fact o (suc k)) c (fact-some o (suc k)));
      }
