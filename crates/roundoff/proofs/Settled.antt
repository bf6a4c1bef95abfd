-- How s - (t + e), exactly, rounds: t + e is rounded to v, and lies between v times 1 + 2 ^ -50 and v times 1 - 2 ^ -50, though these are rounded too. So where s less the
-- one and s less the other round to one number, s - (t + e) does. And where t or e is 0, v is t + e. Assumes nothing.
use mathlib.Core.Path.{◌≡◌, refl, sym, ap, ◌∙◌, subst}
use mathlib.Core.Logic.{◌⊎◌, inl, inr}
use mathlib.Core.Bool.{Bool, true, false}
use Prim.Native.Nat.{ℕ, ◌+◌, ◌-◌, ◌*◌, ◌^◌, ◌≤◌, ◌<◌, max}
use native.Mathlib.Nat.{le_trans, le_of_eq, mul-pos, mul_assoc, mul-le-mul_left, le_of_mul-le-mul_right}
use native.Mathlib.Omega.{arith}
use lib.Dec.{T, lit≤}
use lib.Pow.{pow_pos}
use lib.Ieee.{Float, binary64, fits, of_bits, unlike, round, add, sub, mul, eq}
use lib.Ieee.Fits.{add-fits, sub-fits, mul-fits}
use lib.Ieee.Scale.{finite, grid}
use Rattle.exact.specs.Doubles.{nought}
use Rattle.exact.specs.Near.{Part, Within}
use Rattle.exact.specs.Value.{Units, sign_of, units_of, value_of}
use Rattle.exact.specs.Signed.{Signed, Same, signed, plus_s, less_s, dist, mag}
use Rattle.exact.specs.Rounds.{rnd, Rounds}
use Rattle.exact.proofs.Naturals.{below_or}
use Rattle.exact.proofs.Truth.{like-false}
use Rattle.exact.proofs.Value.{own, units-are}
use Rattle.exact.proofs.Few.{Few, few-of, value-finite}
use Rattle.exact.proofs.Compare.{none}
use Rattle.exact.proofs.Operation.{mul-rounds}
use Rattle.exact.proofs.Rounding.{round-within}
use Rattle.exact.proofs.Sizes.{mag-signed, signed_is, same-via}
use Rattle.exact.proofs.Nearest.{few-short, few-most, rnd-exact, rnd-part, rnd-mono}
use Rattle.exact.proofs.Rounds.{rounds-at, rounds-mag, rounds-none, rounds-same, rounds-exact, rounds-between}
use Rattle.exact.proofs.Valued.{value-is, add-finite, sub-finite, mul-finite, add-value, sub-value}
use Rattle.roundoff.specs.Roundoff.{ABOVE, BELOW, far_end, near_end}

-- ---- M / 2 ^ 50, rounded to W, where M is N 2 ^ 51 at most: off by a quarter of N / 2 ^ 50 and a half at most
record ScaledTo (W M N : ℕ) : Type 0 where
  over : W * 2 ^ 52 ≤ M * 4 + N + 2 ^ 51
  under : M * 4 ≤ W * 2 ^ 52 + N + 2 ^ 51

scaled : (W M N Z n c : ℕ) → 0 < Z → M ≤ N * 2 ^ 51 → n ≡ M * Z → c ≡ 2 ^ 50 * Z → Within W n c → ScaledTo W M N
scaled W M N Z n c P l i j h =
    record {
      over = le_of_mul-le-mul_right {m = W * 2 ^ 52} {n = M * 4 + N + 2 ^ 51} {k = 2 ^ 51} (fewer W M N l (le_of_mul-le-mul_right {m = W * 2 ^ 103} {n = M * 2 ^ 53 + (M + 2 ^ 102)} {k = Z} (one (most n (c * 2 ^ 52)) (ap (λ (z : ℕ). W * z) j)) P)) (pow_pos 51);
      under = le_of_mul-le-mul_right {m = M * 4} {n = W * 2 ^ 52 + N + 2 ^ 51} {k = 2 ^ 51} (more W M N l (le_of_mul-le-mul_right {m = M * 2 ^ 53} {n = W * 2 ^ 103 + (M + 2 ^ 102)} {k = Z} (two (most n (c * 2 ^ 52)) (ap (λ (z : ℕ). W * z) j)) P)) (pow_pos 51);
    }
  where
    most : (x y : ℕ) → max x y ≤ x + y
    most x y = omega arith

    one : max n (c * 2 ^ 52) ≤ n + c * 2 ^ 52 → W * c ≡ W * (2 ^ 50 * Z) → W * 2 ^ 103 * Z ≤ (M * 2 ^ 53 + (M + 2 ^ 102)) * Z
    one m k = omega (arith, h.over)

    two : max n (c * 2 ^ 52) ≤ n + c * 2 ^ 52 → W * c ≡ W * (2 ^ 50 * Z) → M * 2 ^ 53 * Z ≤ (W * 2 ^ 103 + (M + 2 ^ 102)) * Z
    two m k = omega (arith, h.under)

    fewer : (W M N : ℕ) → M ≤ N * 2 ^ 51 → W * 2 ^ 103 ≤ M * 2 ^ 53 + (M + 2 ^ 102) → W * 2 ^ 52 * 2 ^ 51 ≤ (M * 4 + N + 2 ^ 51) * 2 ^ 51
    fewer W M N l h = omega arith

    more : (W M N : ℕ) → M ≤ N * 2 ^ 51 → M * 2 ^ 53 ≤ W * 2 ^ 103 + (M + 2 ^ 102) → M * 4 * 2 ^ 51 ≤ (W * 2 ^ 52 + N + 2 ^ 51) * 2 ^ 51
    more W M N l h = omega arith

-- a double times F, which is K 2 ^ 1024 units
record ByFactor (v F : Float) (K : ℕ) : Type 0 where
  size : ℕ
  value : value_of (mul binary64 v F) ≡ signed (sign_of v) size
  near : ScaledTo size (units_of v * K) (units_of v)

product : (v F : Float) (K : ℕ) → K ≤ 2 ^ 51 → Units F false (K * 2 ^ 1024) → T (fits binary64 v) → T (finite (mul binary64 v F)) → ByFactor v F K
product v F K l u f t =
    let n = units_of v in
    let q = 2 ^ 1074 in
    let p = pow_pos 1074 in
    let s = unlike (sign_of v) false in
    let a = n * (K * 2 ^ 1024) in
    let e = mul-rounds binary64 v F (sign_of v) false n q (K * 2 ^ 1024) q p p (own v f (mul-finite binary64 v F t).0) u in
    let r = round-within s a (q * q) (mul-pos p p) (subst (λ (z : Float). T (finite z)) e t) in
    let W = grid binary64 a (q * q) in
    record {
      size = W;
      value = ap value_of e ∙ value-is (round binary64 s a (q * q)) s W r.0 ∙ ap (λ (b : Bool). signed b W) (like-false (sign_of v));
      near = scaled W (n * K) n (2 ^ 1024 * q) (a * q) (q * q) (mul-pos (pow_pos 1024) p) (mul-le-mul_left n l) (regroup n K (2 ^ 1024) q) refl r.1;
    }
  where
    regroup : (n K y q : ℕ) → n * (K * y) * q ≡ n * K * (y * q)
    regroup n K y q = ap (λ (z : ℕ). z * q) (sym (mul_assoc n K y)) ∙ mul_assoc (n * K) y q

above-value : Units ABOVE false ((2 ^ 50 + 1) * 2 ^ 1024)
unfolding of_bits
above-value = (refl, refl)

below-value : Units BELOW false ((2 ^ 50 - 1) * 2 ^ 1024)
unfolding of_bits
below-value = (refl, refl)

-- ---- the size n of t + e lies between: it is rounded to N, and N is scaled to W and to U
small-or-full : (n : ℕ) → (rnd n ≡ n) ⊎ (2 ^ 53 ≤ rnd n)
small-or-full n = elim (below_or n (2 ^ 53)) [
  | inl l ↦ inl (rnd-exact n (few-short n l))
  | inr l ↦ inr (le_trans (le_of_eq (sym (rnd-exact (2 ^ 53) (few-most 1 53 (omega arith))))) (rnd-mono (2 ^ 53) n l))
]

at_least : (N W : ℕ) → N * (2 ^ 50 + 1) * 4 ≤ W * 2 ^ 52 + N + 2 ^ 51 → N ≤ W
at_least N W h = omega arith

at_most : (N U : ℕ) → U * 2 ^ 52 ≤ N * (2 ^ 50 - 1) * 4 + N + 2 ^ 51 → U ≤ N
at_most N U h = omega arith

-- by two parts in 2 ^ 52, from 2 ^ 53 on
far-above : (N W : ℕ) → 2 ^ 53 ≤ N → N * (2 ^ 50 + 1) * 4 ≤ W * 2 ^ 52 + N + 2 ^ 51 → N * 2 ^ 52 + N * 2 ≤ W * 2 ^ 52
far-above N W l h = omega arith

far-below : (N U : ℕ) → 2 ^ 53 ≤ N → U * 2 ^ 52 ≤ N * (2 ^ 50 - 1) * 4 + N + 2 ^ 51 → U * 2 ^ 52 + N * 2 ≤ N * 2 ^ 52
far-below N U l h = omega arith

-- and n is a part in 2 ^ 53 off N at most
twice : (n N : ℕ) → n * 2 ^ 53 ≤ N * 2 ^ 53 + n → n ≤ N * 2
twice n N h = omega arith

past : (n N W : ℕ) → n ≤ N * 2 → n * 2 ^ 53 ≤ N * 2 ^ 53 + n → N * 2 ^ 52 + N * 2 ≤ W * 2 ^ 52 → n ≤ W
past n N W l h k = le_of_mul-le-mul_right {m = n} {n = W} {k = 2 ^ 52} (le_trans (one n N l h) k) (pow_pos 52)
  where
    one : (n N : ℕ) → n ≤ N * 2 → n * 2 ^ 53 ≤ N * 2 ^ 53 + n → n * 2 ^ 52 ≤ N * 2 ^ 52 + N * 2
    one n N l h = omega arith

short-of : (n N U : ℕ) → n ≤ N * 2 → N * 2 ^ 53 ≤ n * 2 ^ 53 + n → U * 2 ^ 52 + N * 2 ≤ N * 2 ^ 52 → U ≤ n
short-of n N U l h k = le_of_mul-le-mul_right {m = U} {n = n} {k = 2 ^ 52} (one (U * 2 ^ 52) (N * 2 ^ 52) (n * 2 ^ 52) k (two n N l h)) (pow_pos 52)
  where
    one : (x y z : ℕ) → x + N * 2 ≤ y → y ≤ z + N * 2 → x ≤ z
    one x y z h k = omega arith

    two : (n N : ℕ) → n ≤ N * 2 → N * 2 ^ 53 ≤ n * 2 ^ 53 + n → N * 2 ^ 52 ≤ n * 2 ^ 52 + N * 2
    two n N l h = omega arith

between : (n N W U : ℕ) → Part N n → ((N ≡ n) ⊎ (2 ^ 53 ≤ N)) → ScaledTo W (N * (2 ^ 50 + 1)) N → ScaledTo U (N * (2 ^ 50 - 1)) N → (U ≤ n) × (n ≤ W)
between n N W U p (inl e) w u = (le_trans (at_most N U u.over) (le_of_eq e), le_trans (le_of_eq (sym e)) (at_least N W w.under))
between n N W U p (inr l) w u =
    let t = twice n N p.under in
    (short-of n N U t p.over (far-below N U l u.over), past n N W t p.under (far-above N W l w.under))

-- ---- of signed numbers: S less something
ends : (S E r q : Signed) (s : Bool) (n W U : ℕ) → Same E (signed s n) → U ≤ n → n ≤ W → Rounds (less_s S (signed s W)) r → Rounds (less_s S (signed s U)) q → Same r q → Rounds (less_s S E) r
ends S E r q false n W U h k l a b e =
    rounds-same (less_s S E) q (less_s S E) r refl (sym e) (rounds-between (less_s S (signed false W)) (less_s S E) (less_s S (signed false U)) q r a b (sym e) (omega arith) (omega arith))
ends S E r q true n W U h k l a b e = rounds-between (less_s S (signed true U)) (less_s S E) (less_s S (signed true W)) r q b a e (omega arith) (omega arith)

-- the sign of a rounded number is the number's
its-sign : (s t : Bool) (N n : ℕ) → (N ≡ 0 → n ≡ 0) → Same (signed s N) (signed t N) → Same (signed t n) (signed s n)
its-sign true true N n z h = refl
its-sign false false N n z h = refl
its-sign true false N n z h = let o = z (omega arith) in omega arith
its-sign false true N n z h = let o = z (omega arith) in omega arith

-- ---- THE TEST, of doubles
module _ (s t e : Float) (fs : T (fits binary64 s)) (ft : T (fits binary64 t)) (fe : T (fits binary64 e)) where
  abbrev v : Float
  v = add binary64 t e

  abbrev E : Signed
  E = plus_s (value_of t) (value_of e)

  abbrev far : Float
  far = far_end s t e

  abbrev near : Float
  near = near_end s t e

  -- a difference of 0 is one of two finite and equal doubles
  module _ (settles : eq (sub binary64 far near) nought ≡ true) where
    zero : Units (sub binary64 far near) (sign_of (sub binary64 far near)) 0
    zero = none (sub binary64 far near) settles

    off-finite : T (finite (sub binary64 far near))
    off-finite = value-finite (sub binary64 far near) (sign_of (sub binary64 far near)) 0 zero

    both : T (finite far) × T (finite near)
    both = sub-finite binary64 far near off-finite

    pub far-finite : T (finite far)
    far-finite = both.0

    equal : Same (value_of far) (value_of near)
    equal =
        by (value_of far).plus (value_of far).less (value_of near).plus (value_of near).less
        (rounds-none (less_s (value_of far) (value_of near)) (value_of (sub binary64 far near)) (sub-value far near (sub-fits binary64 s (mul binary64 v ABOVE)) (sub-fits binary64 s (mul binary64 v BELOW)) off-finite)
        (mag-signed (sign_of (sub binary64 far near)) (units_of (sub binary64 far near)) ∙ units-are (sub binary64 far near) (sign_of (sub binary64 far near)) 0 zero))
      where
        by : (a b c d : ℕ) → dist (a + d) (b + c) ≡ 0 → a + d ≡ c + b
        by a b c d e = omega arith

    above-finite : T (finite (mul binary64 v ABOVE))
    above-finite = (sub-finite binary64 s (mul binary64 v ABOVE) both.0).1

    pub sum-finite : T (finite v)
    sum-finite = (mul-finite binary64 v ABOVE above-finite).0

    pub settled : Rounds (less_s (value_of s) E) (value_of far)
    settled =
        let n = mag E in
        let N = units_of v in
        let r = add-value t e ft fe sum-finite in
        let N-is : N ≡ rnd n = sym (mag-signed (sign_of v) N) ∙ rounds-mag E (value_of v) r in
        let g = signed_is E in
        let w = product v ABOVE (2 ^ 50 + 1) (lit≤ tt) above-value (add-fits binary64 t e) above-finite in
        let u = product v BELOW (2 ^ 50 - 1) (lit≤ tt) below-value (add-fits binary64 t e) (sub-finite binary64 s (mul binary64 v BELOW) both.1).1 in
        let p : Part N n = subst (λ (z : ℕ). Part z n) (sym N-is) (rnd-part n) in
        let c = between n N w.size u.size p (subst (λ (z : ℕ). (z ≡ n) ⊎ (2 ^ 53 ≤ z)) (sym N-is) (small-or-full n)) w.near u.near in
        let same : Same (signed (sign_of v) N) (signed g.0 N) = subst (λ (z : ℕ). Same (value_of v) (signed g.0 z)) (sym N-is) (rounds-at E (value_of v) g.0 n r g.1) in
        ends (value_of s) E (value_of far) (value_of near) (sign_of v) n w.size u.size
        (same-via E (signed g.0 n) (signed (sign_of v) n) g.1 (its-sign (sign_of v) g.0 N n (gone n N p.under) same)) c.0 c.1
        (subst (λ (z : Signed). Rounds (less_s (value_of s) z) (value_of far)) w.value (sub-value s (mul binary64 v ABOVE) fs (mul-fits binary64 v ABOVE) both.0))
        (subst (λ (z : Signed). Rounds (less_s (value_of s) z) (value_of near)) u.value (sub-value s (mul binary64 v BELOW) fs (mul-fits binary64 v BELOW) both.1))
        equal
      where
        gone : (n N : ℕ) → n * 2 ^ 53 ≤ N * 2 ^ 53 + n → N ≡ 0 → n ≡ 0
        gone n N h e = omega arith

  -- ---- where t or e is 0, nothing of t + e is lost
  pub sum-exact : T (finite v) → ((units_of t ≡ 0) ⊎ (units_of e ≡ 0)) → Same (value_of v) E
  sum-exact h z =
      let o = add-finite binary64 t e h in
      rounds-exact E (value_of v) (add-value t e ft fe h)
      (elim z [
        | inl a ↦ subst Few (first (sign_of t) (sign_of e) (units_of t) (units_of e) a) (few-of e fe o.1)
        | inr a ↦ subst Few (second (sign_of t) (sign_of e) (units_of t) (units_of e) a) (few-of t ft o.0)
      ])
    where
      first : (s r : Bool) (m n : ℕ) → m ≡ 0 → n ≡ mag (plus_s (signed s m) (signed r n))
      first true true m n e = omega arith
      first true false m n e = omega arith
      first false true m n e = omega arith
      first false false m n e = omega arith

      second : (s r : Bool) (m n : ℕ) → n ≡ 0 → m ≡ mag (plus_s (signed s m) (signed r n))
      second true true m n e = omega arith
      second true false m n e = omega arith
      second false true m n e = omega arith
      second false false m n e = omega arith

  pub settled-exactly : T (finite (sub binary64 s v)) → ((units_of t ≡ 0) ⊎ (units_of e ≡ 0)) → Rounds (less_s (value_of s) E) (value_of (sub binary64 s v))
  settled-exactly h z =
      let o = sub-finite binary64 s v h in
      rounds-same (less_s (value_of s) (value_of v)) (value_of (sub binary64 s v)) (less_s (value_of s) E) (value_of (sub binary64 s v)) (by (value_of s) (value_of v) E (sum-exact o.1 z)) refl (sub-value s v fs (add-fits binary64 t e) h)
    where
      by : (s v E : Signed) → Same v E → Same (less_s s v) (less_s s E)
      by s v E e = omega arith
