-- x - q HIGH - q LOW is the reduced angle wherever it is less than PI in size and not zero, for every whole number q of at most 21 digits:
-- both products are exact, and they and x, which is TAU or more in size, are multiples of 2 ^ -50. So are the differences, then, which are
-- exact where they are below 8; that they are the answer shows. Assumes nothing.
use mathlib.Core.Path.{◌≡◌, refl, sym, ap, ◌∙◌, subst}
use mathlib.Core.Logic.{inl, inr}
use mathlib.Core.Bool.{Bool, true, false, false≢true}
use Prim.Native.Nat.{ℕ, ◌+◌, ◌-◌, ◌*◌, ◌^◌, ◌≤◌, ◌<◌}
use native.Mathlib.Nat.{le_trans, le_of_eq, le_of_lt, lt_of_lt_of_le, lt_of_mul-lt-mul_right, mul-le-mul_right}
use native.Mathlib.Omega.{arith}
use borrow.Author.Tests.{ltb-true, ltb-false}
use lib.Dec.{T, lit≤}
use lib.Pow.{pow_pos}
use lib.Ieee.{Float, binary64, of_bits, sub, mul, neg, below, lt, fits}
use lib.Ieee.Fits.{sub-fits}
use lib.Ieee.Scale.{finite}
use Rattle.exact.specs.Value.{Units, sign_of, units_of, value_of}
use Rattle.exact.specs.Signed.{Signed, Same, signed, times, plus_s, less_s}
use Rattle.exact.proofs.Value.{neg_value, own, units-are, sign-is}
use Rattle.exact.proofs.Compare.{lt-is, between}
use Rattle.exact.proofs.Valued.{sub-finite}
use Rattle.exact.proofs.Grid.{On, sub-on, sub-seen, sub-size}
use Rattle.exact.proofs.Steps.{mul-on, finer, far-on}
use Rattle.trig.specs.Reduce.{TAU, PI, reduced, Far, Inside}
use Rattle.trig.proofs.Reducing.{tau_value, tau_some}
use Rattle.trig.proofs.Only.{inside-finite, inside-small, settled}

-- ---- the constants of the code
abbrev HIGH : Float
HIGH = of_bits binary64 0x401921FB54400000

abbrev LOW : Float
LOW = of_bits binary64 0x3DF0B46000000000

abbrev pub MIDDLE : Float
MIDDLE = of_bits binary64 0x4338000000000000

abbrev BOTTOM : Float
BOTTOM = of_bits binary64 0x4337FFFFFFE00000

abbrev TOP : Float
TOP = of_bits binary64 0x4338000000200000

high_value : Units HIGH false (1686629713 * 2 ^ 1046)
unfolding of_bits
high_value = (refl, refl)

low_value : Units LOW false (34211 * 2 ^ 1027)
unfolding of_bits
low_value = (refl, refl)

middle-value : Units MIDDLE false (3 * 2 ^ 51 * 2 ^ 1074)
unfolding of_bits
middle-value = (refl, refl)

bottom-value : Units BOTTOM false ((3 * 2 ^ 51 - 2 ^ 21) * 2 ^ 1074)
unfolding of_bits
bottom-value = (refl, refl)

top-value : Units TOP false ((3 * 2 ^ 51 + 2 ^ 21) * 2 ^ 1074)
unfolding of_bits
top-value = (refl, refl)

pi-steps : units_of PI ≡ 3537118876014220 * 2 ^ 1024
unfolding of_bits
pi-steps = refl

tau_steps : units_of TAU ≡ 7074237752028440 * 2 ^ 1024
unfolding of_bits
tau_steps = refl

-- ---- q = t - MIDDLE is a whole number of at most 21 digits
pub record Whole (q : Float) : Type 0 where
  sign : Bool
  size : ℕ
  value : Units q sign (size * 2 ^ 1074)
  few : size < 2 ^ 21

pub whole : (t : Float) → T (fits binary64 t) → lt t TOP ≡ true → lt BOTTOM t ≡ true → Whole (sub binary64 t MIDDLE)
whole t f h l =
    let w = 2 ^ 1074 in
    let b = (3 * 2 ^ 51 - 2 ^ 21) * w in
    let p = (3 * 2 ^ 51 + 2 ^ 21) * w in
    let v = own t f known in
    let e = by (sign_of t) (units_of t) b p (sym (lt-is t TOP (sign_of t) false (units_of t) p w (pow_pos 1074) v top-value) ∙ h)
    (sym (lt-is BOTTOM t false (sign_of t) b (units_of t) w (pow_pos 1074) bottom-value v) ∙ l) in
    let m = far-on 1074 t f known (le_trans (lit≤ tt) (le_of_lt e.1)) in
    let n = m.0 in
    let o : 3 * 2 ^ 51 - 2 ^ 21 < n = lt_of_mul-lt-mul_right w (rw m.1 at e.1) in
    let u : n < 3 * 2 ^ 51 + 2 ^ 21 = lt_of_mul-lt-mul_right w (rw m.1 at e.2) in
    let q = sub-on 1074 (lit≤ tt) t MIDDLE (signed false n) (signed false (3 * 2 ^ 51))
    (record { sign = false; steps = n; value = rw (e.0, m.1) at v; same = refl })
    (record { sign = false; steps = 3 * 2 ^ 51; value = middle-value; same = refl })
    (record { over = omega arith; under = omega arith }) in
    record { sign = q.sign; size = q.steps; value = q.value; few = small q.sign q.steps n o u q.same }
  where
    known : T (finite t)
    known = unfold of_bits in between BOTTOM t TOP tt tt l h

    by : (s : Bool) (n b p : ℕ) → below s n false p ≡ true → below false b s n ≡ true → (s ≡ false) × (b < n) × (n < p)
    by true n b p h l = absurd (false≢true l)
    by false n b p h l = (refl, ltb-true b n l, ltb-true n p h)

    small : (s : Bool) (a n : ℕ) → 3 * 2 ^ 51 - 2 ^ 21 < n → n < 3 * 2 ^ 51 + 2 ^ 21
        → Same (signed s a) (less_s (signed false n) (signed false (3 * 2 ^ 51))) → a < 2 ^ 21
    small true a n o u e = omega arith
    small false a n o u e = omega arith

-- ---- what is Far is TAU or more in size
far-size : (x : Float) → T (fits binary64 x) → T (finite x) → Far x → units_of TAU ≤ units_of x
far-size x f t far =
    let s = sign_of x in
    let a = units_of x in
    let b = units_of TAU in
    let v = own x f t in
    elim far [
      | inl h ↦ under s a b tau_some (sym (lt-is x TAU s false a b (2 ^ 1074) (pow_pos 1074) v tau_value) ∙ h)
      | inr h ↦
          over s a b tau_some
          (sym (lt-is (neg TAU) x true s b a (2 ^ 1074) (pow_pos 1074) (neg_value TAU false b (2 ^ 1074) tau_value) v) ∙ h)
    ]
  where
    under : (s : Bool) (n b : ℕ) → 0 < b → below s n false b ≡ false → b ≤ n
    under true n b l e = omega (arith, ltb-false 0 (n + b) e)
    under false n b l e = ltb-false n b e

    over : (s : Bool) (n b : ℕ) → 0 < b → below true b s n ≡ false → b ≤ n
    over true n b l e = ltb-false n b e
    over false n b l e = omega (arith, ltb-false 0 (b + n) e)

-- ---- in steps of g = 2 ^ 1024 units: q LOW, the first difference by the answer, and what the two differences leave of x
low-few : (s u : Bool) (a n : ℕ) → n < 2 ^ 21 → Same (signed s a) (times (2 ^ 3) (times 34211 (signed u n))) → a < 2 ^ 40
low-few true true a n h e = omega arith
low-few true false a n h e = omega arith
low-few false true a n h e = omega arith
low-few false false a n h e = omega arith

d-size : (d r l g : ℕ) → d * 15 ≤ r * 16 + l * g * 15 → r < 3537118876014220 * g → l < 2 ^ 40 → d * 8 ≤ 7 * 2 ^ 53 * g
d-size d r l g h p k = let m : l * g ≤ 2 ^ 40 * g = mul-le-mul_right g (le_of_lt k) in omega arith

r-size : (r g : ℕ) → r < 3537118876014220 * g → r * 8 ≤ 7 * 2 ^ 53 * g
r-size r g h = omega arith

left_over : (x r q : Signed) → Same r (less_s (less_s x (times (2 ^ 22) (times 1686629713 q))) (times (2 ^ 3) (times 34211 q)))
    → Same (plus_s r (times 7074237752028440 q)) x
left_over x r q e = omega arith

in_units : (s u : Bool) (n m g c : ℕ) (q : Signed) → Same (plus_s (signed s n) (times c q)) (signed u m)
    → Same (plus_s (signed s (n * g)) (times (c * g) q)) (signed u (m * g))
in_units s u n m g c q e = by s u q.plus q.less e
  where
    by : (s u : Bool) (k l : ℕ) → (signed s n).plus + c * k + (signed u m).less ≡ (signed u m).plus + ((signed s n).less + c * l)
        → (signed s (n * g)).plus + c * g * k + (signed u (m * g)).less ≡ (signed u (m * g)).plus + ((signed s (n * g)).less + c * g * l)
    by true true k l e = let f = ap (λ (z : ℕ). z * g) e in omega arith
    by true false k l e = let f = ap (λ (z : ℕ). z * g) e in omega arith
    by false true k l e = let f = ap (λ (z : ℕ). z * g) e in omega arith
    by false false k l e = let f = ap (λ (z : ℕ). z * g) e in omega arith

-- ---- the law
module _ (x q : Float) (f : T (fits binary64 x)) (far : Far x) (w : Whole q) where
  abbrev d : Float
  d = sub binary64 x (mul binary64 q HIGH)

  abbrev r : Float
  r = sub binary64 d (mul binary64 q LOW)

  abbrev k : Signed
  k = signed w.sign w.size

  q-on : On 1074 q k
  q-on = record { sign = w.sign; steps = w.size; value = w.value; same = refl }

  high-on : On 1024 (mul binary64 q HIGH) (times (2 ^ 22) (times 1686629713 k))
  unfolding q-on
  high-on =
      finer 22 1024 (mul binary64 q HIGH) (times 1686629713 k)
      (mul-on 1046 q HIGH k 1686629713 (lit≤ tt) q-on high_value (omega (arith, w.few)))

  low-on : On 1024 (mul binary64 q LOW) (times (2 ^ 3) (times 34211 k))
  unfolding q-on
  low-on =
      finer 3 1024 (mul binary64 q LOW) (times 34211 k) (mul-on 1027 q LOW k 34211 (lit≤ tt) q-on low_value (omega (arith, w.few)))

  module _ (i : Inside r) where
    r-fits : T (fits binary64 r)
    r-fits = sub-fits binary64 d (mul binary64 q LOW)

    r-known : T (finite r)
    r-known = inside-finite r r-fits i

    r_small : units_of r < 3537118876014220 * 2 ^ 1024
    r_small = lt_of_lt_of_le (inside-small r r-fits i) (le_of_eq pi-steps)

    d-known : T (finite d)
    d-known = (sub-finite binary64 d (mul binary64 q LOW) r-known).0

    x-known : T (finite x)
    x-known = (sub-finite binary64 x (mul binary64 q HIGH) d-known).0

    x-steps : (n : ℕ) × (units_of x ≡ n * 2 ^ 1024)
    x-steps =
        far-on 1024 x f x-known (le_trans (le_trans (lit≤ tt) (le_of_eq (sym tau_steps))) (far-size x f x-known far))

    abbrev a : Signed
    a = signed (sign_of x) x-steps.0

    x-on : On 1024 x a
    x-on = record { sign = sign_of x; steps = x-steps.0; value = subst (Units x (sign_of x)) x-steps.1 (own x f x-known); same = refl }

    d-on : On 1024 d (less_s a (times (2 ^ 22) (times 1686629713 k)))
    d-on =
        sub-seen 1024 (lit≤ tt) x (mul binary64 q HIGH) a (times (2 ^ 22) (times 1686629713 k)) x-on high-on d-known
        (d-size (units_of d) (units_of r) low-on.steps (2 ^ 1024)
        (sub-size d (mul binary64 q LOW) (sign_of d) low-on.sign (units_of d) (low-on.steps * 2 ^ 1024)
        (own d (sub-fits binary64 x (mul binary64 q HIGH)) d-known) low-on.value r-known)
        r_small
        (low-few low-on.sign w.sign low-on.steps w.size w.few low-on.same))

    r-on : On 1024 r (less_s (less_s a (times (2 ^ 22) (times 1686629713 k))) (times (2 ^ 3) (times 34211 k)))
    r-on =
        sub-seen 1024 (lit≤ tt) d (mul binary64 q LOW) (less_s a (times (2 ^ 22) (times 1686629713 k))) (times (2 ^ 3) (times 34211 k))
        d-on low-on r-known (r-size (units_of r) (2 ^ 1024) r_small)

    exact : Same (plus_s (value_of r) (times (units_of TAU) k)) (value_of x)
    exact =
        let v = r-on.value in
        let n = r-on.steps * 2 ^ 1024 in
        rw (sign-is r r-on.sign n v, units-are r r-on.sign n v, x-steps.1, tau_steps)
        (in_units r-on.sign (sign_of x) r-on.steps x-steps.0 (2 ^ 1024) 7074237752028440 k
        (left_over a (signed r-on.sign r-on.steps) k r-on.same))

    pub turned-reduced : r ≡ reduced x
    turned-reduced = settled x r k f x-known r-fits i exact
