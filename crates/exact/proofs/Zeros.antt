-- A zero in a sum or a product. Beside a zero every number stays but the other zero; of two zeros the sum is -0 where both are. Assumes nothing.
use mathlib.Core.Path.{◌≡◌, refl, sym, ap, ◌∙◌, subst}
use mathlib.Core.Logic.{inl, inr}
use mathlib.Core.Bool.{Bool, true, false, ◌&&◌, beq, true≢false}
use Prim.Native.Nat.{ℕ, zero, suc, ◌+◌, ◌-◌, ◌*◌, ◌^◌, ◌≤◌, ◌<◌, compare, Ordering}
use native.Mathlib.Nat.{eq-zero-or-pos, zero-mul, mul-one, one-mul, mul_comm, mul-pos, zero-add, zero-lt-suc, sub-zero}
use native.Mathlib.Omega.{arith}
use lib.Dec.{T}
use lib.IntN.{ℤ}
use lib.Pow.{pow_pos}
use lib.Ieee.{Float, nan, inf, fin, binary64, up, down, unlike, round, sum, add, mul, fits, of_bits}
use lib.Ieee.Fits.{up_pos, down_pos, add-fits}
use lib.Ieee.Scale.{finite, grid, round_same}
use Rattle.exact.specs.Doubles.{nought, minus_nought, zero_of, beside_zero, plain_zero}
use Rattle.exact.specs.Value.{sign_of, units_of}
use Rattle.exact.proofs.Order.{Stands, compared}
use Rattle.exact.proofs.Sum.{sum_like, sum_first, sum-second, sum-none, sum_comm}
use Rattle.exact.proofs.Operation.{add_rounds}
use Rattle.exact.proofs.Rounding.{round-part}
use Rattle.exact.proofs.Unit.{rounds-back}
use Rattle.exact.proofs.Truth.{and-false, like-plus}
use Rattle.exact.proofs.Value.{own, units-are, zero_is}

pub round-zero : (s : Bool) (c : ℕ) → 0 < c → round binary64 s 0 c ≡ zero_of s
unfolding round
round-zero s c h = round_same binary64 s 0 c 0 1 h (zero-lt-suc 0) (zero-mul 1 ∙ sym (zero-mul c)) ∙ refl

-- ---- sums

pub add_comm : (x y : Float) → add binary64 x y ≡ add binary64 y x
unfolding add
add_comm nan nan = refl
add_comm nan (inf t) = refl
add_comm nan (fin t n d) = refl
add_comm (inf s) nan = refl
add_comm (inf true) (inf true) = refl
add_comm (inf true) (inf false) = refl
add_comm (inf false) (inf true) = refl
add_comm (inf false) (inf false) = refl
add_comm (inf s) (fin t n d) = refl
add_comm (fin s m e) nan = refl
add_comm (fin s m e) (inf t) = refl
add_comm (fin s m e) (fin t n d) =
    sum_comm binary64 s t (m * up e * down d) (n * up d * down e) (down e * down d)
    ∙ ap (λ (c : ℕ). sum binary64 t (n * up d * down e) s (m * up e * down d) c) (mul_comm (down e) (down d))

pub sum-of-one : (s t : Bool) (b c : ℕ) → 0 < b → sum binary64 s 0 t b c ≡ round binary64 t b c
sum-of-one true true b c h = sum_like binary64 true true 0 b c refl ∙ ap (λ (n : ℕ). round binary64 true n c) (zero-add b)
sum-of-one true false b c h = sum-second binary64 true false 0 b c refl h ∙ ap (λ (n : ℕ). round binary64 false n c) (sub-zero b)
sum-of-one false true b c h = sum-second binary64 false true 0 b c refl h ∙ ap (λ (n : ℕ). round binary64 true n c) (sub-zero b)
sum-of-one false false b c h = sum_like binary64 false false 0 b c refl ∙ ap (λ (n : ℕ). round binary64 false n c) (zero-add b)

sum-of-none : (s t : Bool) (c : ℕ) → 0 < c → sum binary64 s 0 t 0 c ≡ zero_of (s && t)
sum-of-none true true c h = sum_like binary64 true true 0 0 c refl ∙ round-zero true c h
sum-of-none true false c h = sum-none binary64 true false 0 0 c refl refl ∙ round-zero false c h
sum-of-none false true c h = sum-none binary64 false true 0 0 c refl refl ∙ round-zero false c h
sum-of-none false false c h = sum_like binary64 false false 0 0 c refl ∙ round-zero false c h

added : (s t : Bool) (n : ℕ) (d : ℤ) → add binary64 (zero_of s) (fin t n d) ≡ sum binary64 s 0 t (n * up d) (down d)
unfolding add
added s t n d = rw (zero-mul (down d), mul-one (n * up d), one-mul (down d))

-- two zeros; a zero and a number that is none, however written
pub two-zeros : (s t : Bool) (d : ℤ) → add binary64 (zero_of s) (fin t zero d) ≡ zero_of (s && t)
two-zeros s t d = added s t zero d ∙ ap (λ (n : ℕ). sum binary64 s 0 t n (down d)) (zero-mul (up d)) ∙ sum-of-none s t (down d) (down_pos d)

pub zero-and-some : (s t : Bool) (n : ℕ) (d : ℤ) → add binary64 (zero_of s) (fin t (suc n) d) ≡ round binary64 t (suc n * up d) (down d)
zero-and-some s t n d = added s t (suc n) d ∙ sum-of-one s t (suc n * up d) (down d) (mul-pos (zero-lt-suc n) (up_pos d))

-- any double beside a zero
pub beside-zero : (s : Bool) (x : Float) → T (fits binary64 x) → add binary64 (zero_of s) x ≡ beside_zero s x
unfolding add
beside-zero s nan f = refl
beside-zero s (inf t) f = refl
beside-zero s (fin t zero d) f = two-zeros s t d
beside-zero s (fin t (suc n) d) f =
    let x = fin t (suc n) d in
    rounds-back x (add binary64 (zero_of s) x) f tt (add-fits binary64 (zero_of s) x)
    (zero-and-some s t n d ∙ round_same binary64 t (suc n * up d) (down d) (units_of x) (2 ^ 1074) (down_pos d) (pow_pos 1074) (own x f tt).1)

-- x + 0.0 is x, or +0 where x is a zero
pub plus-zero : (x : Float) → T (fits binary64 x) → add binary64 x nought ≡ plain_zero x
unfolding of_bits
plus-zero x f = add_comm x nought ∙ beside-zero false x f

pub beside-fits : (s : Bool) (x : Float) → T (fits binary64 x) → T (fits binary64 (beside_zero s x))
unfolding fits
beside-fits s nan f = tt
beside-fits s (inf t) f = tt
beside-fits s (fin t zero d) f = tt
beside-fits s (fin t (suc n) d) f = f

pub beside-plain : (s : Bool) (x : Float) → plain_zero (beside_zero s x) ≡ plain_zero x
beside-plain s nan = refl
beside-plain s (inf t) = refl
beside-plain s (fin t zero d) = refl
beside-plain s (fin t (suc n) d) = refl

-- x + -0.0 is x
as_written : (t : Bool) (d : ℤ) → T (fits binary64 (fin t zero d)) → fin t zero d ≡ zero_of t
as_written t d f = zero_is (fin t zero d) f tt (units-are (fin t zero d) t 0 (refl, ap (λ (n : ℕ). n * 2 ^ 1074) (zero-mul (up d)) ∙ zero-mul (2 ^ 1074) ∙ sym (zero-mul (down d))))

pub beside-minus : (x : Float) → T (fits binary64 x) → beside_zero true x ≡ x
beside-minus nan f = refl
beside-minus (inf t) f = refl
beside-minus (fin t zero d) f = sym (as_written t d f)
beside-minus (fin t (suc n) d) f = refl

-- what is not -0 is the same beside either zero
pub beside-either : (s t : Bool) (x : Float) → T (fits binary64 x) → (x ≡ minus_nought → ⊥) → beside_zero s x ≡ beside_zero t x
unfolding of_bits
beside-either s t nan f h = refl
beside-either s t (inf u) f h = refl
beside-either s t (fin true zero d) f h = absurd (h (as_written true d f))
beside-either s t (fin false zero d) f h = ap zero_of (and-false s ∙ sym (and-false t))
beside-either s t (fin u (suc n) d) f h = refl

pub plus-minus : (x : Float) → T (fits binary64 x) → add binary64 x minus_nought ≡ x
unfolding of_bits
plus-minus x f = add_comm x minus_nought ∙ beside-zero true x f ∙ beside-minus x f

-- ---- a sum is -0 only where both terms are
some_left : (s t : Bool) (n : ℕ) → 0 < n → round binary64 s n (2 ^ 1074) ≡ zero_of t → ⊥
some_left s t n p e =
    let r = round-part s n (subst (λ (z : Float). T (finite z)) (sym e) tt) in
    clash (grid binary64 n (2 ^ 1074)) (sym (units-are (round binary64 s n (2 ^ 1074)) s (grid binary64 n (2 ^ 1074)) r.0) ∙ ap units_of e) r.1.under
  where
    clash : (v : ℕ) → v ≡ 0 → n * 2 ^ 53 ≤ v * 2 ^ 53 + n → ⊥
    clash v z h = omega arith

unlike-sum : (s t : Bool) (a b : ℕ) → beq s t ≡ false → sum binary64 s a t b (2 ^ 1074) ≡ zero_of true → ⊥
unlike-sum s t a b d e = by (compare a b) (compared a b)
  where
    some : (m n : ℕ) → m < n → 0 < n - m
    some m n h = omega arith

    by : (o : Ordering) → Stands o a b → ⊥
    by Ordering.lt l = some_left t true (b - a) (some a b l) (sym (sum-second binary64 s t a b (2 ^ 1074) d l) ∙ e)
    by Ordering.eq l = true≢false (ap sign_of (sym e ∙ sum-none binary64 s t a b (2 ^ 1074) d l ∙ round-zero false (2 ^ 1074) (pow_pos 1074)))
    by Ordering.gt l = some_left s true (a - b) (some b a l) (sym (sum_first binary64 s t a b (2 ^ 1074) d l) ∙ e)

minus-sum : (s t : Bool) (a b : ℕ) → sum binary64 s a t b (2 ^ 1074) ≡ zero_of true → (s ≡ true) × (t ≡ true) × (a + b ≡ 0)
minus-sum true true a b e = (refl, refl, elim (eq-zero-or-pos (a + b)) [ inl z ↦ z | inr p ↦ absurd (some_left true true (a + b) p (sym (sum_like binary64 true true a b (2 ^ 1074) refl) ∙ e)) ])
minus-sum false false a b e =
    absurd
    (elim (eq-zero-or-pos (a + b)) [
      | inl z ↦ true≢false (ap sign_of (sym (sym (sum_like binary64 false false a b (2 ^ 1074) refl) ∙ e) ∙ ap (λ (n : ℕ). round binary64 false n (2 ^ 1074)) z ∙ round-zero false (2 ^ 1074) (pow_pos 1074)))
      | inr p ↦ some_left false true (a + b) p (sym (sum_like binary64 false false a b (2 ^ 1074) refl) ∙ e)
    ])
minus-sum true false a b e = absurd (unlike-sum true false a b refl e)
minus-sum false true a b e = absurd (unlike-sum false true a b refl e)

pub minus-only : (x y : Float) → T (fits binary64 x) → T (finite x) → T (fits binary64 y) → T (finite y) → add binary64 x y ≡ zero_of true → (x ≡ zero_of true) × (y ≡ zero_of true)
minus-only x y f t g u e =
    let m = minus-sum (sign_of x) (sign_of y) (units_of x) (units_of y) (sym (add_rounds binary64 x y (sign_of x) (sign_of y) (units_of x) (units_of y) (2 ^ 1074) (pow_pos 1074) (own x f t) (own y g u)) ∙ e) in
    (zero_is x f t (left (units_of x) (units_of y) m.2) ∙ ap zero_of m.0, zero_is y g u (right (units_of x) (units_of y) m.2) ∙ ap zero_of m.1)
  where
    left : (a b : ℕ) → a + b ≡ 0 → a ≡ 0
    left a b h = omega arith

    right : (a b : ℕ) → a + b ≡ 0 → b ≡ 0
    right a b h = omega arith

-- ---- products: a zero times a finite number is a zero, 0.0 times a finite number the zero with its sign, and times any other NaN

pub none-times : (s : Bool) (x : Float) → T (finite x) → mul binary64 (zero_of s) x ≡ zero_of (unlike s (sign_of x))
unfolding mul
none-times s nan h = absurd h
none-times s (inf t) h = absurd h
none-times s (fin t n d) h = ap (λ (m : ℕ). round binary64 (unlike s t) m (1 * down d)) (zero-mul (n * up d)) ∙ round-zero (unlike s t) (1 * down d) (mul-pos (zero-lt-suc 0) (down_pos d))

pub nought-times : (x : Float) → T (finite x) → mul binary64 nought x ≡ zero_of (sign_of x)
unfolding of_bits
nought-times x h = none-times false x h ∙ ap zero_of (like-plus (sign_of x))

pub nought-times_wild : (x : Float) → finite x ≡ false → mul binary64 nought x ≡ nan
unfolding mul of_bits
nought-times_wild nan h = refl
nought-times_wild (inf s) h = refl
nought-times_wild (fin t n d) h = absurd (true≢false h)
