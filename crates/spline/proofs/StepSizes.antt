-- How large a step's numbers can be: the share of a difference in one that is no smaller is at most 1 in size, 1 - share then at most 2, and the sum
-- of the two products at most 4 times the larger of the two numbers blended. Each bound is a power of two, so that no rounding goes past it.
-- Assumes nothing.
use Rattle.std.proofs.Common.{◌≡◌, ℕ, suc, ◌+◌, ◌-◌, ◌*◌, ◌^◌, ◌<◌, ◌≤◌, Bool, true, false, cond, ◌&&◌, T, ltb, sym, refl, ap, ◌∙◌, subst, le_trans, le_of_eq, lt_of_lt_of_le, mul-le-mul_right, mul_assoc, mul_comm, mul-le-mul, mul-pos, one-mul, mul_left_comm, arith, lit<, lit≤, pow_pos}
use mathlib.Core.Bool.{beq}
use native.Mathlib.Nat.{pow-succ'}
use lib.Pow.{pow-lt}
use lib.Ieee.{Float, nan, inf, fin, binary64, fits, unlike, round, sum, add, sub, neg, mul, div, eq, of_bits}
use lib.Ieee.Fits.{round-fits, neg-fits}
use lib.Ieee.Bits.{is_true}
use lib.Ieee.Exact.{HasValue}
use lib.Ieee.Scale.{finite, round_same}
use Rattle.exact.specs.Doubles.{nought, one}
use Rattle.exact.specs.Value.{AtMost, Units, sign_of, units_of}
use Rattle.exact.proofs.Value.{own, units-are}
use Rattle.exact.proofs.Rounding.{round-none}
use Rattle.exact.proofs.Finite.{smaller-finite, smaller-units}
use Rattle.exact.proofs.Few.{value-finite}
use Rattle.exact.proofs.Operation.{add_rounds, mul-rounds, div-rounds}
use Rattle.exact.proofs.Compare.{some}
use Rattle.spline.specs.Spline.{alpha_of, share, blend_of}

-- ---- a fraction of at most 2 ^ k units rounds to at most 2 ^ k units
pub round-most : (s : Bool) (a c k : ℕ) → 0 < c → k < 2098 → a * 2 ^ 1074 ≤ 2 ^ k * c → AtMost (2 ^ k) (round binary64 s a c)
round-most s a c k C K h =
    let q = 2 ^ 1074 in
    let Q = mul-pos C (pow_pos 1074) in
    let same : round binary64 s a c ≡ round binary64 s (a * q) (c * q) = round_same binary64 s a c (a * q) (c * q) C Q (turn a c q) in
    let value : Units (round binary64 s (2 ^ k * c) (c * q)) s (1 * 2 ^ k) =
    round-none s (2 ^ k * c) (c * q) 1 k Q (lit< tt) (whole (2 ^ k) c q) (subst (λ (n : ℕ). n < 2 ^ 2098) (sym (one-mul (2 ^ k))) (pow-lt K)) in
    let top = value-finite (round binary64 s (2 ^ k * c) (c * q)) s (1 * 2 ^ k) value in
    record {
      fit = round-fits binary64 s a c;
      known = subst (λ (z : Float). T (finite z)) (sym same) (smaller-finite s s (a * q) (2 ^ k * c) (c * q) Q h top);
      small = subst (λ (z : Float). units_of z ≤ 2 ^ k) (sym same)
          (le_trans (smaller-units s s (a * q) (2 ^ k * c) (c * q) Q h top)
          (le_of_eq (units-are (round binary64 s (2 ^ k * c) (c * q)) s (1 * 2 ^ k) value ∙ one-mul (2 ^ k))));
    }
  where
    turn : (a c q : ℕ) → a * (c * q) ≡ a * q * c
    turn a c q = simp (mul_assoc, mul_comm)

    whole : (p c q : ℕ) → p * c * q ≡ 1 * p * (c * q)
    whole p c q = mul_assoc p c q ∙ ap (λ (n : ℕ). n * (c * q)) (sym (one-mul p))

more : {m n : ℕ} {z : Float} → m ≤ n → AtMost m z → AtMost n z
more h w = record { fit = w.fit; known = w.known; small = le_trans w.small h }

pub known-finite : {m : ℕ} {z : Float} → AtMost m z → finite z ≡ true
known-finite {m} {z} w = is_true (finite z) w.known

value_of : {m : ℕ} {z : Float} → AtMost m z → Units z (sign_of z) (units_of z)
value_of {m} {z} w = own z w.fit w.known

neg-most : (m : ℕ) (z : Float) → AtMost m z → AtMost m (neg z)
unfolding neg
neg-most m nan w = w
neg-most m (inf s) w = absurd w.known
neg-most m (fin s n e) w = record { fit = neg-fits binary64 (fin s n e) w.fit; known = tt; small = w.small }

-- ---- a sum of signed fractions: one rounding of the sizes' sum or difference
abbrev pub gap : Bool → ℕ → ℕ → ℕ
gap l a b = cond l (b - a) (a - b)

abbrev pub sum_size : Bool → ℕ → Bool → ℕ → ℕ
sum_size s a t b = cond (beq s t) (a + b) (gap (ltb a b) a b)

gap-round : (l y z : Bool) (a b c : ℕ)
    → (w : Bool) × (cond l (round binary64 y (b - a) c) (round binary64 z (a - b) c) ≡ round binary64 w (gap l a b) c)
gap-round true y z a b c = (y, refl)
gap-round false y z a b c = (z, refl)

pub sum-round : (s : Bool) (a : ℕ) (t : Bool) (b c : ℕ) → (w : Bool) × (sum binary64 s a t b c ≡ round binary64 w (sum_size s a t b) c)
unfolding sum
sum-round true a true b c = (true, refl)
sum-round false a false b c = (false, refl)
sum-round true a false b c = gap-round (ltb a b) false (ltb b a) a b c
sum-round false a true b c = gap-round (ltb a b) true false a b c

gap-size : (l : Bool) (a b : ℕ) → gap l a b ≤ a + b
gap-size true a b = omega arith
gap-size false a b = omega arith

pub sum-size : (s : Bool) (a : ℕ) (t : Bool) (b : ℕ) → sum_size s a t b ≤ a + b
sum-size true a true b = omega arith
sum-size false a false b = omega arith
sum-size true a false b = gap-size (ltb a b) a b
sum-size false a true b = gap-size (ltb a b) a b

pub twice : (j : ℕ) → 2 ^ suc j ≡ 2 * 2 ^ j
twice j = pow-succ' 2 j

add_most : (j : ℕ) {x y : Float} → suc j < 2098 → AtMost (2 ^ j) x → AtMost (2 ^ j) y → AtMost (2 ^ suc j) (add binary64 x y)
add_most j {x} {y} J v w =
    let q = 2 ^ 1074 in
    let a = units_of x in
    let b = units_of y in
    let n = sum_size (sign_of x) a (sign_of y) b in
    let r = sum-round (sign_of x) a (sign_of y) b q in
    subst (AtMost (2 ^ suc j)) (sym (add_rounds binary64 x y (sign_of x) (sign_of y) a b q (pow_pos 1074) (value_of v) (value_of w) ∙ r.1))
    (round-most r.0 n q (suc j) (pow_pos 1074) J
    (mul-le-mul_right q (most n a b (2 ^ j) (2 ^ suc j) (sum-size (sign_of x) a (sign_of y) b) v.small w.small (twice j))))
  where
    most : (n a b p t : ℕ) → n ≤ a + b → a ≤ p → b ≤ p → t ≡ 2 * p → n ≤ t
    most n a b p t h v w e = omega arith

sub-most : (j : ℕ) {x y : Float} → suc j < 2098 → AtMost (2 ^ j) x → AtMost (2 ^ j) y → AtMost (2 ^ suc j) (sub binary64 x y)
unfolding sub
sub-most j {x} {y} J v w = add_most j J v (neg-most (2 ^ j) y w)

-- ---- a product with a factor of at most 2
mul_most : (j : ℕ) {x y : Float} → suc j < 2098 → AtMost (2 ^ 1075) x → AtMost (2 ^ j) y → AtMost (2 ^ suc j) (mul binary64 x y)
mul_most j {x} {y} J v w =
    let q = 2 ^ 1074 in
    let a = units_of x in
    let b = units_of y in
    subst (AtMost (2 ^ suc j))
    (sym (mul-rounds binary64 x y (sign_of x) (sign_of y) a q b q (pow_pos 1074) (pow_pos 1074) (value_of v) (value_of w)))
    (round-most (unlike (sign_of x) (sign_of y)) (a * b) (q * q) (suc j) (mul-pos (pow_pos 1074) (pow_pos 1074)) J
    (most a b q (2 ^ 1075) (2 ^ j) (2 ^ suc j) v.small w.small (twice 1074) (twice j)))
  where
    regroup : (q p : ℕ) → 2 * q * p * q ≡ 2 * p * (q * q)
    regroup q p = simp (mul_assoc, mul_comm, mul_left_comm)

    most : (a b q d p t : ℕ) → a ≤ d → b ≤ p → d ≡ 2 * q → t ≡ 2 * p → a * b * q ≤ t * (q * q)
    most a b q d p t h g e f =
        le_trans (mul-le-mul_right q (mul-le-mul h g))
        (le_of_eq (ap (λ (n : ℕ). n * p * q) e ∙ regroup q p ∙ ap (λ (n : ℕ). n * (q * q)) (sym f)))

-- ---- a quotient of two over one denominator
over-one : (x y : Float) (s t : Bool) (a b c : ℕ) → 0 < b → 0 < c → HasValue x s a c → HasValue y t b c
    → div binary64 x y ≡ round binary64 (unlike s t) a b
over-one x y s t a b c B C v w =
    div-rounds binary64 x y s t a c b c B C C v w ∙ round_same binary64 (unlike s t) (a * c) (c * b) a b (mul-pos C B) B (mul_assoc a c b)

-- ---- the share of a difference in one that is no smaller
zero-most : AtMost (2 ^ 1074) nought
unfolding of_bits fits
zero-most = record { fit = tt; known = tt; small = lit≤ tt }

one-most : AtMost (2 ^ 1074) one
unfolding of_bits fits
one-most = record { fit = tt; known = tt; small = lit≤ tt }

alpha_most : (m : ℕ) (f w : Float) → AtMost m f → AtMost m w → units_of f ≤ units_of w → AtMost (2 ^ 1074) (alpha_of f w)
alpha_most m f w u v h = by (eq f nought) (eq w nought) refl refl
  where
    quotient : 0 < units_of w → AtMost (2 ^ 1074) (div binary64 f w)
    quotient W =
        let q = 2 ^ 1074 in
        let a = units_of f in
        let b = units_of w in
        subst (AtMost q) (sym (over-one f w (sign_of f) (sign_of w) a b q W (pow_pos 1074) (value_of u) (value_of v)))
        (round-most (unlike (sign_of f) (sign_of w)) a b 1074 W (lit< tt) (le_trans (mul-le-mul_right q h) (le_of_eq (mul_comm b q))))

    by : (s t : Bool) → eq f nought ≡ s → eq w nought ≡ t → AtMost (2 ^ 1074) (cond (s && t) nought (div binary64 f w))
    by true true p q = zero-most
    by true false p q = quotient (some w v.fit v.known q)
    by false t p q = quotient (lt_of_lt_of_le (some f u.fit u.known p) h)

-- ---- a step
module _ (x lo hi a b : Float) (m j : ℕ) (J : suc (suc j) < 2098) where
  pub step_tame : AtMost m (sub binary64 x lo) → AtMost m (sub binary64 hi lo) → units_of (sub binary64 x lo) ≤ units_of (sub binary64 hi lo)
      → AtMost (2 ^ j) a → AtMost (2 ^ j) b → AtMost (2 ^ suc (suc j)) (blend_of x lo hi a b)
  unfolding blend_of
  step_tame f w h v u =
      let z : AtMost (2 ^ 1074) (share x lo hi) = alpha_most m (sub binary64 x lo) (sub binary64 hi lo) f w h in
      let l : suc j < 2098 = omega arith in
      add_most (suc j) J (mul_most j l (sub-most 1074 (lit< tt) one-most z) v) (mul_most j l (more (lit≤ tt) z) u)
