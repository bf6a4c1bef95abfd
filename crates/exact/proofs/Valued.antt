-- Sums, differences and products of doubles as rounded signed numbers, where the result is finite: then the operands are too. A product is taken over
-- multiples of 2 ^ i and 2 ^ j units whose exact product is a whole number of units. And a rounded number that is not 0 is one double. Assumes nothing.
use mathlib.Core.Path.{◌≡◌, refl, sym, ap, ◌∙◌, subst}
use mathlib.Core.Bool.{Bool, true, false, not, cond, beq}
use Prim.Native.Nat.{ℕ, ◌+◌, ◌-◌, ◌*◌, ◌^◌, ◌<◌, compare, Ordering}
use native.Mathlib.Nat.{mul-pos, mul_assoc, mul_comm, lt_of_le_of_lt, le_of_eq}
use native.Mathlib.Omega.{arith}
use lib.Dec.{T, eqb}
use lib.Pow.{pow-add, pow_pos}
use lib.Ieee.{Float, nan, inf, fin, Format, binary64, fits, unlike, round, sum, units, neg, add, sub, mul}
use lib.Ieee.Exact.{units_val}
use lib.Ieee.Fits.{round_is, round-fits}
use lib.Ieee.Order.{drop, kept}
use lib.Ieee.Scale.{grid, finite, round_same}
use Rattle.exact.specs.Value.{Units, sign_of, units_of, value_of}
use Rattle.exact.specs.Signed.{Signed, Same, signed, times, plus_s, less_s, times_s, mag}
use Rattle.exact.specs.Rounds.{rnd, Rounds}
use Rattle.exact.proofs.Order.{Stands, compared}
use Rattle.exact.proofs.Value.{own, unique, units-are, sign-is}
use Rattle.exact.proofs.Sum.{sum_like, sum_first, sum-second, sum-none}
use Rattle.exact.proofs.Operation.{add_rounds, sub-rounds, mul-rounds}
use Rattle.exact.proofs.Rounding.{round-value}
use Rattle.exact.proofs.Signed.{alike}
use Rattle.exact.proofs.Few.{few-of, units-below}
use Rattle.exact.proofs.Sizes.{mag_same, mag-signed, mag-by, same-via, same-product, signed_product, factors-out, factor-off}
use Rattle.exact.proofs.Nearest.{grid-is}
use Rattle.exact.proofs.Rounds.{Double, double-signed, rounds-at}

pub value-is : (x : Float) (s : Bool) (n : ℕ) → Units x s n → value_of x ≡ signed s n
value-is x s n h = λ i. signed (sign-is x s n h i) (units-are x s n h i)

pub double-of : (x : Float) → T (fits binary64 x) → T (finite x) → Double (value_of x)
double-of x f t = double-signed (sign_of x) (units_of x) (few-of x f t)

-- ---- a result is finite only where both operands are
pub add-finite : (f : Format) (x y : Float) → T (finite (add f x y)) → T (finite x) × T (finite y)
unfolding add
add-finite f nan y t = absurd t
add-finite f (inf s) nan t = absurd t
add-finite f (inf true) (inf true) t = absurd t
add-finite f (inf true) (inf false) t = absurd t
add-finite f (inf false) (inf true) t = absurd t
add-finite f (inf false) (inf false) t = absurd t
add-finite f (inf s) (fin j n d) t = absurd t
add-finite f (fin s m e) nan t = absurd t
add-finite f (fin s m e) (inf j) t = absurd t
add-finite f (fin s m e) (fin j n d) t = (tt, tt)

pub sub-finite : (f : Format) (x y : Float) → T (finite (sub f x y)) → T (finite x) × T (finite y)
unfolding sub neg
sub-finite f x nan t = ((add-finite f x nan t).0, (add-finite f x nan t).1)
sub-finite f x (inf s) t = ((add-finite f x (inf (not s)) t).0, (add-finite f x (inf (not s)) t).1)
sub-finite f x (fin s m e) t = ((add-finite f x (fin (not s) m e) t).0, tt)

wild : (b j : Bool) → T (finite (cond b nan (inf j))) → ⊥
wild true j t = t
wild false j t = t

pub mul-finite : (f : Format) (x y : Float) → T (finite (mul f x y)) → T (finite x) × T (finite y)
unfolding mul
mul-finite f nan y t = absurd t
mul-finite f (inf s) nan t = absurd t
mul-finite f (inf s) (inf j) t = absurd t
mul-finite f (inf s) (fin j n d) t = absurd (wild (eqb n 0) (unlike s j) t)
mul-finite f (fin s m e) nan t = absurd t
mul-finite f (fin s m e) (inf j) t = absurd (wild (eqb m 0) (unlike s j) t)
mul-finite f (fin s m e) (fin j n d) t = (tt, tt)

-- ---- r is x, rounded, with a sign also where x is 0
pub record Result (r : Float) (x : Signed) : Type 0 where
  pub sign : Bool
  pub size : ℕ
  pub is : r ≡ round binary64 sign size (2 ^ 1074)
  pub same : Same (signed sign size) x

pub result_as : (r : Float) (x y : Signed) → Same x y → Result r x → Result r y
result_as r x y e h = record { sign = h.sign; size = h.size; is = h.is; same = same-via (signed h.sign h.size) x y h.same e }

pub result-rounds : (r : Float) (x : Signed) → Result r x → T (finite r) → Rounds x (value_of r)
result-rounds r x h t = subst (λ (z : Float). Rounds x (value_of z)) (sym h.is) (by h.sign h.size h.same (subst (λ (z : Float). T (finite z)) h.is t))
  where
    by : (s : Bool) (n : ℕ) → Same (signed s n) x → T (finite (round binary64 s n (2 ^ 1074))) → Rounds x (value_of (round binary64 s n (2 ^ 1074)))
    by s n e t =
        let q = 2 ^ 1074 in
        let v = value-is (round binary64 s n q) s (grid binary64 n q) (round-value s n q t) in
        let g : grid binary64 n q ≡ rnd n = grid-is n q (pow_pos 1074) in
        record { sign = s; size = n; from = sym e; to = subst (λ (z : Signed). Same z (signed s (rnd n))) (sym (v ∙ ap (signed s) g)) refl }

-- ---- a sum and a difference
module _ (a b : ℕ) where
  abbrev Sum : Bool → Bool → Type 0
  Sum s t = Result (sum binary64 s a t b (2 ^ 1074)) (plus_s (signed s a) (signed t b))

  like : (s t : Bool) → beq s t ≡ true → Same (signed s (a + b)) (plus_s (signed s a) (signed t b)) → Sum s t
  like s t e same = record { sign = s; size = a + b; is = sum_like binary64 s t a b (2 ^ 1074) e; same = same }

  differ : (s t : Bool) → beq s t ≡ false → (a < b → Same (signed t (b - a)) (plus_s (signed s a) (signed t b))) → (b < a → Same (signed s (a - b)) (plus_s (signed s a) (signed t b)))
      → (a ≡ b → Same (signed false 0) (plus_s (signed s a) (signed t b))) → Sum s t
  differ s t e less more none = by (compare a b) (compared a b)
    where
      by : (o : Ordering) → Stands o a b → Sum s t
      by Ordering.lt l = record { sign = t; size = b - a; is = sum-second binary64 s t a b (2 ^ 1074) e l; same = less l }
      by Ordering.eq l = record { sign = false; size = 0; is = sum-none binary64 s t a b (2 ^ 1074) e l; same = none l }
      by Ordering.gt l = record { sign = s; size = a - b; is = sum_first binary64 s t a b (2 ^ 1074) e l; same = more l }

  pub sum-result : (s t : Bool) → Sum s t
  sum-result true true = like true true refl (omega arith)
  sum-result false false = like false false refl (omega arith)
  sum-result true false = differ true false refl (λ l. omega arith) (λ l. omega arith) (λ l. omega arith)
  sum-result false true = differ false true refl (λ l. omega arith) (λ l. omega arith) (λ l. omega arith)

module _ (x y : Float) (f : T (fits binary64 x)) (g : T (fits binary64 y)) where
  pub add-value : T (finite (add binary64 x y)) → Rounds (plus_s (value_of x) (value_of y)) (value_of (add binary64 x y))
  add-value t =
      let o = add-finite binary64 x y t in
      let e = add_rounds binary64 x y (sign_of x) (sign_of y) (units_of x) (units_of y) (2 ^ 1074) (pow_pos 1074) (own x f o.0) (own y g o.1) in
      result-rounds (add binary64 x y) (plus_s (value_of x) (value_of y))
      (subst (λ (r : Float). Result r (plus_s (value_of x) (value_of y))) (sym e) (sum-result (units_of x) (units_of y) (sign_of x) (sign_of y))) t

  pub sub-value : T (finite (sub binary64 x y)) → Rounds (less_s (value_of x) (value_of y)) (value_of (sub binary64 x y))
  sub-value t =
      let o = sub-finite binary64 x y t in
      let e = sub-rounds binary64 x y (sign_of x) (sign_of y) (units_of x) (units_of y) (2 ^ 1074) (pow_pos 1074) (own x f o.0) (own y g o.1) in
      result-rounds (sub binary64 x y) (less_s (value_of x) (value_of y))
      (result_as (sub binary64 x y) (plus_s (value_of x) (signed (not (sign_of y)) (units_of y))) (less_s (value_of x) (value_of y)) (turned (sign_of y) (units_of y))
      (subst (λ (r : Float). Result r (plus_s (value_of x) (signed (not (sign_of y)) (units_of y)))) (sym e) (sum-result (units_of x) (units_of y) (sign_of x) (not (sign_of y))))) t
    where
      turned : (s : Bool) (n : ℕ) → Same (plus_s (value_of x) (signed (not s) n)) (less_s (value_of x) (signed s n))
      turned true n = refl
      turned false n = refl

-- ---- a product of multiples of powers of two
pub record OnStep (x : Float) (i : ℕ) (u : Signed) : Type 0 where
  pub fit : T (fits binary64 x)
  pub here : T (finite x)
  pub value : Same (value_of x) (times (2 ^ i) u)

module _ (x y : Float) (i j k : ℕ) (u w : Signed) (f : OnStep x i u) (g : OnStep y j w) (e : i + j ≡ 1074 + k) where
  abbrev exact : Signed
  exact = times (2 ^ k) (times_s u w)

  abbrev sign : Bool
  sign = unlike (sign_of x) (sign_of y)

  whole : Same (signed sign (units_of x * units_of y)) (times (2 ^ 1074) exact)
  whole =
      same-via (signed sign (units_of x * units_of y)) (times_s (times (2 ^ i) u) (times (2 ^ j) w)) (times (2 ^ 1074) exact)
      (same-via (signed sign (units_of x * units_of y)) (times_s (value_of x) (value_of y)) (times_s (times (2 ^ i) u) (times (2 ^ j) w))
      (sym (signed_product (sign_of x) (sign_of y) (units_of x) (units_of y)))
      (same-product (value_of x) (value_of y) (times (2 ^ i) u) (times (2 ^ j) w) f.value g.value))
      (same-via (times_s (times (2 ^ i) u) (times (2 ^ j) w)) (times (2 ^ i * 2 ^ j) (times_s u w)) (times (2 ^ 1074) exact)
      (factors-out (2 ^ i) (2 ^ j) u w)
      (deep (2 ^ i * 2 ^ j) (2 ^ 1074) (2 ^ k) (times_s u w) (sym (pow-add 2 i j) ∙ ap (λ (z : ℕ). 2 ^ z) e ∙ pow-add 2 1074 k)))
    where
      deep : (a b c : ℕ) (z : Signed) → a ≡ b * c → Same (times a z) (times b (times c z))
      deep a b c z e = by z.plus z.less
        where
          by : (p q : ℕ) → a * p + b * (c * q) ≡ b * (c * p) + a * q
          by p q =
              let m : a * p ≡ b * c * p = ap (λ (n : ℕ). n * p) e in
              let l : a * q ≡ b * c * q = ap (λ (n : ℕ). n * q) e in
              omega arith

  sizes : units_of x * units_of y ≡ mag exact * 2 ^ 1074
  sizes = sym (mag-signed sign (units_of x * units_of y)) ∙ mag_same (signed sign (units_of x * units_of y)) (times (2 ^ 1074) exact) whole ∙ mag-by (2 ^ 1074) exact ∙ mul_comm (2 ^ 1074) (mag exact)

  pub product-scaled : units_of x * units_of y * 2 ^ 1074 ≡ mag exact * (2 ^ 1074 * 2 ^ 1074)
  product-scaled = ap (λ (z : ℕ). z * 2 ^ 1074) sizes ∙ mul_assoc (mag exact) (2 ^ 1074) (2 ^ 1074)

  pub product-same : Same (signed sign (mag exact)) exact
  product-same = factor-off (2 ^ 1074) (signed sign (mag exact)) exact (pow_pos 1074) (by sign (units_of x * units_of y) (mag exact) (2 ^ 1074) (times (2 ^ 1074) exact) sizes whole)
    where
      by : (s : Bool) (n m c : ℕ) (z : Signed) → n ≡ m * c → Same (signed s n) z → Same (times c (signed s m)) z
      by true n m c z e h = omega arith
      by false n m c z e h = omega arith

  pub mul_is : mul binary64 x y ≡ round binary64 sign (mag exact) (2 ^ 1074)
  mul_is =
      let q = 2 ^ 1074 in
      let p = pow_pos 1074 in
      mul-rounds binary64 x y (sign_of x) (sign_of y) (units_of x) q (units_of y) q p p (own x f.fit f.here) (own y g.fit g.here)
      ∙ round_same binary64 sign (units_of x * units_of y) (q * q) (mag exact) q (mul-pos p p) p product-scaled

  pub mul-value : T (finite (mul binary64 x y)) → Rounds exact (value_of (mul binary64 x y))
  mul-value = result-rounds (mul binary64 x y) exact record { sign = sign; size = mag exact; is = mul_is; same = product-same }

-- ---- a finite double that is a number rounded, and is not 0, is what `round` answers
at-grid : (s : Bool) (n : ℕ) → rnd n < 2 ^ 2098 → Units (round binary64 s n (2 ^ 1074)) s (rnd n)
at-grid s n h =
    let q = 2 ^ 1074 in
    let g = grid-is n q (pow_pos 1074) in
    subst (λ (z : Float). Units z s (rnd n)) (sym (round_is binary64 s n q))
    (subst (λ (z : ℕ). Units (units binary64 s (kept 53 (n * q) q) (drop 53 (n * q) q)) s z) g
    (units_val binary64 s (kept 53 (n * q) q) (drop 53 (n * q) q) (lt_of_le_of_lt (le_of_eq g) h)))

pub result-is : (r z : Float) (x : Signed) → T (fits binary64 r) → T (finite r) → Rounds x (value_of r) → 0 < units_of r → Result z x → r ≡ z
result-is r z x f t h p w =
    let s = w.sign in
    let n = w.size in
    let o = alike (sign_of r) s (units_of r) (rnd n) p (rounds-at x (value_of r) s n h (sym w.same)) in
    unique r (round binary64 s n (2 ^ 1074)) s (rnd n) (2 ^ 1074) (pow_pos 1074) f (round-fits binary64 s n (2 ^ 1074))
    (subst (λ (z : ℕ). Units r s z) o.1 (subst (λ (b : Bool). Units r b (units_of r)) o.0 (own r f t)))
    (at-grid s n (lt_of_le_of_lt (le_of_eq (sym o.1)) (units-below r f t)))
    ∙ sym w.is
