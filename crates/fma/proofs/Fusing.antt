-- `fma` as the code meets it: over one denominator, where a factor or the addend is a zero, and where something is not finite. Assumes nothing.
use Rattle.std.proofs.Common.{◌≡◌, ℕ, ◌+◌, ◌-◌, ◌*◌, ◌/◌, ◌%◌, ◌^◌, ◌<◌, ◌≤◌, Bool, true, false, cond, not, ◌&&◌, ◌||◌, T, eqb, ltb, leb, ℤ, pos, sym, refl, ap, ◌∙◌, subst, inl, inr, true≢false, lt_irrefl, mod-lt, mul_assoc, mul_comm, eq-zero-or-pos, mul-pos, lt_of_not-le, zero-mul, mul-one, mul_left_comm, arith, lit<, eqb→eq, ltb→lt, lt→ltb, pow_pos}
use mathlib.Core.Bool.{beq}
use lib.Ieee.{Float, nan, inf, fin, binary64, up, down, unlike, round, sum, add, mul, eq, fits, is_nan, of_fields, of_bits, to_bits}
use lib.Ieee.Bits.{of_bits-to_bits}
use lib.Ieee.Exact.{HasValue}
use lib.Ieee.Fits.{up_pos, down_pos, round-fits, cond-fits, nan-fits, inf-fits, add-fits}
use lib.Ieee.Scale.{round_same, finite}
use Rattle.exact.proofs.Sum.{sum_same, sum_comm}
use Rattle.exact.proofs.Operation.{mul-rounds, add_rounds}
use Rattle.exact.proofs.Value.{rescale}
use Rattle.exact.proofs.Zeros.{round-zero, sum-of-one}
use Rattle.fma.specs.Fused.{fma, nonzero}
use Rattle.ieee.proofs.Bits.{bits_are}

-- ---- over one denominator
fma-is : (s t u : Bool) (m n w : ℕ) (e d g : ℤ) → fma binary64 (fin s m e) (fin t n d) (fin u w g) ≡ sum binary64 (unlike s t) (m * up e * (n * up d) * down g) u (w * up g * (down e * down d)) (down e * down d * down g)
unfolding fma
fma-is s t u m n w e d g = refl

denominator : (e d g : ℤ) → 0 < down e * down d * down g
denominator e d g = mul-pos (mul-pos (down_pos e) (down_pos d)) (down_pos g)

-- x is a / p, y is b / p, z is c / p: x y is a b / (p p), and z is c p / (p p)
product : (x y g a b d e p : ℕ) → x * p ≡ a * d → y * p ≡ b * e → x * y * g * (p * p) ≡ a * b * (d * e * g)
product x y g a b d e p h k =
    let l : x * y * g * (p * p) ≡ x * p * (y * p) * g = simp (mul_assoc, mul_comm, mul_left_comm) in
    let r : a * d * (b * e) * g ≡ a * b * (d * e * g) = simp (mul_assoc, mul_comm, mul_left_comm) in
    l ∙ (λ i. h i * k i * g) ∙ r

addend : (z q c g p : ℕ) → z * p ≡ c * g → z * q * (p * p) ≡ c * p * (q * g)
addend z q c g p h =
    let l : z * q * (p * p) ≡ z * p * (q * p) = simp (mul_assoc, mul_comm, mul_left_comm) in
    let r : c * g * (q * p) ≡ c * p * (q * g) = simp (mul_assoc, mul_comm, mul_left_comm) in
    l ∙ ap (λ (x : ℕ). x * (q * p)) h ∙ r

pub fma-at : (x y z : Float) (s t u : Bool) (a b c p : ℕ) → 0 < p → HasValue x s a p → HasValue y t b p → HasValue z u c p → fma binary64 x y z ≡ sum binary64 (unlike s t) (a * b) u (c * p) (p * p)
fma-at nan y z s t u a b c p P v w o = absurd v
fma-at (inf i) y z s t u a b c p P v w o = absurd v
fma-at (fin i m e) nan z s t u a b c p P v w o = absurd w
fma-at (fin i m e) (inf j) z s t u a b c p P v w o = absurd w
fma-at (fin i m e) (fin j n d) nan s t u a b c p P v w o = absurd o
fma-at (fin i m e) (fin j n d) (inf k) s t u a b c p P v w o = absurd o
fma-at (fin i m e) (fin j n d) (fin k l g) s t u a b c p P v w o =
    fma-is i j k m n l e d g
    ∙ (λ q. sum binary64 (unlike (v.0 q) (w.0 q)) (m * up e * (n * up d) * down g) (o.0 q) (l * up g * (down e * down d)) (down e * down d * down g))
    ∙ sum_same binary64 (unlike s t) u (m * up e * (n * up d) * down g) (l * up g * (down e * down d)) (down e * down d * down g) (a * b) (c * p) (p * p) (denominator e d g) (mul-pos P P)
    (product (m * up e) (n * up d) (down g) a b (down e) (down d) p v.1 w.1)
    (addend (l * up g) (down e * down d) c (down g) p o.1)

-- ---- a finite value over its own denominator
own : (s : Bool) (m : ℕ) (e : ℤ) → HasValue (fin s m e) s (m * up e) (down e)
own s m e = (refl, refl)

none-rounded : (s : Bool) (n c : ℕ) → n ≡ 0 → 0 < c → HasValue (round binary64 s n c) s 0 1
none-rounded s n c z C = subst (λ (x : Float). HasValue x s 0 1) (sym (ap (λ (x : ℕ). round binary64 s x c) z ∙ round-zero s c C)) (refl, refl)

-- ---- a product that is exactly zero, and something added
zero-product : (s t u : Bool) (m n w : ℕ) (e d g : ℤ) → m * up e * (n * up d) ≡ 0 → add binary64 (mul binary64 (fin s m e) (fin t n d)) (fin u w g) ≡ fma binary64 (fin s m e) (fin t n d) (fin u w g)
zero-product s t u m n w e d g z =
    let D = down e * down d in
    let P = m * up e * (n * up d) in
    let v : HasValue (mul binary64 (fin s m e) (fin t n d)) (unlike s t) 0 1 =
    subst (λ (x : Float). HasValue x (unlike s t) 0 1)
    (sym (mul-rounds binary64 (fin s m e) (fin t n d) s t (m * up e) (down e) (n * up d) (down d) (down_pos e) (down_pos d) (own s m e) (own t n d))) (none-rounded (unlike s t) P D z (mul-pos (down_pos e) (down_pos d))) in
    add_rounds binary64 (mul binary64 (fin s m e) (fin t n d)) (fin u w g) (unlike s t) u 0 (w * up g) (down g) (down_pos g)
    (rescale (mul binary64 (fin s m e) (fin t n d)) (unlike s t) 0 1 0 (down g) (lit< tt) (zero-mul 1 ∙ sym (zero-mul (down g))) v) (own u w g)
    ∙ sum_same binary64 (unlike s t) u 0 (w * up g) (down g) (P * down g) (w * up g * D) (D * down g) (down_pos g) (denominator e d g)
    (zero-mul (D * down g) ∙ sym (ap (λ (x : ℕ). x * down g * down g) z ∙ ap (λ (x : ℕ). x * down g) (zero-mul (down g)) ∙ zero-mul (down g)))
    (sym (mul_assoc (w * up g) D (down g)))
    ∙ sym (fma-is s t u m n w e d g)

-- ---- a product that is not zero, and a zero added
alone : (s t : Bool) (a c : ℕ) → 0 < a → sum binary64 s a t 0 c ≡ round binary64 s a c
alone s t a c h = sum_comm binary64 s t a 0 c ∙ sum-of-one t s a c h

product-alone : (s t u : Bool) (m n w : ℕ) (e d g : ℤ) → 0 < m * up e * (n * up d) → w ≡ 0 → mul binary64 (fin s m e) (fin t n d) ≡ fma binary64 (fin s m e) (fin t n d) (fin u w g)
product-alone s t u m n w e d g h z =
    let D = down e * down d in
    let P = m * up e * (n * up d) in
    mul-rounds binary64 (fin s m e) (fin t n d) s t (m * up e) (down e) (n * up d) (down d) (down_pos e) (down_pos d) (own s m e) (own t n d)
    ∙ round_same binary64 (unlike s t) P D (P * down g) (D * down g) (mul-pos (down_pos e) (down_pos d)) (denominator e d g) (mul_left_comm P D (down g) ∙ mul_comm D (P * down g))
    ∙ sym (alone (unlike s t) u (P * down g) (D * down g) (mul-pos h (down_pos g)))
    ∙ ap (λ (x : ℕ). sum binary64 (unlike s t) (P * down g) u x (D * down g)) (sym (ap (λ (x : ℕ). x * up g * D) z ∙ ap (λ (x : ℕ). x * D) (zero-mul (up g)) ∙ zero-mul D))
    ∙ sym (fma-is s t u m n w e d g)

-- ---- the code's test, x == 0.0
zero_bits : of_bits binary64 0 ≡ fin false 0 (pos 0)
unfolding of_bits
zero_bits = refl

level-zero : (x y : ℕ) (b : Bool) → (eqb x y && (b || eqb x 0)) ≡ true → x ≡ y
level-zero x y b h = eqb→eq x y (first (eqb x y) (b || eqb x 0) h)
  where
    first : (p q : Bool) → (p && q) ≡ true → T p
    first true q e = tt
    first false q e = absurd (true≢false (sym e))

none : (s : Bool) (m : ℕ) (e : ℤ) → eq (fin s m e) (fin false 0 (pos 0)) ≡ true → m * up e ≡ 0
unfolding eq
none s m e h = sym (mul-one (m * up e)) ∙ level-zero (m * up e * 1) (0 * 1 * down e) (beq s false) h ∙ zero-mul (down e)

pub at_zero : (s : Bool) (e : ℤ) → eq (fin s 0 e) (fin false 0 (pos 0)) ≡ true
unfolding eq
at_zero s e = both (0 * up e * 1) (0 * 1 * down e) (beq s false) (mul-one (0 * up e) ∙ zero-mul (up e)) (zero-mul (down e))
  where
    or-true : (b : Bool) → (true && (b || true)) ≡ true
    or-true true = refl
    or-true false = refl

    both : (x y : ℕ) (b : Bool) → x ≡ 0 → y ≡ 0 → (eqb x y && (b || eqb x 0)) ≡ true
    both x y b p q = ap (λ (z : ℕ). eqb z y && (b || eqb z 0)) p ∙ ap (λ (z : ℕ). eqb 0 z && (b || eqb 0 0)) q ∙ or-true b

is_zero : (s : Bool) (m : ℕ) (e : ℤ) → eq (fin s m e) (of_bits binary64 0) ≡ true → m ≡ 0
is_zero s m e h = elim (eq-zero-or-pos m) [ inl z ↦ z | inr p ↦ absurd (lt_irrefl 0 (subst (λ (x : ℕ). 0 < x) (none s m e (ap (eq (fin s m e)) (sym zero_bits) ∙ h)) (mul-pos p (up_pos e)))) ]

not-zero : (s : Bool) (m : ℕ) (e : ℤ) → eq (fin s m e) (of_bits binary64 0) ≡ false → 0 < m
not-zero s m e h = elim (eq-zero-or-pos m) [ inl z ↦ absurd (true≢false (sym (ap (λ (n : ℕ). eq (fin s n e) (fin false 0 (pos 0))) z ∙ at_zero s e) ∙ ap (eq (fin s m e)) (sym zero_bits) ∙ h)) | inr p ↦ p ]

pub nonzero-of : (x : Float) → T (finite x) → eq x (of_bits binary64 0) ≡ false → T (nonzero x)
nonzero-of nan f h = absurd f
nonzero-of (inf s) f h = absurd f
nonzero-of (fin s m e) f h = lt→ltb 0 m (not-zero s m e h)

-- ---- what the code answers where a factor, or the addend, is a zero
pub first-zero : (x y z : Float) → T (finite x) → T (finite y) → T (finite z) → eq x (of_bits binary64 0) ≡ true → add binary64 (mul binary64 x y) z ≡ fma binary64 x y z
first-zero nan y z f g h q = absurd f
first-zero (inf s) y z f g h q = absurd f
first-zero (fin s m e) nan z f g h q = absurd g
first-zero (fin s m e) (inf t) z f g h q = absurd g
first-zero (fin s m e) (fin t n d) nan f g h q = absurd h
first-zero (fin s m e) (fin t n d) (inf u) f g h q = absurd h
first-zero (fin s m e) (fin t n d) (fin u w k) f g h q =
    zero-product s t u m n w e d k (ap (λ (x : ℕ). x * up e * (n * up d)) (is_zero s m e q) ∙ ap (λ (x : ℕ). x * (n * up d)) (zero-mul (up e)) ∙ zero-mul (n * up d))

pub second-zero : (x y z : Float) → T (finite x) → T (finite y) → T (finite z) → eq y (of_bits binary64 0) ≡ true → add binary64 (mul binary64 x y) z ≡ fma binary64 x y z
second-zero nan y z f g h q = absurd f
second-zero (inf s) y z f g h q = absurd f
second-zero (fin s m e) nan z f g h q = absurd g
second-zero (fin s m e) (inf t) z f g h q = absurd g
second-zero (fin s m e) (fin t n d) nan f g h q = absurd h
second-zero (fin s m e) (fin t n d) (inf u) f g h q = absurd h
second-zero (fin s m e) (fin t n d) (fin u w k) f g h q =
    zero-product s t u m n w e d k
    (mul_comm (m * up e) (n * up d) ∙ ap (λ (x : ℕ). x * up d * (m * up e)) (is_zero t n d q) ∙ ap (λ (x : ℕ). x * (m * up e)) (zero-mul (up d)) ∙ zero-mul (m * up e))

pub third-zero : (x y z : Float) → T (nonzero x) → T (nonzero y) → T (finite z) → eq z (of_bits binary64 0) ≡ true → mul binary64 x y ≡ fma binary64 x y z
third-zero nan y z f g h q = absurd f
third-zero (inf s) y z f g h q = absurd f
third-zero (fin s m e) nan z f g h q = absurd g
third-zero (fin s m e) (inf t) z f g h q = absurd g
third-zero (fin s m e) (fin t n d) nan f g h q = absurd h
third-zero (fin s m e) (fin t n d) (inf u) f g h q = absurd h
third-zero (fin s m e) (fin t n d) (fin u w k) f g h q =
    product-alone s t u m n w e d k (mul-pos (mul-pos (ltb→lt 0 m f) (up_pos e)) (mul-pos (ltb→lt 0 n g) (up_pos d))) (is_zero u w k q)

-- ---- where something is not finite
pub third_wild : (x y z : Float) → T (finite x) → T (finite y) → false ≡ finite z → z ≡ fma binary64 x y z
unfolding fma
third_wild nan y z f g h = absurd f
third_wild (inf s) y z f g h = absurd f
third_wild (fin s m e) nan z f g h = absurd g
third_wild (fin s m e) (inf t) z f g h = absurd g
third_wild (fin s m e) (fin t n d) nan f g h = refl
third_wild (fin s m e) (fin t n d) (inf u) f g h = refl
third_wild (fin s m e) (fin t n d) (fin u w k) f g h = absurd (true≢false (sym h))

pub second_wild : (x y z : Float) → T (finite x) → false ≡ finite y → add binary64 (mul binary64 x y) z ≡ fma binary64 x y z
unfolding fma
second_wild nan y z f h = absurd f
second_wild (inf s) y z f h = absurd f
second_wild (fin s m e) nan z f h = refl
second_wild (fin s m e) (inf t) z f h = refl
second_wild (fin s m e) (fin t n d) z f h = absurd (true≢false (sym h))

pub first_wild : (x y z : Float) → false ≡ finite x → add binary64 (mul binary64 x y) z ≡ fma binary64 x y z
unfolding fma
first_wild nan y z h = refl
first_wild (inf s) y z h = refl
first_wild (fin s m e) y z h = absurd (true≢false (sym h))

-- ---- the result is a double
pub fma-fits : (x y z : Float) → T (fits binary64 (fma binary64 x y z))
unfolding fma sum
fma-fits nan y z = nan-fits binary64
fma-fits (inf s) y z = add-fits binary64 (mul binary64 (inf s) y) z
fma-fits (fin s m e) nan z = nan-fits binary64
fma-fits (fin s m e) (inf t) z = add-fits binary64 (mul binary64 (fin s m e) (inf t)) z
fma-fits (fin s m e) (fin t n d) nan = nan-fits binary64
fma-fits (fin s m e) (fin t n d) (inf u) = inf-fits binary64 u
fma-fits (fin s m e) (fin t n d) (fin u w g) = sum_fits (unlike s t) (m * up e * (n * up d) * down g) u (w * up g * (down e * down d)) (down e * down d * down g)
  where
    sum_fits : (i : Bool) (a : ℕ) (j : Bool) (b c : ℕ) → T (fits binary64 (sum binary64 i a j b c))
    sum_fits i a j b c =
        cond-fits binary64 (beq i j) (round binary64 i (a + b) c) (cond (ltb a b) (round binary64 j (b - a) c) (round binary64 (i && ltb b a) (a - b) c)) (round-fits binary64 i (a + b) c)
        (cond-fits binary64 (ltb a b) (round binary64 j (b - a) c) (round binary64 (i && ltb b a) (a - b) c) (round-fits binary64 j (b - a) c) (round-fits binary64 (i && ltb b a) (a - b) c))

-- ---- the bits of a double that is finite and not zero
pub not-nan : (x : Float) → T (nonzero x) → T (not (is_nan x))
unfolding is_nan
not-nan nan h = absurd h
not-nan (inf s) h = absurd h
not-nan (fin s m e) h = tt

zero-fields : (s : Bool) → T (nonzero (of_fields binary64 s 0 0)) → ⊥
unfolding of_fields
zero-fields s h = h

top-fields : (s : Bool) (t : ℕ) → T (nonzero (of_fields binary64 s 2047 t)) → ⊥
unfolding of_fields
top-fields s t h = by (eqb t 0) h
  where
    by : (b : Bool) → T (nonzero (cond b (inf s) nan)) → ⊥
    by true h = h
    by false h = h

pub bits_range : (x : Float) → T (nonzero x) → T (fits binary64 x) → (0 < to_bits binary64 x % 2 ^ 63) × (to_bits binary64 x % 2 ^ 63 < 2047 * 2 ^ 52)
bits_range x h f = range (to_bits binary64 x) (subst (λ (y : Float). T (nonzero y)) (sym (of_bits-to_bits binary64 x f) ∙ bits_are (to_bits binary64 x) (to_bits binary64 x % 2 ^ 63 / 2 ^ 52) (to_bits binary64 x % 2 ^ 52) refl refl) h)
  where
    digits-zero : (b : ℕ) → b % 2 ^ 63 ≡ 0 → b % 2 ^ 52 ≡ 0
    digits-zero b e = omega arith

    field_top : (r : ℕ) → r < 2 ^ 63 → 2047 * 2 ^ 52 ≤ r → r / 2 ^ 52 ≡ 2047
    field_top r l g = omega arith

    range : (b : ℕ) → T (nonzero (of_fields binary64 (leb (2 ^ 63) b) (b % 2 ^ 63 / 2 ^ 52) (b % 2 ^ 52))) → (0 < b % 2 ^ 63) × (b % 2 ^ 63 < 2047 * 2 ^ 52)
    range b n =
        let s = leb (2 ^ 63) b in (
          elim (eq-zero-or-pos (b % 2 ^ 63)) [
            | inl z ↦ absurd (zero-fields s (subst (λ (t : ℕ). T (nonzero (of_fields binary64 s 0 t))) (digits-zero b z) (subst (λ (e : ℕ). T (nonzero (of_fields binary64 s (e / 2 ^ 52) (b % 2 ^ 52)))) z n)))
            | inr p ↦ p
          ],
          lt_of_not-le (λ (g : 2047 * 2 ^ 52 ≤ b % 2 ^ 63). top-fields s (b % 2 ^ 52) (subst (λ (e : ℕ). T (nonzero (of_fields binary64 s e (b % 2 ^ 52)))) (field_top (b % 2 ^ 63) (mod-lt b (pow_pos 63)) g) n)),
        )
