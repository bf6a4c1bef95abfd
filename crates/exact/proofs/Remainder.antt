-- The remainder `rem` of finite values: that of their sizes over one denominator, with the first one's sign. Of doubles it is exact.
-- Assumes nothing.
use mathlib.Core.Path.{◌≡◌, sym, ap, ◌∙◌, subst}
use mathlib.Core.Bool.{Bool, cond}
use Prim.Native.Nat.{ℕ, zero, suc, ◌*◌, ◌%◌, ◌^◌, ◌<◌}
use native.Mathlib.Nat.{lt_of_le_of_lt, lt_irrefl, zero-lt-suc, mul_assoc, mul_comm, mul_right_comm, mul-pos, zero-mul, mod-le}
use lib.Dec.{T, eqb, eqb-suc-zero}
use lib.Pow.{pow_pos}
use lib.Ieee.{Float, nan, inf, fin, Format, binary64, up, down, round, rem, fits}
use lib.Ieee.Fits.{up_pos, down_pos}
use lib.Ieee.Exact.{HasValue}
use lib.Ieee.Scale.{finite, round_same}
use Rattle.exact.specs.Value.{Units, sign_of, units_of}
use Rattle.exact.proofs.Value.{own}
use Rattle.exact.proofs.Few.{mod_scale, few-of, few_mod, few-value, units-below}

-- ---- the divisor is not zero
some : (n u b c d : ℕ) → 0 < b → 0 < d → n * u * c ≡ b * d → 0 < n
some zero u b c d B D e =
    absurd (lt_irrefl 0 (subst (λ (z : ℕ). 0 < z) (sym e ∙ ap (λ (z : ℕ). z * c) (zero-mul u) ∙ zero-mul c) (mul-pos B D)))
some (suc n) u b c d B D e = zero-lt-suc n

tested : (n : ℕ) (x y : Float) → 0 < n → cond (eqb n 0) x y ≡ y
tested zero x y h = absurd (lt_irrefl 0 h)
tested (suc n) x y h = ap (λ (b : Bool). cond b x y) (eqb-suc-zero n)

-- ---- x / d and a / c are one fraction, and so are y / d and b / c
crossed : (x y a b c d : ℕ) → 0 < c → 0 < d → 0 < y → 0 < b → x * c ≡ a * d → y * c ≡ b * d → x % y * c ≡ a % b * d
crossed x y a b c d C D Y B p q = sym (mod_scale x y c Y C) ∙ ap (λ (z : ℕ). z % (y * c)) p ∙ ap (λ (z : ℕ). a * d % z) q ∙ mod_scale a b d B D

pub rem-rounds : (f : Format) (x y : Float) (s t : Bool) (a b c : ℕ) → 0 < c → 0 < b → HasValue x s a c → HasValue y t b c
    → rem f x y ≡ round f s (a % b) c
unfolding rem
rem-rounds f nan y s t a b c C B v w = absurd v
rem-rounds f (inf u) y s t a b c C B v w = absurd v
rem-rounds f (fin u m e) nan s t a b c C B v w = absurd w
rem-rounds f (fin u m e) (inf j) s t a b c C B v w = absurd w
rem-rounds f (fin u m e) (fin j n g) s t a b c C B v w =
    let d = down e * down g in
    let D : 0 < d = mul-pos (down_pos e) (down_pos g) in
    let N : 0 < n = some n (up g) b c (down g) B (down_pos g) w.1 in
    let x = m * up e * down g in
    let y = n * up g * down e in
    let p : x * c ≡ a * d = mul_right_comm (m * up e) (down g) c ∙ ap (λ (z : ℕ). z * down g) v.1 ∙ mul_assoc a (down e) (down g) in
    let q : y * c ≡ b * d =
    mul_right_comm (n * up g) (down e) c
    ∙ ap (λ (z : ℕ). z * down e) w.1
    ∙ mul_assoc b (down g) (down e)
    ∙ ap (λ (z : ℕ). b * z) (mul_comm (down g) (down e)) in
    tested n nan (round f u (x % y) d) N
    ∙ (λ i. round f (v.0 i) (x % y) d)
    ∙ round_same f s (x % y) d (a % b) c D C (crossed x y a b c d C D (mul-pos (mul-pos N (up_pos g)) (down_pos e)) B p q)

-- THE REMAINDER IS EXACT, in units
pub rem-exact : (x y : Float) → T (fits binary64 x) → T (finite x) → T (fits binary64 y) → T (finite y) → 0 < units_of y
    → Units (rem binary64 x y) (sign_of x) (units_of x % units_of y)
rem-exact x y f t g u h =
    let a = units_of x in
    let b = units_of y in
    subst (λ (z : Float). Units z (sign_of x) (a % b))
    (sym (rem-rounds binary64 x y (sign_of x) (sign_of y) a b (2 ^ 1074) (pow_pos 1074) h (own x f t) (own y g u)))
    (few-value (sign_of x) (a % b) (few_mod a b (few-of x f t) (few-of y g u) h) (lt_of_le_of_lt (mod-le a b) (units-below x f t)))
