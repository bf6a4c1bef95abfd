-- Every finite double is a whole number of units: 53 binary digits at most, shifted; and its units and its sign are all there is to it. Assumes nothing.
use mathlib.Core.Path.{◌≡◌, refl, sym, ap, ◌∙◌, subst}
use mathlib.Core.Bool.{Bool, not, cond, ◌&&◌}
use Prim.Native.Nat.{ℕ, zero, suc, ◌+◌, ◌-◌, ◌*◌, ◌/◌, ◌%◌, ◌^◌, ◌≤◌, ◌<◌}
use native.Mathlib.Nat.{le_of_eq, le_of_suc-le-suc, lt_of_not-le, not-le_of_lt, mul_assoc, mul-one, one-mul, mul_right_comm, mul-div_cancel, sub-add_cancel, eq_of_mul-eq-mul_right}
use lib.Dec.{T, eqb, ltb, leb, eqb→eq, ltb→lt, leb→le, lit<, lit≤}
use lib.IntN.{ℤ, pos, negsuc}
use lib.Pow.{pow-add, pow-lt, pow_pos}
use lib.Ieee.{Float, nan, inf, fin, binary64, up, down, size, fits, neg, of_bits, to_bits}
use lib.Ieee.Fits.{down_pos, and_l, and_r}
use lib.Ieee.Bits.{of_bits-to_bits}
use lib.Ieee.Exact.{HasValue}
use lib.Ieee.Nearest.{div_same}
use lib.Ieee.Scale.{finite}
use Rattle.exact.specs.Value.{Units, sign_of, units_of}

-- ---- one value, as two fractions
pub rescale : (x : Float) (s : Bool) (a c b d : ℕ) → 0 < c → b * c ≡ a * d → HasValue x s a c → HasValue x s b d
rescale nan s a c b d C h v = v
rescale (inf t) s a c b d C h v = v
rescale (fin t m e) s a c b d C h v = (
  v.0,
  eq_of_mul-eq-mul_right c C (m * up e * d) (b * down e)
      (mul_right_comm (m * up e) d c
      ∙ ap (λ (x : ℕ). x * d) v.1
      ∙ mul_right_comm a (down e) d
      ∙ ap (λ (x : ℕ). x * down e) (sym h)
      ∙ mul_right_comm b c (down e)),
)

pub scale : (x : Float) (s : Bool) (a c p : ℕ) → HasValue x s a c → HasValue x s (a * p) (c * p)
scale nan s a c p v = v
scale (inf t) s a c p v = v
scale (fin t m e) s a c p v = (v.0, sym (mul_assoc (m * up e) c p) ∙ ap (λ (x : ℕ). x * p) v.1 ∙ mul_right_comm a (down e) p)

pub neg_value : (x : Float) (s : Bool) (a c : ℕ) → HasValue x s a c → HasValue (neg x) (not s) a c
unfolding neg
neg_value nan s a c v = v
neg_value (inf t) s a c v = v
neg_value (fin t m e) s a c v = (ap not v.0, v.1)

-- ---- what `fits binary64` says of a finite value
pub record Held (m : ℕ) (e : ℤ) : Type 0 where
  pub few : m < 2 ^ 53
  pub low : down e ≤ 2 ^ 1074
  pub high : m * up e < 2 ^ 1024 * down e

pub held : (s : Bool) (m : ℕ) (e : ℤ) → T (fits binary64 (fin s m e)) → Held m e
unfolding fits
held s zero (pos k) t = record { few = lit< tt; low = lit≤ tt; high = subst (λ (x : ℕ). x < 2 ^ 1024 * 1) (sym (native.Mathlib.Nat.zero-mul (2 ^ k))) (lit< tt) }
held s zero (negsuc k) t = absurd (big k (eqb→eq (1 * 2 ^ suc k) 1 t))
  where
    big : (k : ℕ) → 1 * 2 ^ suc k ≡ 1 → ⊥
    big k e = not-le_of_lt (pow-lt {i = 0} {j = suc k} (native.Mathlib.Nat.zero-lt-suc k)) (le_of_eq (sym (one-mul (2 ^ suc k)) ∙ e))
held s (suc m) e t =
    let odd = eqb (suc m % 2) 1 in
    let few = ltb (suc m) (2 ^ 53) in
    let low = leb (down e) (2 ^ 1074) in
    let high = ltb (suc m * up e) (2 ^ 1024 * down e) in
    let front = and_l (odd && few && low) high t in
    record {
      few = ltb→lt (suc m) (2 ^ 53) (and_r odd few (and_l (odd && few) low front));
      low = leb→le (down e) (2 ^ 1074) (and_r (odd && few) low front);
      high = ltb→lt (suc m * up e) (2 ^ 1024 * down e) (and_r (odd && few && low) high t);
    }

-- ---- a whole number of units, m * 2 ^ shift
pub pow-split : (h l : ℕ) → h ≤ l → 2 ^ (l - h) * 2 ^ h ≡ 2 ^ l
pow-split h l k = sym (pow-add 2 (l - h) h) ∙ ap (λ (n : ℕ). 2 ^ n) (sub-add_cancel k)

pub pow-back : (h l : ℕ) → 2 ^ h ≤ 2 ^ l → h ≤ l
pow-back h l k = le_of_suc-le-suc (lt_of_not-le (λ (g : suc l ≤ h). not-le_of_lt (pow-lt g) k))

pub shifted : (m : ℕ) (e : ℤ) → down e ≤ 2 ^ 1074 → (j : ℕ) × (m * up e * 2 ^ 1074 ≡ m * 2 ^ j * down e)
shifted m (pos k) h = (k + 1074, mul_assoc m (2 ^ k) (2 ^ 1074) ∙ ap (λ (z : ℕ). m * z) (sym (pow-add 2 k 1074)) ∙ sym (mul-one (m * 2 ^ (k + 1074))))
shifted m (negsuc k) h = (
  1074 - suc k,
  ap (λ (z : ℕ). z * 2 ^ 1074) (mul-one m) ∙ ap (λ (z : ℕ). m * z) (sym (pow-split (suc k) 1074 (pow-back (suc k) 1074 h))) ∙ sym (mul_assoc m (2 ^ (1074 - suc k)) (2 ^ suc k)),
)

-- a finite double: its sign, at most 53 digits, and their shift
pub record Digits (x : Float) : Type 0 where
  pub digits : ℕ
  pub shift : ℕ
  pub few : digits < 2 ^ 53
  pub value : Units x (sign_of x) (digits * 2 ^ shift)

pub digits_of : (x : Float) → T (fits binary64 x) → T (finite x) → Digits x
digits_of nan f t = absurd t
digits_of (inf s) f t = absurd t
digits_of (fin s m e) f t =
    let h = held s m e f in
    let j = shifted m e h.low in
    record { digits = m; shift = j.0; few = h.few; value = (refl, j.1) }

-- ---- the units and the sign of a value are its own
pub units-are : (x : Float) (s : Bool) (n : ℕ) → Units x s n → units_of x ≡ n
units-are nan s n v = absurd v
units-are (inf t) s n v = absurd v
units-are (fin t m e) s n v = ap (λ (z : ℕ). z / down e) v.1 ∙ mul-div_cancel n (down_pos e)

pub sign-is : (x : Float) (s : Bool) (n : ℕ) → Units x s n → sign_of x ≡ s
sign-is nan s n v = absurd v
sign-is (inf t) s n v = absurd v
sign-is (fin t m e) s n v = v.0

pub own : (x : Float) → T (fits binary64 x) → T (finite x) → Units x (sign_of x) (units_of x)
own x f t =
    let d = digits_of x f t in
    subst (λ (n : ℕ). Units x (sign_of x) n) (sym (units-are x (sign_of x) (d.digits * 2 ^ d.shift) d.value)) d.value

-- ---- two doubles of one sign and one size are one double: the bits written for n units tell all
abbrev pattern_of : Bool → ℕ → ℕ
pattern_of s n = cond s (2 ^ 63) 0 + (size n - 53) * 2 ^ 52 + n / 2 ^ (size n - 53)

bits_at : (x : Float) (s : Bool) (a c : ℕ) → 0 < c → HasValue x s a c → to_bits binary64 x ≡ pattern_of s (a * 2 ^ 1074 / c)
unfolding to_bits
bits_at nan s a c C v = absurd v
bits_at (inf t) s a c C v = absurd v
bits_at (fin t m e) s a c C v =
    let n : m * up e * 2 ^ 1074 / down e ≡ a * 2 ^ 1074 / c =
    div_same (m * up e * 2 ^ 1074) (down e) (a * 2 ^ 1074) c (down_pos e) C
    (mul_right_comm (m * up e) (2 ^ 1074) c ∙ ap (λ (z : ℕ). z * 2 ^ 1074) v.1 ∙ mul_right_comm a (down e) (2 ^ 1074)) in
    λ i. pattern_of (v.0 i) (n i)

pub bits_are : (x : Float) (s : Bool) (n : ℕ) → Units x s n → to_bits binary64 x ≡ cond s (2 ^ 63) 0 + (size n - 53) * 2 ^ 52 + n / 2 ^ (size n - 53)
bits_are x s n v = bits_at x s n (2 ^ 1074) (pow_pos 1074) v ∙ ap (pattern_of s) (mul-div_cancel n (pow_pos 1074))

pub unique : (x y : Float) (s : Bool) (a c : ℕ) → 0 < c → T (fits binary64 x) → T (fits binary64 y) → HasValue x s a c → HasValue y s a c → x ≡ y
unique x y s a c C p q v w =
    sym (of_bits-to_bits binary64 x p) ∙ ap (of_bits binary64) (bits_at x s a c C v ∙ sym (bits_at y s a c C w)) ∙ of_bits-to_bits binary64 y q

-- a zero
zero-fits : (s : Bool) → T (fits binary64 (fin s 0 (pos 0)))
unfolding fits
zero-fits s = tt

pub zero_is : (x : Float) → T (fits binary64 x) → T (finite x) → units_of x ≡ 0 → x ≡ fin (sign_of x) 0 (pos 0)
zero_is x f t z =
    unique x (fin (sign_of x) 0 (pos 0)) (sign_of x) 0 (2 ^ 1074) (pow_pos 1074) f (zero-fits (sign_of x)) (rw z at (own x f t)) (refl, refl)
