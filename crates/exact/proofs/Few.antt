-- The sizes that a double can have, in units: at most 53 binary digits and a shift. The remainder of two of them is one again, and so is
-- their difference where it is at most the smaller one: over one shift one of the two keeps its digits, and neither result has more. So
-- these two operations are exact. Assumes nothing.
use mathlib.Core.Path.{◌≡◌, sym, ap, ◌∙◌, subst}
use mathlib.Core.Logic.{◌⊎◌, inl, inr}
use mathlib.Core.Bool.{Bool, true, false, not}
use Prim.Native.Nat.{ℕ, ◌+◌, ◌-◌, ◌*◌, ◌/◌, ◌%◌, ◌^◌, ◌≤◌, ◌<◌}
use native.Mathlib.Nat.{le_of_lt, lt_of_le_of_lt, lt_of_lt_of_le, eq-zero-or-pos, mul-lt-mul_of_pos_right, lt_of_mul-lt-mul_right}
use native.Mathlib.Nat.{le_of_mul-le-mul_right, zero-mul, mul_assoc, mul_right_comm, add-mul, sub-le}
use native.Mathlib.Nat.{mod-lt, mod-le, div-add-mod'}
use native.Mathlib.Omega.{arith}
use lib.Arith.{digits_mod}
use lib.Dec.{T, leb, leb→le, nleb→lt}
use lib.Pow.{pow_pos}
use lib.Ieee.{Float, nan, inf, fin, binary64, fits, round, up, down}
use lib.Ieee.Scale.{finite}
use Rattle.exact.specs.Value.{Units, sign_of, units_of}
use Rattle.exact.proofs.Naturals.{sub-mul}
use Rattle.exact.proofs.Value.{held, pow-split, digits_of, units-are, own}
use Rattle.exact.proofs.Rounding.{round-none}

pub record Few (n : ℕ) : Type 0 where
  pub digits : ℕ
  pub shift : ℕ
  pub few : digits < 2 ^ 53
  pub is : n ≡ digits * 2 ^ shift

-- ---- a double's size is such a number, below 2 ^ 1024; and each such number is a double's
pub value-finite : (x : Float) (s : Bool) (n : ℕ) → Units x s n → T (finite x)
value-finite nan s n v = v
value-finite (inf t) s n v = v
value-finite (fin t m e) s n v = tt

pub few-of : (x : Float) → T (fits binary64 x) → T (finite x) → Few (units_of x)
few-of x f t =
    let d = digits_of x f t in
    record {
      digits = d.digits;
      shift = d.shift;
      few = d.few;
      is = units-are x (sign_of x) (d.digits * 2 ^ d.shift) d.value;
    }

pub units-below : (x : Float) → T (fits binary64 x) → T (finite x) → units_of x < 2 ^ 2098
units-below nan f t = absurd t
units-below (inf s) f t = absurd t
units-below (fin s m e) f t =
    below (m * up e) (down e) (2 ^ 1074) (2 ^ 1024) (units_of (fin s m e)) (pow_pos 1074) (held s m e f).high (own (fin s m e) f t).1
  where
    below : (a d q h n : ℕ) → 0 < q → a < h * d → a * q ≡ n * d → n < h * q
    below a d q h n p l e =
        lt_of_mul-lt-mul_right d
        (subst (λ (z : ℕ). z < h * q * d) e (subst (λ (z : ℕ). a * q < z) (mul_right_comm h d q) (mul-lt-mul_of_pos_right l p)))

pub few-value : (s : Bool) (n : ℕ) → Few n → n < 2 ^ 2098 → Units (round binary64 s n (2 ^ 1074)) s n
few-value s n w l =
    subst (λ (z : ℕ). Units (round binary64 s n (2 ^ 1074)) s z) (sym w.is)
    (round-none s n (2 ^ 1074) w.digits w.shift (pow_pos 1074) w.few (ap (λ (z : ℕ). z * 2 ^ 1074) w.is)
    (subst (λ (z : ℕ). z < 2 ^ 2098) w.is l))

-- ---- two of them over one shift
record Common (a b : ℕ) : Type 0 where
  shift : ℕ
  first : ℕ
  second : ℕ
  few : (first < 2 ^ 53) ⊎ (second < 2 ^ 53)
  a-is : a ≡ first * 2 ^ shift
  b-is : b ≡ second * 2 ^ shift

-- d 2 ^ j over the smaller shift k
lower : (n d j k : ℕ) → k ≤ j → n ≡ d * 2 ^ j → n ≡ d * 2 ^ (j - k) * 2 ^ k
lower n d j k h e = e ∙ ap (λ (z : ℕ). d * z) (sym (pow-split k j h)) ∙ sym (mul_assoc d (2 ^ (j - k)) (2 ^ k))

common : (a b : ℕ) → Few a → Few b → Common a b
common a b v w = by (leb w.shift v.shift) (leb→le w.shift v.shift) (nleb→lt w.shift v.shift)
  where
    by : (c : Bool) → (T c → w.shift ≤ v.shift) → (T (not c) → v.shift < w.shift) → Common a b
    by true g _ =
        record {
          shift = w.shift;
          first = v.digits * 2 ^ (v.shift - w.shift);
          second = w.digits;
          few = inr w.few;
          a-is = lower a v.digits v.shift w.shift (g tt) v.is;
          b-is = w.is;
        }
    by false _ g =
        record {
          shift = v.shift;
          first = v.digits;
          second = w.digits * 2 ^ (w.shift - v.shift);
          few = inl v.few;
          a-is = v.is;
          b-is = lower b w.digits w.shift v.shift (le_of_lt (g tt)) w.is;
        }

-- ---- the remainder
pub mod_scale : (a b c : ℕ) → 0 < b → 0 < c → a * c % (b * c) ≡ a % b * c
mod_scale a b c B C =
    ap (λ (n : ℕ). n % (b * c))
    (ap (λ (n : ℕ). n * c) (sym (div-add-mod' a b)) ∙ add-mul (a / b * b) (a % b) c ∙ ap (λ (n : ℕ). n + a % b * c) (mul_assoc (a / b) b c))
    ∙ digits_mod (a / b) (mul-lt-mul_of_pos_right (mod-lt a B) C)

some : (b q p : ℕ) → b ≡ q * p → 0 < b → 0 < q
some b q p e h = elim (eq-zero-or-pos q) [ inl z ↦ absurd (none (sym (e ∙ ap (λ (n : ℕ). n * p) z ∙ zero-mul p)) h) | inr g ↦ g ]
  where
    none : 0 ≡ b → 0 < b → ⊥
    none e h = omega arith

pub few_mod : (a b : ℕ) → Few a → Few b → 0 < b → Few (a % b)
few_mod a b v w B =
    let c = common a b v w in
    let Q = some b c.second (2 ^ c.shift) c.b-is B in
    record {
      digits = c.first % c.second;
      shift = c.shift;
      few = elim c.few [
        | inl h ↦ lt_of_le_of_lt (mod-le c.first c.second) h
        | inr h ↦ lt_of_lt_of_le (mod-lt c.first Q) (le_of_lt h)
      ];
      is =
          ap (λ (n : ℕ). n % b) c.a-is
          ∙ ap (λ (n : ℕ). c.first * 2 ^ c.shift % n) c.b-is
          ∙ mod_scale c.first c.second (2 ^ c.shift) Q (pow_pos c.shift);
    }

-- ---- a close difference
pub few-sub : (a b : ℕ) → Few a → Few b → b ≤ a * 2 → Few (b - a)
few-sub a b v w h =
    let c = common a b v w in
    let l : c.second ≤ c.first * 2 =
    le_of_mul-le-mul_right (close c.first c.second (2 ^ c.shift) c.a-is c.b-is) (pow_pos c.shift) in
    record {
      digits = c.second - c.first;
      shift = c.shift;
      few = elim c.few [
        | inl g ↦ less c.first c.second (2 ^ 53) l g
        | inr g ↦ lt_of_le_of_lt (sub-le c.second c.first) g
      ];
      is =
          ap (λ (n : ℕ). n - a) c.b-is
          ∙ ap (λ (n : ℕ). c.second * 2 ^ c.shift - n) c.a-is
          ∙ sym (sub-mul c.second c.first (2 ^ c.shift));
    }
  where
    close : (p q u : ℕ) → a ≡ p * u → b ≡ q * u → q * u ≤ p * 2 * u
    close p q u e g = omega arith

    less : (p q k : ℕ) → q ≤ p * 2 → p < k → q - p < k
    less p q k l g = omega arith
