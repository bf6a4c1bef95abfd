-- What a bit pattern of binary64 stands for, in units of 2 ^ -1074. A value is written in one way only, so a function that works on the bits is proved by the value of the pattern
-- that it makes (`value_low`, `value-normal`, `value-carried`). `no_nan` says which patterns are no NaN's. Assumes nothing.
use Rattle.std.proofs.Common.{◌≡◌, ℕ, suc, ◌+◌, ◌-◌, ◌*◌, ◌/◌, ◌%◌, ◌^◌, ◌<◌, ◌≤◌, Bool, true, false, cond, not, T, eqb, ltb, leb, sym, refl, ap, ◌∙◌, subst, inl, inr, lt_of_lt_of_le, le-add_right, lt_irrefl, mod-lt, mul_assoc, eq-or-lt_of_le, mul-pos, mul-one, arith, lit≤, eqb→eq, ltb→lt, nltb→le, pow_pos, pow_mono, shl_lt}
use native.Mathlib.Nat.{pow-succ'}
use lib.Bits.{bit_and, and_mask}
use lib.Arith.{le→nltb}
use lib.Ieee.{Float, nan, inf, binary64, fits, is_nan, odd, of_fields, of_bits, to_bits, nan_bits}
use lib.Ieee.Exact.{odd_sign}
use lib.Ieee.Bits.{of_bits-to_bits, nan_bits_is, nan_bits_above}
use lib.Ieee.Scale.{finite}
use Rattle.exact.specs.Value.{Units}
use Rattle.exact.proofs.Naturals.{below_or}

pub no_nan : (b : ℕ) → b % 2 ^ 63 ≤ 2047 * 2 ^ 52 → T (not (nan_bits binary64 b))
no_nan b h = subst (λ (t : Bool). T (not t)) (sym (nan_bits_above binary64 b)) (le→nltb (2047 * 2 ^ 52) (b % 2 ^ 63) h)

-- ---- the exponent's field, as the code works it out

pub field : (b : ℕ) → bit_and b 0x7fff_ffff_ffff_ffff / 2 ^ 52 ≡ b % 2 ^ 63 / 2 ^ 52
field b = ap (λ (z : ℕ). z / 2 ^ 52) (and_mask b 63)

-- ---- what the fields are read as

pub bits_are : (b x t : ℕ) → b % 2 ^ 63 / 2 ^ 52 ≡ x → b % 2 ^ 52 ≡ t → of_bits binary64 b ≡ of_fields binary64 (leb (2 ^ 63) b) x t
unfolding of_bits
bits_are b x t X D = ap (λ (y : ℕ). of_fields binary64 (leb (2 ^ 63) b) y (b % 2 ^ 52)) X ∙ ap (of_fields binary64 (leb (2 ^ 63) b) x) D

low-fields : (s : Bool) (t : ℕ) → of_fields binary64 s 0 t ≡ odd 53 s t 0 1074
unfolding of_fields
low-fields s t = refl

normal-fields : (s : Bool) (x t : ℕ) → suc x < 2047 → of_fields binary64 s (suc x) t ≡ odd 53 s (2 ^ 52 + t) x 1074
unfolding of_fields
normal-fields s x t h = go (eqb (suc x) 2047) (eqb→eq (suc x) 2047)
  where
    go : (b : Bool) → (T b → suc x ≡ 2047) → cond b (cond (eqb t 0) (inf s) nan) (odd 53 s (2 ^ 52 + t) x 1074) ≡ odd 53 s (2 ^ 52 + t) x 1074
    go true e = absurd (lt_irrefl 2047 (subst (λ (y : ℕ). y < 2047) (e tt) h))
    go false e = refl

-- ---- which patterns are no NaN's, and which are finite

pub number-bits : (x : Float) → T (fits binary64 x) → T (not (is_nan x)) → to_bits binary64 x % 2 ^ 63 ≤ 2047 * 2 ^ 52
number-bits x f n =
    nltb→le (2047 * 2 ^ 52) (to_bits binary64 x % 2 ^ 63)
    (subst (λ (t : Bool). T (not t)) (ap is_nan (sym (of_bits-to_bits binary64 x f)) ∙ sym (nan_bits_is binary64 (to_bits binary64 x)) ∙ nan_bits_above binary64 (to_bits binary64 x)) n)

pub finite-bits : (b : ℕ) → T (finite (of_bits binary64 b)) → b % 2 ^ 63 / 2 ^ 52 < 2047
finite-bits b t = go (b % 2 ^ 63 / 2 ^ 52) refl
  where
    wild : (c s : Bool) → T (finite (cond c (inf s) nan)) → ⊥
    wild true s t = t
    wild false s t = t

    last : of_fields binary64 (leb (2 ^ 63) b) 2047 (b % 2 ^ 52) ≡ cond (eqb (b % 2 ^ 52) 0) (inf (leb (2 ^ 63) b)) nan
    last = unfold of_fields in refl

    go : (x : ℕ) → b % 2 ^ 63 / 2 ^ 52 ≡ x → x < 2047
    go x e = elim (below_or x 2047) [
      | inl l ↦ l
      | inr g ↦
          absurd
          (wild (eqb (b % 2 ^ 52) 0) (leb (2 ^ 63) b) (subst (λ (y : Float). T (finite y)) (bits_are b 2047 (b % 2 ^ 52) (most x e g) refl ∙ last) t))
    ]
      where
        most : (x : ℕ) → b % 2 ^ 63 / 2 ^ 52 ≡ x → 2047 ≤ x → b % 2 ^ 63 / 2 ^ 52 ≡ 2047
        most x e g = omega arith

-- ---- the value of a pattern, in smallest values

-- below the smallest normal value
pub value_low : (b : ℕ) → b % 2 ^ 63 < 2 ^ 52 → Units (of_bits binary64 b) (leb (2 ^ 63) b) (b % 2 ^ 52)
value_low b h =
    let s = leb (2 ^ 63) b in
    let t = b % 2 ^ 52 in
    subst (λ (y : Float). Units y s t) (sym (bits_are b 0 t (omega arith) refl ∙ low-fields s t))
    (subst (λ (n : ℕ). Units (odd 53 s t 0 1074) s n) (mul-one t) (odd_sign 53 s t 0 1074))

-- a normal one
pub value-normal : (b x t : ℕ) → b % 2 ^ 63 / 2 ^ 52 ≡ suc x → b % 2 ^ 52 ≡ t → x < 2046 → Units (of_bits binary64 b) (leb (2 ^ 63) b) ((2 ^ 52 + t) * 2 ^ x)
value-normal b x t X D h =
    let s = leb (2 ^ 63) b in
    subst (λ (y : Float). Units y s ((2 ^ 52 + t) * 2 ^ x)) (sym (bits_are b (suc x) t X D ∙ normal-fields s x t (omega arith))) (odd_sign 53 s (2 ^ 52 + t) x 1074)

field_is : (r x u : ℕ) → r ≡ suc x * 2 ^ 52 + u → u < 2 ^ 52 → r / 2 ^ 52 ≡ suc x
field_is r x u e h = omega arith

digits_are : (b x u : ℕ) → b % 2 ^ 63 ≡ suc x * 2 ^ 52 + u → u < 2 ^ 52 → b % 2 ^ 52 ≡ u
digits_are b x u e h = omega arith

carried : (x : ℕ) → suc x * 2 ^ 52 + 2 ^ 52 ≡ suc (suc x) * 2 ^ 52 + 0
carried x = omega arith

-- a normal one that was made by adding to the digits, where they may come to 2 ^ 52 and carry into the exponent's field
pub value-carried : (b x u : ℕ) → b % 2 ^ 63 ≡ suc x * 2 ^ 52 + u → u ≤ 2 ^ 52 → x < 2045 → Units (of_bits binary64 b) (leb (2 ^ 63) b) ((2 ^ 52 + u) * 2 ^ x)
value-carried b x u e h X = elim (eq-or-lt_of_le h) [
  | inl f ↦
      let r : b % 2 ^ 63 ≡ suc (suc x) * 2 ^ 52 + 0 = e ∙ ap (λ (z : ℕ). suc x * 2 ^ 52 + z) f ∙ carried x in
      subst (λ (n : ℕ). Units (of_bits binary64 b) (leb (2 ^ 63) b) n)
      (ap (λ (z : ℕ). 2 ^ 52 * z) (pow-succ' 2 x) ∙ sym (mul_assoc (2 ^ 52) 2 (2 ^ x)) ∙ ap (λ (z : ℕ). (2 ^ 52 + z) * 2 ^ x) (sym f))
      (value-normal b (suc x) 0 (field_is (b % 2 ^ 63) (suc x) 0 r (omega arith)) (digits_are b (suc x) 0 r (omega arith)) (omega arith))
  | inr l ↦ value-normal b x u (field_is (b % 2 ^ 63) x u e l) (digits_are b x u e l) (omega arith)
]

-- one below 1 in size: u smallest values, of which 2 ^ 1074 make 1
pub record BelowOne (b : ℕ) : Type 0 where
  pub u : ℕ
  pub value : Units (of_bits binary64 b) (leb (2 ^ 63) b) u
  pub small : u < 2 ^ 1074
  pub zero-only : u ≡ 0 → b % 2 ^ 63 ≡ 0

only-digits : (b : ℕ) → b % 2 ^ 63 < 2 ^ 52 → b % 2 ^ 52 ≡ 0 → b % 2 ^ 63 ≡ 0
only-digits b h z = omega arith

some-field : (r : ℕ) → 2 ^ 52 ≤ r → r / 2 ^ 52 ≡ suc (r / 2 ^ 52 - 1)
some-field r h = omega arith

places-below : (r : ℕ) → r < 1023 * 2 ^ 52 → 2 ^ 52 ≤ r → 53 + (r / 2 ^ 52 - 1) ≤ 1074
places-below r h g = omega arith

normal-below : (x : ℕ) → 53 + x ≤ 1074 → x < 2046
normal-below x h = omega arith

pub digits_lt : (b : ℕ) → 2 ^ 52 + b % 2 ^ 52 < 2 ^ 53
digits_lt b = omega arith

pub below_one : (b : ℕ) → b % 2 ^ 63 < 1023 * 2 ^ 52 → BelowOne b
below_one b h = go (ltb (b % 2 ^ 63) (2 ^ 52)) (ltb→lt (b % 2 ^ 63) (2 ^ 52)) (nltb→le (b % 2 ^ 63) (2 ^ 52))
  where
    go : (c : Bool) → (T c → b % 2 ^ 63 < 2 ^ 52) → (T (not c) → 2 ^ 52 ≤ b % 2 ^ 63) → BelowOne b
    go true l g = record {
      u = b % 2 ^ 52;
      value = value_low b (l tt);
      small = lt_of_lt_of_le (mod-lt b (pow_pos 52)) (lit≤ tt);
      zero-only = only-digits b (l tt);
    }
    go false l g =
        let x = b % 2 ^ 63 / 2 ^ 52 - 1 in
        let t = b % 2 ^ 52 in
        let p = places-below (b % 2 ^ 63) h (g tt) in
        record {
          u = (2 ^ 52 + t) * 2 ^ x;
          value = value-normal b x t (some-field (b % 2 ^ 63) (g tt)) refl (normal-below x p);
          small = lt_of_lt_of_le (shl_lt 53 x (digits_lt b)) (pow_mono p);
          zero-only = λ z. absurd (lt_irrefl 0 (subst (λ (n : ℕ). 0 < n) z (mul-pos (lt_of_lt_of_le (pow_pos 52) (le-add_right (2 ^ 52) t)) (pow_pos x))));
        }
