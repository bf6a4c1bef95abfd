-- The digits of a pattern b whose last p digits are a fraction's. With P = 2 ^ p it stands for M / P, M being its 53 digits. Cutting the p digits off, which gives c, takes the same
-- remainder from b and from M, so that c stands for the whole part of M / P, and c + P for the whole number after it. Assumes nothing.
use Rattle.std.proofs.Common.{◌≡◌, ℕ, suc, ◌+◌, ◌-◌, ◌*◌, ◌/◌, ◌%◌, ◌^◌, ◌<◌, ◌≤◌, Bool, true, false, not, T, leb, sym, refl, ap, ◌∙◌, subst, le_trans, le_of_eq, lt_of_lt_of_le, le_of_lt, mul-le-mul_right, mod-lt, mul_assoc, suc-mul, mul_comm, div-lt_iff_lt-mul, div-add-mod', mul-one, sub-le, arith, lit≤, pow_pos, pow-add, le-leb}
use native.Mathlib.Nat.{mod-le, mul-add-mod_self_right}
use lib.Pow.{mod-mod-pow}
use lib.Ieee.{binary64, of_bits, nan_bits}
use lib.Ieee.Exact.{HasValue}
use lib.Ieee.Bits.{of_bits-fits}
use borrow.Author.Tests.{lt-leb}
use Rattle.ieee.specs.Ceiling.{whole_toward, ceiling}
use Rattle.exact.proofs.Value.{rescale}
use Rattle.ieee.proofs.Bits.{no_nan, value-normal, value-carried, digits_lt}
use Rattle.ieee.proofs.Fractions.{above-rest}
use Rattle.ieee.proofs.Ceiling.{is-ceiling, whole-fixed}
use Rattle.ieee.specs.Fraction.{Fraction}

-- ---- the fields of b, and of c, which is r below b

cut-fields : (b c r x : ℕ) → c + r ≡ b → r ≤ b % 2 ^ 52 → b % 2 ^ 63 / 2 ^ 52 ≡ suc x → c % 2 ^ 63 ≡ suc x * 2 ^ 52 + (b % 2 ^ 52 - r)
cut-fields b c r x e h f = omega arith

cut-sign : (b c r : ℕ) → c + r ≡ b → r ≤ b % 2 ^ 52 → 2 ^ 63 ≤ b → 2 ^ 63 ≤ c
cut-sign b c r e h k = omega arith

raised-fields : (b c r x P : ℕ) → c + r ≡ b → r ≤ b % 2 ^ 52 → b % 2 ^ 63 / 2 ^ 52 ≡ suc x → x < 1074 → b < 2 ^ 63 → b % 2 ^ 52 - r + P ≤ 2 ^ 52 → (c + P) % 2 ^ 63 ≡ suc x * 2 ^ 52 + (b % 2 ^ 52 - r + P)
raised-fields b c r x P e h f X k l = omega arith

raised-small : (b c r x P : ℕ) → c + r ≡ b → r ≤ b % 2 ^ 52 → b % 2 ^ 63 / 2 ^ 52 ≡ suc x → x < 1074 → b < 2 ^ 63 → b % 2 ^ 52 - r + P ≤ 2 ^ 52 → c + P < 2 ^ 63
raised-small b c r x P e h f X k l = omega arith

below_top : (r x : ℕ) → r / 2 ^ 52 ≡ suc x → x < 1074 → r ≤ 2047 * 2 ^ 52
below_top r x e h = omega arith

no_overflow : (r x u : ℕ) → r ≡ suc x * 2 ^ 52 + u → u ≤ 2 ^ 52 → x < 1074 → r ≤ 2047 * 2 ^ 52
no_overflow r x u e h k = omega arith

-- ---- M, M / P * P and M % P are m, w and r
kept : (t m w r : ℕ) → m ≡ 2 ^ 52 + t → w + r ≡ m → r ≤ t → 2 ^ 52 + (t - r) ≡ w
kept t m w r a b c = omega arith

room : (t r w P : ℕ) → 2 ^ 52 + (t - r) ≡ w → w + P ≤ 2 ^ 53 → t - r + P ≤ 2 ^ 52
room t r w P a b = omega arith

raised : (t r w P v : ℕ) → 2 ^ 52 + (t - r) ≡ w → v ≡ w + P → 2 ^ 52 + (t - r + P) ≡ v
raised t r w P v a b = omega arith

-- a pattern whose 53 digits are n * 2 ^ p stands for n
stands-for : (c p x u n : ℕ) → p + x ≡ 1074 → x < 2045 → c % 2 ^ 63 ≡ suc x * 2 ^ 52 + u → u ≤ 2 ^ 52 → 2 ^ 52 + u ≡ n * 2 ^ p → HasValue (of_bits binary64 c) (leb (2 ^ 63) c) n 1
stands-for c p x u n s X e h k =
    rescale (of_bits binary64 c) (leb (2 ^ 63) c) ((2 ^ 52 + u) * 2 ^ x) (2 ^ 1074) n 1 (pow_pos 1074)
    (sym (mul-one ((2 ^ 52 + u) * 2 ^ x) ∙ ap (λ (z : ℕ). z * 2 ^ x) k ∙ mul_assoc n (2 ^ p) (2 ^ x) ∙ ap (λ (z : ℕ). n * z) (sym (pow-add 2 p x) ∙ ap (λ (z : ℕ). 2 ^ z) s)))
    (value-carried c x u e h X)

halves : (p : ℕ) → p ≤ 52 → 52 - p + p ≡ 52
halves p h = omega arith

exponent : (f p : ℕ) → f + p ≡ 1075 → p ≤ 52 → f ≡ suc (1074 - p)
exponent f p e h = omega arith

digit-sum : (p : ℕ) → p ≤ 52 → p + (1074 - p) ≡ 1074
digit-sum p h = omega arith

exponent_lt : (p : ℕ) → 0 < p → p ≤ 52 → 1074 - p < 1074
exponent_lt p h k = omega arith

whole-digits : (p : ℕ) → p ≤ 52 → 53 - p + p ≡ 53
whole-digits p h = omega arith

none : (c r b : ℕ) → c + r ≡ b → c ≡ b → r ≡ 0
none c r b e f = omega arith

some : (c r b : ℕ) → c + r ≡ b → (c ≡ b → ⊥) → 0 < r
some c r b e n = omega arith

-- t are the digits after the leading one, and suc x is the exponent's field
module _ (b p : ℕ) (f : Fraction b p) where
  abbrev P : ℕ
  P = 2 ^ p

  abbrev t : ℕ
  t = b % 2 ^ 52

  abbrev M : ℕ
  M = 2 ^ 52 + t

  abbrev x : ℕ
  x = 1074 - p

  abbrev c : ℕ
  c = b / P * P

  field : b % 2 ^ 63 / 2 ^ 52 ≡ suc x
  field = exponent (b % 2 ^ 63 / 2 ^ 52) p f.field f.few

  x_lt : x < 1074
  x_lt = exponent_lt p f.some f.few

  -- the remainder is the same
  rest-t : t % P ≡ b % P
  rest-t = ap (λ (n : ℕ). b % 2 ^ n % P) (sym (halves p f.few)) ∙ mod-mod-pow b (52 - p) p

  rest-M : M % P ≡ b % P
  rest-M = ap (λ (z : ℕ). (z + t) % P) (ap (λ (n : ℕ). 2 ^ n) (sym (halves p f.few)) ∙ pow-add 2 (52 - p) p) ∙ mul-add-mod_self_right (2 ^ (52 - p)) P t ∙ rest-t

  rest_le : b % P ≤ t
  rest_le = le_trans (le_of_eq (sym rest-t)) (mod-le t P)

  cut-is : c + b % P ≡ b
  cut-is = div-add-mod' b P

  digits : 2 ^ 52 + (t - b % P) ≡ M / P * P
  digits = kept t M (M / P * P) (b % P) refl (ap (λ (z : ℕ). M / P * P + z) (sym rest-M) ∙ div-add-mod' M P) rest_le

  t-le : t ≤ 2 ^ 52
  t-le = le_of_lt (mod-lt b (pow_pos 52))

  normal : x < 2045
  normal = lt_of_lt_of_le x_lt (lit≤ tt)

  -- what b stands for
  own : (s : Bool) → leb (2 ^ 63) b ≡ s → HasValue (of_bits binary64 b) s M P
  own s e =
      subst (λ (z : Bool). HasValue (of_bits binary64 b) z M P) e
      (rescale (of_bits binary64 b) (leb (2 ^ 63) b) (M * 2 ^ x) (2 ^ 1074) M P (pow_pos 1074)
      (sym (mul_assoc M (2 ^ x) P ∙ ap (λ (z : ℕ). M * z) (mul_comm (2 ^ x) P ∙ sym (pow-add 2 p x) ∙ ap (λ (z : ℕ). 2 ^ z) (digit-sum p f.few))))
      (value-normal b x t field refl (lt_of_lt_of_le x_lt (lit≤ tt))))

  -- c
  fields-c : c % 2 ^ 63 ≡ suc x * 2 ^ 52 + (t - b % P)
  fields-c = cut-fields b c (b % P) x cut-is rest_le field

  u-le : t - b % P ≤ 2 ^ 52
  u-le = le_trans (sub-le t (b % P)) t-le

  whole-c : HasValue (of_bits binary64 c) (leb (2 ^ 63) c) (M / P) 1
  whole-c = stands-for c p x (t - b % P) (M / P) (digit-sum p f.few) normal fields-c u-le digits

  -- c + P
  next_le : suc (M / P) * P ≤ 2 ^ 53
  next_le =
      let e : 2 ^ (53 - p) * P ≡ 2 ^ 53 = sym (pow-add 2 (53 - p) p) ∙ ap (λ (z : ℕ). 2 ^ z) (whole-digits p f.few) in
      le_trans (mul-le-mul_right P ((div-lt_iff_lt-mul (pow_pos p)).1 (lt_of_lt_of_le (digits_lt b) (le_of_eq (sym e))))) (le_of_eq e)

  room-P : t - b % P + P ≤ 2 ^ 52
  room-P = room t (b % P) (M / P * P) P digits (le_trans (le_of_eq (sym (suc-mul (M / P) P))) next_le)

  fields-next : b < 2 ^ 63 → (c + P) % 2 ^ 63 ≡ suc x * 2 ^ 52 + (t - b % P + P)
  fields-next h = raised-fields b c (b % P) x P cut-is rest_le field x_lt h room-P

  pub next-lt : b < 2 ^ 63 → c + P < 2 ^ 63
  next-lt h = raised-small b c (b % P) x P cut-is rest_le field x_lt h room-P

  whole-next : b < 2 ^ 63 → HasValue (of_bits binary64 (c + P)) (leb (2 ^ 63) (c + P)) (suc (M / P)) 1
  whole-next h =
      stands-for (c + P) p x (t - b % P + P) (suc (M / P)) (digit-sum p f.few) normal (fields-next h) room-P (raised t (b % P) (M / P * P) P (suc (M / P) * P) digits (suc-mul (M / P) P))

  -- none of the three is a NaN
  pub finite-own : T (not (nan_bits binary64 b))
  finite-own = no_nan b (below_top (b % 2 ^ 63) x field x_lt)

  pub finite-cut : T (not (nan_bits binary64 c))
  finite-cut = no_nan c (no_overflow (c % 2 ^ 63) x (t - b % P) fields-c u-le x_lt)

  pub finite-next : b < 2 ^ 63 → T (not (nan_bits binary64 (c + P)))
  finite-next h = no_nan (c + P) (no_overflow ((c + P) % 2 ^ 63) x (t - b % P + P) (fields-next h) room-P x_lt)

  -- ---- the three answers
  pub negative : 2 ^ 63 ≤ b → of_bits binary64 c ≡ ceiling (of_bits binary64 b)
  negative h =
      is-ceiling (of_bits binary64 b) (of_bits binary64 c) true M P (pow_pos p) (of_bits-fits binary64 b) (of_bits-fits binary64 c)
      (own true (le-leb (2 ^ 63) b h))
      (subst (λ (z : Bool). HasValue (of_bits binary64 c) z (M / P) 1) (le-leb (2 ^ 63) c (cut-sign b c (b % P) cut-is rest_le h)) whole-c)

  pub exact : c ≡ b → of_bits binary64 b ≡ ceiling (of_bits binary64 b)
  exact e = sym (whole-fixed (of_bits binary64 b) (leb (2 ^ 63) b) M P (pow_pos p) (of_bits-fits binary64 b) (own (leb (2 ^ 63) b) refl) (rest-M ∙ none c (b % P) b cut-is e))

  pub positive : b < 2 ^ 63 → (c ≡ b → ⊥) → of_bits binary64 (c + P) ≡ ceiling (of_bits binary64 b)
  positive h n =
      is-ceiling (of_bits binary64 b) (of_bits binary64 (c + P)) false M P (pow_pos p) (of_bits-fits binary64 b) (of_bits-fits binary64 (c + P))
      (own false (lt-leb (2 ^ 63) b h))
      (subst (λ (z : Bool). HasValue (of_bits binary64 (c + P)) z (whole_toward false M P) 1) (lt-leb (2 ^ 63) (c + P) (next-lt h))
      (subst (λ (z : ℕ). HasValue (of_bits binary64 (c + P)) (leb (2 ^ 63) (c + P)) z 1)
      (sym (above-rest M P (pow_pos p) (subst (λ (z : ℕ). 0 < z) (sym rest-M) (some c (b % P) b cut-is n))))
      (whole-next h)))
