-- Zeros and ones in the operations: what a zero makes of a product, a quotient and a sum, and that 1 times a double is that number. Assumes nothing.
use Rattle.std.proofs.Common.{◌≡◌, ℕ, ◌+◌, ◌^◌, ◌<◌, Bool, true, false, not, sym, refl, ap, ◌∙◌, subst, inl, inr, add-zero, eq-zero-or-pos, zero-mul, arith, pow_pos}
use native.Mathlib.Nat.{sub-zero}
use lib.Ieee.{Float, binary64, of_bits, round, units, odd, sum, add, sub, neg, mul, eq}
use lib.Ieee.Exact.{HasValue}
use Rattle.exact.specs.Doubles.{nought, one, zero_of}
use Rattle.exact.specs.Signed.{Same, signed}
use Rattle.exact.specs.Value.{Units, sign_of, units_of}
use Rattle.exact.proofs.Few.{Few, few-value}
use Rattle.exact.proofs.Sum.{sum_like, sum_first, sum-none}
use Rattle.exact.proofs.Unit.{one-times}
use Rattle.exact.proofs.Zeros.{round-zero}
use Rattle.spline.proofs.Places.{Number, value_of}

-- ---- the zeros
pub none-value : (s : Bool) (c : ℕ) → HasValue (zero_of s) s 0 c
none-value s c = (refl, zero-mul c)

pub nought-is : nought ≡ zero_of false
unfolding of_bits
nought-is = refl

pub none-is-nought : (s : Bool) → eq (zero_of s) nought ≡ true
unfolding eq of_bits
none-is-nought true = refl
none-is-nought false = refl

-- ---- 1 less a zero is 1, and 1 less 1 is +0
pub one-less-none : (s : Bool) → sub binary64 one (zero_of s) ≡ one
unfolding sub add neg sum round units odd of_bits
one-less-none true = refl
one-less-none false = refl

pub one-less-one : sub binary64 one one ≡ zero_of false
unfolding sub add neg sum round units odd of_bits
one-less-one = refl

-- ---- 1 times a double has its value
pub one-units : (a : Float) → Number a → Units (mul binary64 one a) (sign_of a) (units_of a)
one-units a A = subst (λ (z : Float). Units z (sign_of a) (units_of a)) (sym (one-times a A.fit)) (value_of a A)

-- ---- equal numbers differ by a zero
pub same-difference : (s u : Bool) (a d c : ℕ) → 0 < c → Same (signed s a) (signed u d) → (z : Bool) × (sum binary64 s a (not u) d c ≡ zero_of z)
same-difference false false a d c C e = (false, sum-none binary64 false true a d c refl (omega arith) ∙ round-zero false c C)
same-difference true true a d c C e = (false, sum-none binary64 true false a d c refl (omega arith) ∙ round-zero false c C)
same-difference false true a d c C e =
    let z : a + d ≡ 0 = omega arith in
    (false, sum_like binary64 false false a d c refl ∙ ap (λ (m : ℕ). round binary64 false m c) z ∙ round-zero false c C)
same-difference true false a d c C e =
    let z : a + d ≡ 0 = omega arith in
    (true, sum_like binary64 true true a d c refl ∙ ap (λ (m : ℕ). round binary64 true m c) z ∙ round-zero true c C)

-- ---- a double and a zero add up to that number
pub sum-nothing : (s t : Bool) (n : ℕ) → Few n → n < 2 ^ 2098
    → (u : Bool) × Units (sum binary64 s n t 0 (2 ^ 1074)) u n × Same (signed u n) (signed s n)
sum-nothing s t n f l =
    elim (eq-zero-or-pos n) [
      | inl z ↦ at_zero z
      | inr h ↦ (s, subst (λ (z : Float). Units z s n) (sym (kept s t h)) (few-value s n f l), refl)
    ]
  where
    zeros : (s t : Bool) → (u : Bool) × (sum binary64 s 0 t 0 (2 ^ 1074) ≡ zero_of u)
    zeros false false = same-difference false true 0 0 (2 ^ 1074) (pow_pos 1074) refl
    zeros true true = same-difference true false 0 0 (2 ^ 1074) (pow_pos 1074) refl
    zeros false true = same-difference false false 0 0 (2 ^ 1074) (pow_pos 1074) refl
    zeros true false = same-difference true true 0 0 (2 ^ 1074) (pow_pos 1074) refl

    same : (u s : Bool) → n ≡ 0 → Same (signed u n) (signed s n)
    same false false z = refl
    same true true z = refl
    same false true z = omega arith
    same true false z = omega arith

    kept : (s t : Bool) → 0 < n → sum binary64 s n t 0 (2 ^ 1074) ≡ round binary64 s n (2 ^ 1074)
    kept false false h = sum_like binary64 false false n 0 (2 ^ 1074) refl ∙ ap (λ (m : ℕ). round binary64 false m (2 ^ 1074)) (add-zero n)
    kept true true h = sum_like binary64 true true n 0 (2 ^ 1074) refl ∙ ap (λ (m : ℕ). round binary64 true m (2 ^ 1074)) (add-zero n)
    kept false true h = sum_first binary64 false true n 0 (2 ^ 1074) refl h ∙ ap (λ (m : ℕ). round binary64 false m (2 ^ 1074)) (sub-zero n)
    kept true false h = sum_first binary64 true false n 0 (2 ^ 1074) refl h ∙ ap (λ (m : ℕ). round binary64 true m (2 ^ 1074)) (sub-zero n)

    at_zero : n ≡ 0 → (u : Bool) × Units (sum binary64 s n t 0 (2 ^ 1074)) u n × Same (signed u n) (signed s n)
    at_zero z =
        let w = zeros s t in
        let is : sum binary64 s n t 0 (2 ^ 1074) ≡ zero_of w.0 = ap (λ (m : ℕ). sum binary64 s m t 0 (2 ^ 1074)) z ∙ w.1 in
        (w.0, subst (λ (y : Float). Units y w.0 n) (sym is) (rw z (none-value w.0 (2 ^ 1074))), same w.0 s z)
