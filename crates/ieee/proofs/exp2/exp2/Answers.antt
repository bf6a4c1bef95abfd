-- `ieee::exp2::exp2` meets its contract: the pattern that it makes stands for 2 ^ k smallest values, which is 2 ^ n, and a value is written in one way. Assumes nothing.
use Rattle.std.proofs.Common.{◌≡◌, ℕ, suc, ◌+◌, ◌-◌, ◌*◌, ◌/◌, ◌%◌, ◌^◌, ◌<◌, ◌≤◌, Bool, false, not, T, leb, ℤ, pos, ◌+ℤ◌, sym, refl, ap, ◌∙◌, subst, le_trans, le_of_eq, lt_of_lt_of_le, le_of_lt, mod-eq_of_lt, one-mul, arith, lit≤, pow_pos, pow-add, w32, to_z, of_z}
use lib.Pow.{pow-lt}
use mir.ValLaws.{to_z-of_z}
use lib.Ieee.{inf, fin, binary64, up, down, of_bits, nan_bits}
use lib.Ieee.Fits.{down_pos}
use lib.Ieee.Exact.{HasValue}
use lib.Ieee.Bits.{of_bits-fits}
use borrow.Author.Tests.{lt-leb}
use Rattle.exact.proofs.Value.{rescale, unique}
use Rattle.exact.proofs.Truth.{below, not-below}
use Rattle.ieee.specs.Exp2.{exp2_of, Exponent}
use Rattle.ieee.proofs.Bits.{no_nan, value_low, value-normal}
use Rattle.ieee.proofs.Powers.{places, places-are, value, exp2_fits, underflow, overflow}
use Rattle.ieee.proofs.exp2.exp2.Goals.{then-k-lt52, else-k-lt52}
use Rattle.ieee.proofs.exp2.exp2.Goals as goal

-- ---- the constants
zero : of_bits binary64 0 ≡ fin false 0 (pos 0)
unfolding of_bits
zero = refl

infinity : of_bits binary64 0x7ff0_0000_0000_0000 ≡ inf false
unfolding of_bits
infinity = refl

-- ---- what the two patterns stand for
module _ (k : ℕ) (h : k < 52) where
  bit-lt : 2 ^ k < 2 ^ 52
  bit-lt = pow-lt h

  bit-code : 1 * 2 ^ k % 2 ^ 64 ≡ 2 ^ k
  bit-code = ap (λ (z : ℕ). z % 2 ^ 64) (one-mul (2 ^ k)) ∙ mod-eq_of_lt (lt_of_lt_of_le bit-lt (lit≤ tt))

  bit-rest : 2 ^ k % 2 ^ 63 ≡ 2 ^ k
  bit-rest = mod-eq_of_lt (lt_of_lt_of_le bit-lt (lit≤ tt))

  bit-finite : T (not (nan_bits binary64 (2 ^ k)))
  bit-finite = no_nan (2 ^ k) (le_trans (le_of_eq bit-rest) (le_trans (le_of_lt bit-lt) (lit≤ tt)))

  bit-value : HasValue (of_bits binary64 (2 ^ k)) false (2 ^ k) (2 ^ 1074)
  bit-value =
      subst (λ (s : Bool). HasValue (of_bits binary64 (2 ^ k)) s (2 ^ k) (2 ^ 1074)) (lt-leb (2 ^ 63) (2 ^ k) (lt_of_lt_of_le bit-lt (lit≤ tt)))
      (subst (λ (z : ℕ). HasValue (of_bits binary64 (2 ^ k)) (leb (2 ^ 63) (2 ^ k)) z (2 ^ 1074)) (mod-eq_of_lt bit-lt)
      (value_low (2 ^ k) (subst (λ (z : ℕ). z < 2 ^ 52) (sym bit-rest) bit-lt)))

module _ (k : ℕ) (l : 52 ≤ k) (h : k < 2098) where
  field_lt : (k - 51) * 2 ^ 52 < 2 ^ 63
  field_lt = omega arith

  field-code : (k - 51) * 2 ^ 52 % 2 ^ 64 ≡ (k - 51) * 2 ^ 52
  field-code = omega arith

  field-finite : T (not (nan_bits binary64 ((k - 51) * 2 ^ 52)))
  field-finite = no_nan ((k - 51) * 2 ^ 52) (omega arith)

  field_is : (k - 51) * 2 ^ 52 % 2 ^ 63 / 2 ^ 52 ≡ suc (k - 52)
  field_is = omega arith

  digits_are : (k - 51) * 2 ^ 52 % 2 ^ 52 ≡ 0
  digits_are = omega arith

  sum_is : 52 + (k - 52) ≡ k
  sum_is = omega arith

  under : k - 52 < 2046
  under = omega arith

  field-value : HasValue (of_bits binary64 ((k - 51) * 2 ^ 52)) false (2 ^ k) (2 ^ 1074)
  field-value =
      let b = (k - 51) * 2 ^ 52 in
      subst (λ (s : Bool). HasValue (of_bits binary64 b) s (2 ^ k) (2 ^ 1074)) (lt-leb (2 ^ 63) b field_lt)
      (subst (λ (z : ℕ). HasValue (of_bits binary64 b) (leb (2 ^ 63) b) z (2 ^ 1074)) (sym (pow-add 2 52 (k - 52)) ∙ ap (λ (z : ℕ). 2 ^ z) sum_is)
      (value-normal b (k - 52) 0 field_is digits_are under))

-- ---- that is 2 ^ n
is-power : (n : ℤ) → Exponent n → (k : ℕ) → n +ℤ pos 1074 ≡ pos k → (b : ℕ) → HasValue (of_bits binary64 b) false (2 ^ k) (2 ^ 1074) → of_bits binary64 b ≡ exp2_of n
is-power n h k e b v =
    let p = places n h in
    let q : 2 ^ k * down n ≡ up n * 2 ^ 1074 = ap (λ (z : ℕ). 2 ^ z * down n) (sym (places-are n p k e)) ∙ sym p.power in
    unique (of_bits binary64 b) (exp2_of n) false (up n) (down n) (down_pos n) (of_bits-fits binary64 b) (exp2_fits n)
    (rescale (of_bits binary64 b) false (2 ^ k) (2 ^ 1074) (up n) (down n) (pow_pos 1074) (sym q) v)
    (value n h)

-- ---- the tests and the call are about n as the machine reads it back from its bits
k_lt : (z : ℤ) → Exponent z → (k : ℕ) → z +ℤ pos 1074 ≡ pos k → k < 2098
k_lt z h k e = let p = places z h in subst (λ (j : ℕ). j < 2098) (places-are z p k e) p.small

pub returns-then-n-ltminus1074 : goal.returns-then-n-ltminus1074
returns-then-n-ltminus1074 c = zero ∙ sym (underflow (to_z w32 (of_z w32 c.args.n)) (below c.if-n-ltminus1074.true)) ∙ ap exp2_of (to_z-of_z w32 c.args.n c.ranges.n)

pub returns-then-n-gt1023 : goal.returns-then-n-gt1023
returns-then-n-gt1023 c = infinity ∙ sym (overflow (to_z w32 (of_z w32 c.args.n)) (below c.if-n-gt1023.true)) ∙ ap exp2_of (to_z-of_z w32 c.args.n c.ranges.n)

pub float_from_bits-result : goal.float_from_bits-result
float_from_bits-result c =
    let k = c.places-k.result in
    let x : Exponent (to_z w32 (of_z w32 c.args.n)) = record { low = not-below c.if-n-ltminus1074.false; high = not-below c.if-n-gt1023.false } in
    let h = k_lt (to_z w32 (of_z w32 c.args.n)) x k c.places-k.ensures in
    elim c.if-k-lt52.branch [
      | then-k-lt52 w ↦ subst (λ (b : ℕ). T (not (nan_bits binary64 b))) (sym (w.result-is ∙ bit-code k w.if-k-lt52.true)) (bit-finite k w.if-k-lt52.true)
      | else-k-lt52 w ↦ subst (λ (b : ℕ). T (not (nan_bits binary64 b))) (sym (w.result-is ∙ field-code k w.if-k-lt52.false h)) (field-finite k w.if-k-lt52.false h)
    ]

pub returns : goal.returns
returns c =
    let k = c.places-k.result in
    let z = to_z w32 (of_z w32 c.args.n) in
    let x : Exponent z = record { low = not-below c.if-n-ltminus1074.false; high = not-below c.if-n-gt1023.false } in
    let h = k_lt z x k c.places-k.ensures in
    elim c.if-k-lt52.branch [
      | then-k-lt52 w ↦ ap (of_bits binary64) (w.result-is ∙ bit-code k w.if-k-lt52.true) ∙ is-power z x k c.places-k.ensures (2 ^ k) (bit-value k w.if-k-lt52.true) ∙ ap exp2_of (to_z-of_z w32 c.args.n c.ranges.n)
      | else-k-lt52 w ↦ ap (of_bits binary64) (w.result-is ∙ field-code k w.if-k-lt52.false h) ∙ is-power z x k c.places-k.ensures ((k - 51) * 2 ^ 52) (field-value k w.if-k-lt52.false h) ∙ ap exp2_of (to_z-of_z w32 c.args.n c.ranges.n)
    ]
