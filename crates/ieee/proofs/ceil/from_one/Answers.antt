-- `ieee::ceil::from_one` meets its contract: the code's shifts lose no digit, and the three patterns that it makes are those of `Digits`. Assumes nothing.
use Rattle.std.proofs.Common.{◌≡◌, ℕ, ◌+◌, ◌*◌, ◌/◌, ◌%◌, ◌^◌, ◌<◌, not, T, sym, ap, ◌∙◌, subst, lt_of_lt_of_le, lt_of_le_of_lt, mod-eq_of_lt, one-mul, div-mul-le_self, lit<, lit≤, pow_mono}
use mir.Facts.{Fits-of_lt}
use lib.Ieee.{binary64, of_bits, nan_bits}
use Rattle.ieee.proofs.Digits.{finite-own, finite-cut, finite-next, next-lt, negative, exact, positive}
use Rattle.ieee.specs.Fraction.{Fraction}
use Rattle.ieee.proofs.ceil.from_one.Goals as goal

-- ---- the code's shifts lose no digit
module _ (b p : ℕ) (fits : b < 2 ^ 64) (f : Fraction b p) where
  cut-is : b / 2 ^ p * 2 ^ p % 2 ^ 64 ≡ b / 2 ^ p * 2 ^ p
  cut-is = mod-eq_of_lt (lt_of_le_of_lt (div-mul-le_self b (2 ^ p)) fits)

  unit-is : 1 * 2 ^ p % 2 ^ 64 ≡ 2 ^ p
  unit-is = ap (λ (z : ℕ). z % 2 ^ 64) (one-mul (2 ^ p)) ∙ mod-eq_of_lt (lt_of_le_of_lt (pow_mono f.few) (lit< tt))

  next-is : b / 2 ^ p * 2 ^ p % 2 ^ 64 + 1 * 2 ^ p % 2 ^ 64 ≡ b / 2 ^ p * 2 ^ p + 2 ^ p
  next-is = ap (λ (z : ℕ). z + 1 * 2 ^ p % 2 ^ 64) cut-is ∙ ap (λ (z : ℕ). b / 2 ^ p * 2 ^ p + z) unit-is

pub float_from_bits-result : goal.float_from_bits-result
float_from_bits-result c = subst (λ (z : ℕ). T (not (nan_bits binary64 z))) (sym (cut-is c.args.bits c.args.drop c.ranges.bits.fits c.requires)) (finite-cut c.args.bits c.args.drop c.requires)

pub returns-then-bits-ge9223372036854775808 : goal.returns-then-bits-ge9223372036854775808
returns-then-bits-ge9223372036854775808 c = ap (of_bits binary64) (cut-is c.args.bits c.args.drop c.ranges.bits.fits c.requires) ∙ negative c.args.bits c.args.drop c.requires c.if-bits-ge9223372036854775808.true

pub float_from_bits-result-then-cut-bits : goal.float_from_bits-result-then-cut-bits
float_from_bits-result-then-cut-bits c = finite-own c.args.bits c.args.drop c.requires

pub returns-then-cut-bits : goal.returns-then-cut-bits
returns-then-cut-bits c = exact c.args.bits c.args.drop c.requires (sym (cut-is c.args.bits c.args.drop c.ranges.bits.fits c.requires) ∙ c.if-cut-bits.true)

pub overflow_add-result : goal.overflow_add-result
overflow_add-result c = Fits-of_lt (subst (λ (z : ℕ). z < 2 ^ 64) (sym (next-is c.args.bits c.args.drop c.ranges.bits.fits c.requires)) (lt_of_lt_of_le (next-lt c.args.bits c.args.drop c.requires c.if-bits-ge9223372036854775808.false) (lit≤ tt)))

pub float_from_bits-result-else-cut-bits : goal.float_from_bits-result-else-cut-bits
float_from_bits-result-else-cut-bits c = subst (λ (z : ℕ). T (not (nan_bits binary64 z))) (sym (next-is c.args.bits c.args.drop c.ranges.bits.fits c.requires)) (finite-next c.args.bits c.args.drop c.requires c.if-bits-ge9223372036854775808.false)

pub returns-else-cut-bits : goal.returns-else-cut-bits
returns-else-cut-bits c = ap (of_bits binary64) (next-is c.args.bits c.args.drop c.ranges.bits.fits c.requires) ∙ positive c.args.bits c.args.drop c.requires c.if-bits-ge9223372036854775808.false (λ e. c.if-cut-bits.false (cut-is c.args.bits c.args.drop c.ranges.bits.fits c.requires ∙ e))
