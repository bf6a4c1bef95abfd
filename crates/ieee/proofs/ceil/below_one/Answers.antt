-- `ieee::ceil::below_one` meets its contract: the pattern stands for less than 1 in size, so its ceiling is a zero with its sign, or 1. Assumes nothing.
use Rattle.std.proofs.Common.{◌≡◌, ℕ, suc, ◌%◌, ◌^◌, ◌<◌, ◌≤◌, Bool, true, false, T, leb, sym, refl, ap, ◌∙◌, subst, lt_trans, mod-eq_of_lt, pos_of_ne-zero, arith, pow_pos, le-leb}
use native.Mathlib.Nat.{div-eq_of_lt}
use lib.Ieee.{Float, binary64, neg, of_bits, fits}
use lib.Ieee.Fits.{neg-fits}
use lib.Ieee.Exact.{HasValue}
use lib.Ieee.Bits.{of_bits-fits}
use borrow.Author.Tests.{lt-leb}
use Rattle.ieee.specs.Ceiling.{whole_above, whole_toward, ceiling}
use Rattle.ieee.proofs.Bits.{BelowOne, below_one}
use Rattle.ieee.proofs.Fractions.{above-rest}
use Rattle.ieee.proofs.Ceiling.{is-ceiling, whole-fixed}
use Rattle.ieee.proofs.ceil.below_one.Goals as goal

-- the constants
zero : HasValue (of_bits binary64 0) false 0 1
unfolding of_bits
zero = (refl, refl)

one : HasValue (of_bits binary64 0x3ff0_0000_0000_0000) false 1 1
unfolding of_bits
one = (refl, refl)

minus-zero : HasValue (neg (of_bits binary64 0)) true 0 1
unfolding neg of_bits
minus-zero = (refl, refl)

above-is-one : (u d : ℕ) → 0 < u → u < d → whole_above u d ≡ 1
above-is-one u d h k = above-rest u d (lt_trans h k) (subst (λ (z : ℕ). 0 < z) (sym (mod-eq_of_lt k)) h) ∙ ap suc (div-eq_of_lt k)

-- with the sign known
module _ (b : ℕ) (k : BelowOne b) (s : Bool) (e : leb (2 ^ 63) b ≡ s) where
  answer : (y : Float) → T (fits binary64 y) → HasValue y s (whole_toward s k.u (2 ^ 1074)) 1 → y ≡ ceiling (of_bits binary64 b)
  answer y f w = is-ceiling (of_bits binary64 b) y s k.u (2 ^ 1074) (pow_pos 1074) (of_bits-fits binary64 b) f (subst (λ (t : Bool). HasValue (of_bits binary64 b) t k.u (2 ^ 1074)) e k.value) w

not-zero : (b : ℕ) → b < 2 ^ 63 → (b ≡ 0 → ⊥) → b % 2 ^ 63 ≡ 0 → ⊥
not-zero b h n z = omega arith

positive : (b : ℕ) → BelowOne b → b < 2 ^ 63 → (b ≡ 0 → ⊥) → of_bits binary64 0x3ff0_0000_0000_0000 ≡ ceiling (of_bits binary64 b)
positive b k h n =
    answer b k false (lt-leb (2 ^ 63) b h) (of_bits binary64 0x3ff0_0000_0000_0000) (of_bits-fits binary64 0x3ff0_0000_0000_0000)
    (subst (λ (n : ℕ). HasValue (of_bits binary64 0x3ff0_0000_0000_0000) false n 1)
    (sym (above-is-one k.u (2 ^ 1074) (pos_of_ne-zero (λ z. not-zero b h n (k.zero-only z))) k.small))
    one)

negative : (b : ℕ) → BelowOne b → 2 ^ 63 ≤ b → neg (of_bits binary64 0) ≡ ceiling (of_bits binary64 b)
negative b k h =
    answer b k true (le-leb (2 ^ 63) b h) (neg (of_bits binary64 0)) (neg-fits binary64 (of_bits binary64 0) (of_bits-fits binary64 0))
    (subst (λ (n : ℕ). HasValue (neg (of_bits binary64 0)) true n 1) (sym (div-eq_of_lt k.small)) minus-zero)

pub returns-then-bits-eq0 : goal.returns-then-bits-eq0
returns-then-bits-eq0 c = sym (ap (λ (b : ℕ). ceiling (of_bits binary64 b)) c.if-bits-eq0.true ∙ whole-fixed (of_bits binary64 0) false 0 1 (pow_pos 0) (of_bits-fits binary64 0) zero refl)

pub returns-then-bits-lt9223372036854775808 : goal.returns-then-bits-lt9223372036854775808
returns-then-bits-lt9223372036854775808 c =
    let b = c.args.bits in
    positive b (below_one b c.requires) c.if-bits-lt9223372036854775808.true c.if-bits-eq0.false

pub returns-else-bits-lt9223372036854775808 : goal.returns-else-bits-lt9223372036854775808
returns-else-bits-lt9223372036854775808 c =
    let b = c.args.bits in
    negative b (below_one b c.requires) c.if-bits-lt9223372036854775808.false
