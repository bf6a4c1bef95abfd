-- `fma::significand::significand` meets its contract: the digits of a subnormal double, or those with the leading one, by the exponent's field. Assumes nothing.
use Rattle.std.proofs.Common.{◌≡◌, ℕ, suc, ◌+◌, ◌-◌, ◌*◌, ◌/◌, ◌%◌, ◌^◌, ◌<◌, leb, sym, refl, ap, ◌∙◌, subst, inl, inr, eq-zero-or-pos, add_comm, mul-one, arith}
use lib.Bits.{bit_and, and_mask}
use lib.Ieee.{binary64, of_bits}
use lib.Ieee.Exact.{HasValue}
use Rattle.exact.specs.Value.{Units}
use Rattle.exact.proofs.Value.{scale}
use Rattle.fma.specs.Significand.{Shifted, Significand}
use Rattle.ieee.proofs.Bits.{value_low, value-normal, field}
use Rattle.fma.proofs.significand.significand.Goals as goal

-- the code's masks
digits : (b : ℕ) → bit_and b 0xf_ffff_ffff_ffff ≡ b % 2 ^ 52
digits b = and_mask b 52

-- from units of 2 ^ -1074 to units of 2 ^ -1136
finer : (b m e t k : ℕ) → Shifted m e t k → Units (of_bits binary64 b) (leb (2 ^ 63) b) (t * 2 ^ k) → Significand m e b
finer b m e t k s v =
    record {
      low = s.low;
      high = s.high;
      clear = s.clear;
      small = s.small;
      value = subst (λ (n : ℕ). HasValue (of_bits binary64 b) (leb (2 ^ 63) b) n (2 ^ 1136)) (sym s.same) (scale (of_bits binary64 b) (leb (2 ^ 63) b) (t * 2 ^ k) (2 ^ 1074) (2 ^ 62) v);
    }

only-digits : (b : ℕ) → b % 2 ^ 63 / 2 ^ 52 ≡ 0 → b % 2 ^ 63 < 2 ^ 52
only-digits b e = omega arith

-- a field that is not 0 is suc of the exponent that the code hands on
module _ (b : ℕ) (some : bit_and b 0x7fff_ffff_ffff_ffff / 2 ^ 52 ≡ 0 → ⊥) (fine : b % 2 ^ 63 < 2047 * 2 ^ 52) where
  next : b % 2 ^ 63 / 2 ^ 52 ≡ suc (bit_and b 0x7fff_ffff_ffff_ffff / 2 ^ 52 - 1)
  next = by (b % 2 ^ 63 / 2 ^ 52) (bit_and b 0x7fff_ffff_ffff_ffff / 2 ^ 52) (field b) some
    where
      by : (x y : ℕ) → y ≡ x → (y ≡ 0 → ⊥) → x ≡ suc (y - 1)
      by x y e f = elim (eq-zero-or-pos y) [ inl z ↦ absurd (f z) | inr p ↦ omega arith ]

  below : bit_and b 0x7fff_ffff_ffff_ffff / 2 ^ 52 - 1 < 2046
  below = by (b % 2 ^ 63) (bit_and b 0x7fff_ffff_ffff_ffff / 2 ^ 52) (field b) fine
    where
      by : (r y : ℕ) → y ≡ r / 2 ^ 52 → r < 2047 * 2 ^ 52 → y - 1 < 2046
      by r y e h = omega arith

pub returns-then-field-eq0 : goal.returns-then-field-eq0
returns-then-field-eq0 c =
    let b = c.args.b in
    let r = c.shifted.result in
    finer b r.m r.e (bit_and b 0xf_ffff_ffff_ffff) 0 c.shifted.ensures
    (subst (λ (t : ℕ). Units (of_bits binary64 b) (leb (2 ^ 63) b) t) (sym (digits b) ∙ sym (mul-one (bit_and b 0xf_ffff_ffff_ffff))) (value_low b (only-digits b (sym (field b) ∙ c.if-field-eq0.true))))

pub returns-else-field-eq0 : goal.returns-else-field-eq0
returns-else-field-eq0 c =
    let b = c.args.b in
    let r = c.shifted-else-field-eq0.result in
    let k = bit_and b 0x7fff_ffff_ffff_ffff / 2 ^ 52 - 1 in
    finer b r.m r.e (bit_and b 0xf_ffff_ffff_ffff + 2 ^ 52) k c.shifted-else-field-eq0.ensures
    (subst (λ (t : ℕ). Units (of_bits binary64 b) (leb (2 ^ 63) b) (t * 2 ^ k)) (ap (λ (t : ℕ). 2 ^ 52 + t) (sym (digits b)) ∙ add_comm (2 ^ 52) (bit_and b 0xf_ffff_ffff_ffff))
    (value-normal b k (b % 2 ^ 52) (next b c.if-field-eq0.false c.requires.1) refl (below b c.if-field-eq0.false c.requires.1)))
