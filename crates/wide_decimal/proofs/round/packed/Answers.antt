-- `wide_decimal::round::packed` meets its contract: the leading bits of both parts, rounded as what they stand for. Assumes nothing.
use Prim.Native.Nat.{ℕ, ◌+◌, ◌-◌, ◌*◌, ◌/◌, ◌%◌, ◌^◌, ◌≤◌}
use mathlib.Core.Path.{◌≡◌, refl, ◌∙◌, sym, ap, subst}
use mathlib.Core.Logic.{◌⊎◌, inl, inr}
use native.Mathlib.Omega.{arith}
use lib.ListN.{length}
use lib.Bits.{bit_and, and_mask}
use Rattle.fma.specs.Words.{words}
use Rattle.fma.specs.Sticky.{Whole}
use Rattle.wide_decimal.specs.Limbs.{value, weight}
use Rattle.wide_decimal.specs.Near.{Top}
use Rattle.wide_decimal.proofs.Enough.{told}
use Rattle.wide_decimal.proofs.Leading.{whole, two-words}
use Rattle.wide_decimal.proofs.round.packed.Goals as goal
use Rattle.wide_decimal.proofs.round.packed.Goals.{else-hi-eq0-via-then-hi-eq0+else-low-lt34, else-hi-eq0-via-else-hi-eq0}

-- the code's two words
halves : (n : ℕ) → words (n / 2 ^ 64) (bit_and n 0xffff_ffff_ffff_ffff) ≡ n
halves n = ap (λ (x : ℕ). words (n / 2 ^ 64) x) (and_mask n 64) ∙ by n
  where
    by : (n : ℕ) → words (n / 2 ^ 64) (n % 2 ^ 64) ≡ n
    by n = omega arith

pub returns : goal.returns
returns c =
    let low = c.args.low.now in
    let n = c.top-bits.result.bits in
    let lost = c.top-bits.result.lost in
    let digits = length low in
    let number = value c.args.high.now * weight digits + value low in
    let p = 2208 - 32 * digits in
    let none : (w v : ℕ) → 0 * w + v ≡ v = λ (w v : ℕ). omega arith in
    let stands : Top n lost number =
    subst (λ (x : ℕ). Top n lost (x * weight digits + value low)) (none (weight (length c.args.high.now)) (value c.args.high.now)) (c.top-bits.ensures.0 _ (c.top.ensures.0 0 (record { stands = inl (refl, refl) }))) in
    let enough : (digits ≡ 34) ⊎ (2 ^ 64 ≤ number) =
    elim c.else-hi-eq0.branch [
      | else-hi-eq0-via-then-hi-eq0+else-low-lt34 k ↦ inl (omega (arith, k.if-low-lt34.false, c.requires.1))
      | else-hi-eq0-via-else-hi-eq0 k ↦ inr (two-words n lost number (omega (arith, k.if-hi-eq0.false)) stands)
    ] in
    let at : lost + p ≡ lost + 2208 - 32 * digits = omega (arith, c.requires.1) in
    λ x m M e.
    c.nearest_double.ensures (number * 2 ^ p) (subst (λ (w : ℕ). Whole w (lost + 2208 - 32 * digits) (number * 2 ^ p)) (sym (halves n)) (subst (λ (z : ℕ). Whole n z (number * 2 ^ p)) at (whole n lost number p stands)))
    ∙ told c.args.minus number x m digits M c.requires.1 enough e
