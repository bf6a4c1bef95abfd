-- `fma::wide::product` meets its contract: each column's sum fits a word, and the columns add up to the product. Assumes nothing.
use Rattle.std.proofs.Common.{◌≡◌, ℕ, ◌+◌, ◌*◌, ◌/◌, ◌%◌, ◌^◌, ◌<◌, mod-eq_of_lt, sym, ap, ◌∙◌, le_of_eq, lt_of_le_of_lt, le_of_lt, mul-le-mul_left, mul-lt-mul_of_pos_right, pow_pos, w64, Fits}
use lib.Bits.{bit_and, and_mask, mask_lt}
use lib.Pow.{split}
use mir.Facts.{Fits-of_lt, Fits-lt-pow, Fits-shl}
use Rattle.fma.proofs.Words.{upper_lt, columns}
use Rattle.fma.proofs.wide.product.Goals as goal

-- the lower half of a word, and the code's sums of columns
abbrev lower : ℕ → ℕ
lower n = bit_and n 0xffff_ffff

abbrev middle : ℕ → ℕ → ℕ
middle u v = u / 2 ^ 32 * lower v + lower u * lower v / 2 ^ 32

abbrev second : ℕ → ℕ → ℕ
second u v = lower (middle u v) + lower u * (v / 2 ^ 32)

abbrev upper : ℕ → ℕ → ℕ
upper u v = u / 2 ^ 32 * (v / 2 ^ 32) + middle u v / 2 ^ 32 + second u v / 2 ^ 32

halves : (n : ℕ) → n ≡ n / 2 ^ 32 * 2 ^ 32 + lower n
halves n = sym (ap (λ (x : ℕ). n / 2 ^ 32 * 2 ^ 32 + x) (and_mask n 32) ∙ split n 32)

whole : (u v : ℕ) → u * v ≡ upper u v * 2 ^ 64 + (lower (second u v) * 2 ^ 32 + lower (lower u * lower v))
whole u v =
    ap (λ (x : ℕ). x * v) (halves u)
    ∙ ap (λ (x : ℕ). (u / 2 ^ 32 * 2 ^ 32 + lower u) * x) (halves v)
    ∙ columns (2 ^ 32) (lower u) (u / 2 ^ 32) (lower v) (v / 2 ^ 32) (lower u * lower v / 2 ^ 32) (lower (lower u * lower v)) (middle u v / 2 ^ 32) (lower (middle u v)) (second u v / 2 ^ 32) (lower (second u v)) (halves (lower u * lower v)) (halves (middle u v)) (halves (second u v))

upper_fits : (u v : ℕ) → u < 2 ^ 64 → v < 2 ^ 64 → Fits w64 (upper u v)
upper_fits u v hu hv =
    Fits-of_lt
    (upper_lt (upper u v) (lower (second u v) * 2 ^ 32 + lower (lower u * lower v)) (2 ^ 64) (2 ^ 64)
    (lt_of_le_of_lt (le_of_eq (sym (whole u v))) (lt_of_le_of_lt (mul-le-mul_left u (le_of_lt hv)) (mul-lt-mul_of_pos_right hu (pow_pos 64)))))

kept : (n : ℕ) → (lower n * 2 ^ 32) % 2 ^ 64 ≡ lower n * 2 ^ 32
kept n = mod-eq_of_lt (Fits-lt-pow {w = w64} {n = lower n * 2 ^ 32} (Fits-shl 32 32 tt (mask_lt n 32)))

pub overflow_add-hi-2 : goal.overflow_add-hi-2
overflow_add-hi-2 c =
    let u : ℕ = c.args.u in
    let v : ℕ = c.args.v in
    upper_fits u v c.ranges.u.fits c.ranges.v.fits

pub returns-clause-lo_value : goal.returns-clause-lo_value
returns-clause-lo_value c =
    let u : ℕ = c.args.u in
    let v : ℕ = c.args.v in
    ap (λ (x : ℕ). upper u v * 2 ^ 64 + (x + lower (lower u * lower v))) (kept (second u v)) ∙ sym (whole u v)
