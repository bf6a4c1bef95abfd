-- `fma::significand::shifted` meets its contract: eleven leading zeros at least, of which all but one are shifted out. Assumes nothing.
use Rattle.std.proofs.Common.{◌≡◌, ℕ, ◌+◌, ◌-◌, ◌*◌, ◌%◌, ◌^◌, ◌<◌, ◌≤◌, sym, ap, ◌∙◌, subst, lt_of_lt_of_le, mod-eq_of_lt, mul_assoc, arith, lit≤, pow-add}
use native.Mathlib.Nat.{mul-mod_left}
use lib.Count.{count_leading_zeros}
use Rattle.fma.specs.Significand.{Shifted}
use Rattle.fma.proofs.Leading.{Leading, leading, zeros-ge, shifted-low, shifted-high}
use Rattle.fma.proofs.significand.shifted.Goals as goal

ten : (t z : ℕ) → 11 ≤ z → t * 2 ^ (z - 1) % 2 ^ 10 ≡ 0
ten t z h =
    ap (λ (x : ℕ). x % 2 ^ 10) (ap (λ (x : ℕ). t * 2 ^ x) (apart z h) ∙ ap (λ (x : ℕ). t * x) (pow-add 2 (z - 11) 10) ∙ sym (mul_assoc t (2 ^ (z - 11)) (2 ^ 10)))
    ∙ mul-mod_left (t * 2 ^ (z - 11)) (2 ^ 10)
  where
    apart : (z : ℕ) → 11 ≤ z → z - 1 ≡ z - 11 + 10
    apart z h = omega arith

value : (t k z : ℕ) → 11 ≤ z → z < 64 → t * 2 ^ (z - 1) * 2 ^ (k + 63 - z) ≡ t * 2 ^ k * 2 ^ 62
value t k z h l =
    mul_assoc t (2 ^ (z - 1)) (2 ^ (k + 63 - z))
    ∙ ap (λ (x : ℕ). t * x) (sym (pow-add 2 (z - 1) (k + 63 - z)) ∙ ap (λ (x : ℕ). 2 ^ x) (sum k z h l) ∙ pow-add 2 k 62)
    ∙ sym (mul_assoc t (2 ^ k) (2 ^ 62))
  where
    sum : (k z : ℕ) → 11 ≤ z → z < 64 → z - 1 + (k + 63 - z) ≡ k + 62
    sum k z h l = omega arith

all : (t k z : ℕ) → k < 2046 → Leading t z → 11 ≤ z → Shifted (t * 2 ^ (z - 1) % 2 ^ 64) (k + 63 - z) t k
all t k z K l h =
    let hi : t * 2 ^ (z - 1) < 2 ^ 63 = shifted-high t z (z - 1) 63 l (upper z h l.less) in
    let same : t * 2 ^ (z - 1) % 2 ^ 64 ≡ t * 2 ^ (z - 1) = mod-eq_of_lt (lt_of_lt_of_le hi (lit≤ tt)) in
    subst (λ (m : ℕ). Shifted m (k + 63 - z) t k) (sym same)
    (record { low = shifted-low t z (z - 1) 62 l (lower z h l.less); high = hi; clear = ten t z h; small = few k z K; same = value t k z h l.less })
  where
    lower : (z : ℕ) → 11 ≤ z → z < 64 → 63 - z + (z - 1) ≡ 62
    lower z h l = omega arith

    upper : (z : ℕ) → 11 ≤ z → z < 64 → 64 - z + (z - 1) ≡ 63
    upper z h l = omega arith

    few : (k z : ℕ) → k < 2046 → k + 63 - z < 2 ^ 12
    few k z h = omega arith

pub overflow_sub-m : goal.overflow_sub-m
overflow_sub-m c =
    let zeros : Leading c.args.t (count_leading_zeros 64 c.args.t) = leading c.args.t c.requires.0 c.ranges.t.fits in
    let eleven : 11 ≤ count_leading_zeros 64 c.args.t = zeros-ge c.args.t (count_leading_zeros 64 c.args.t) 53 zeros c.requires.1 in
    omega (arith, eleven)

pub returns : goal.returns
returns c =
    let zeros : Leading c.args.t (count_leading_zeros 64 c.args.t) = leading c.args.t c.requires.0 c.ranges.t.fits in
    let eleven : 11 ≤ count_leading_zeros 64 c.args.t = zeros-ge c.args.t (count_leading_zeros 64 c.args.t) 53 zeros c.requires.1 in
    all c.args.t c.args.k (count_leading_zeros 64 c.args.t) c.requires.2 zeros eleven
