-- Beyond the doubles: from 2 ^ 1024 on all rounds to an infinity, and a fraction below 2 ^ -1088 to zero. Assumes nothing.
use mathlib.Core.Path.{◌≡◌, refl, sym, ap, ◌∙◌}
use mathlib.Core.Bool.{Bool}
use mathlib.Core.Logic.{inl, inr}
use Prim.Native.Nat.{ℕ, ◌+◌, ◌-◌, ◌*◌, ◌/◌, ◌^◌, ◌≤◌, ◌<◌}
use native.Mathlib.Nat.{le_trans, le_of_eq, lt_of_lt_of_le, lt_irrefl, lt_of_not-le, mul-pos, mul_right_comm, zero-mul, mul-le-mul_right, le-div_iff_mul-le, eq-zero-or-pos}
use native.Mathlib.Omega.{arith}
use lib.Dec.{lit<}
use lib.Pow.{pow-add, pow_pos, pow_mono}
use lib.Ieee.{inf, binary64, size, round}
use lib.Ieee.Digits.{size-lt, size_reaches}
use lib.Ieee.Fits.{round_is}
use lib.Ieee.Nearest.{closest}
use lib.Ieee.Scale.{round_same}
use Rattle.fma.proofs.Packing.{units-inf}
use Rattle.fma.proofs.Rounds.{closest-ge}
use Rattle.wide_decimal.specs.Near.{Near}
use Rattle.wide_decimal.proofs.Nears.{near-round}

-- n smallest doubles, over b, of which k digits are dropped
module _ (n b k : ℕ) (B : 0 < b) (h : 2 ^ 2098 ≤ n / b) (e : size (n / b) - 53 ≡ k) where
  long : 2098 < size (n / b)
  long = lt_of_not-le (λ (g : size (n / b) ≤ 2098). lt_irrefl (n / b) (lt_of_lt_of_le (size-lt (n / b)) (le_trans (pow_mono g) h)))

  reaches : 2 ^ 52 * (b * 2 ^ k) ≤ n
  reaches =
      let near : 52 + k < size (n / b) = omega (arith, long) in
      let most : 2 ^ (52 + k) * b ≤ n = (le-div_iff_mul-le B).0 (size_reaches (n / b) (52 + k) near) in
      le_trans (le_of_eq (regroup (2 ^ 52) b (2 ^ k) ∙ ap (λ (x : ℕ). x * b) (sym (pow-add 2 52 k)))) most
    where
      regroup : (x b y : ℕ) → x * (b * y) ≡ x * y * b
      regroup x b y = omega arith

  big : 2 ^ 2098 ≤ closest n (b * 2 ^ k) * 2 ^ k
  big =
      let far : 2098 ≤ 52 + k = omega (arith, long) in
      le_trans (pow_mono far)
      (le_trans (le_of_eq (pow-add 2 52 k)) (mul-le-mul_right (2 ^ k) (closest-ge n (b * 2 ^ k) (2 ^ 52) (mul-pos B (pow_pos k)) reaches)))

pub round-over : (g : Bool) (a b : ℕ) → 0 < b → 2 ^ 1024 * b ≤ a → round binary64 g a b ≡ inf g
round-over g a b B h =
    let n = a * 2 ^ 1074 in
    let k = size (n / b) - 53 in
    let all : 2 ^ 2098 * b ≤ n = le_trans (le_of_eq (ap (λ (x : ℕ). x * b) (pow-add 2 1024 1074) ∙ mul_right_comm (2 ^ 1024) (2 ^ 1074) b)) (mul-le-mul_right (2 ^ 1074) h) in
    round_is binary64 g a b ∙ units-inf g (closest n (b * 2 ^ k)) k (big n b k B ((le-div_iff_mul-le B).1 all) refl)

-- ---- below
small : (g : Bool) → round binary64 g 0 1 ≡ round binary64 g (1 * 2 ^ 1120) (2 ^ 2208)
unfolding round
small g = refl

pub round-nothing : (g : Bool) (m : ℕ) → 0 < m → round binary64 g 0 m ≡ round binary64 g 0 1
round-nothing g m h = round_same binary64 g 0 m 0 1 h (lit< tt) (zero-mul 1 ∙ sym (zero-mul m))

pub round_under : (g : Bool) (x m : ℕ) → x * 2 ^ 1088 < m → round binary64 g x m ≡ round binary64 g 0 1
round_under g x m h = elim (eq-zero-or-pos x) [
  | inl z ↦ ap (λ (y : ℕ). round binary64 g y m) z ∙ round-nothing g m (positive (x * 2 ^ 1088) m h)
  | inr p ↦ sym (small g ∙ near-round g 1 x m (positive (x * 2 ^ 1088) m h) (one m (x * 2 ^ 1088) (mul-pos p (pow_pos 1088)) h))
]
  where
    positive : (s m : ℕ) → s < m → 0 < m
    positive s m h = omega arith

    one : (p s : ℕ) → 0 < s → s < p → Near 1 p s
    one p s h k = inr (refl, omega arith, omega arith)
