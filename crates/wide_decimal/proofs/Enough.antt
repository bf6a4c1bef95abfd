-- With 64 bits or more, of whatever unit, the last bit decides the rounding too: a double keeps 53 of them. Assumes nothing.
use mathlib.Core.Path.{◌≡◌, refl, sym, ap, ◌∙◌}
use mathlib.Core.Bool.{Bool}
use mathlib.Core.Logic.{◌⊎◌, inl, inr}
use Prim.Native.Nat.{ℕ, zero, suc, ◌+◌, ◌-◌, ◌*◌, ◌/◌, ◌^◌, ◌≤◌, ◌<◌}
use native.Mathlib.Nat.{eq-or-lt_of_le, pow-suc, lt_irrefl, lt_of_not-le, le_trans, le_of_eq, lt_of_lt_of_le, lt_of_le_of_lt, mul_assoc, mul_comm, mul-pos, mul-le-mul_right, mul-lt-mul_of_pos_right, le-div_iff_mul-le, div-lt_iff_lt-mul}
use native.Mathlib.Omega.{arith}
use lib.Pow.{pow-add, pow_pos, pow_mono}
use lib.Ieee.{binary64, size, units, round}
use lib.Ieee.Digits.{size-lt, size_reaches}
use lib.Ieee.Fits.{round_is}
use lib.Ieee.Nearest.{closest, closest_same}
use lib.Ieee.Scale.{round_same}
use Rattle.fma.proofs.Packing.{size_is}
use Rattle.wide_decimal.specs.Limbs.{weight}
use Rattle.wide_decimal.specs.Near.{Near}
use Rattle.wide_decimal.proofs.Nears.{near_same, near-round}

-- a / b has 53 bits and K more, in the smallest double
rounds : (g : Bool) (a b K : ℕ) → 0 < b → 2 ^ (52 + K) * b ≤ a * 2 ^ 1074 → a * 2 ^ 1074 < 2 ^ (53 + K) * b → round binary64 g a b ≡ units binary64 g (closest (a * 2 ^ 1074) (b * 2 ^ K)) K
rounds g a b K B l h =
    let n = a * 2 ^ 1074 / b in
    let bits : size n ≡ 53 + K = size_is n (52 + K) (53 + K) (next K) ((le-div_iff_mul-le B).1 l) ((div-lt_iff_lt-mul B).1 h) in
    round_is binary64 g a b ∙ ap (λ (k : ℕ). units binary64 g (closest (a * 2 ^ 1074) (b * 2 ^ k)) k) (ap (λ (x : ℕ). x - 53) bits ∙ off K)
  where
    next : (K : ℕ) → 53 + K ≡ suc (52 + K)
    next K = omega arith

    off : (K : ℕ) → 53 + K - 53 ≡ K
    off K = omega arith

-- S stands for X * 2 ^ k / M and has z + 55 bits; C is 2 ^ 1074, J is 2 ^ (1074 - k), and F the bits that a double drops of it
module _ (g : Bool) (S X M k z : ℕ) (B : 0 < M) (few : k ≤ 1074) (low : 2 ^ (z + 54) ≤ S) (high : S < 2 ^ (z + 55)) (n : Near S M (X * 2 ^ k)) where
  abbrev j : ℕ
  j = 1074 - k

  abbrev K : ℕ
  K = z + 2 + j

  abbrev F : ℕ
  F = 4 * 2 ^ z

  P : 0 < F
  P = let some : 0 < 4 = omega arith in mul-pos some (pow_pos z)

  four : F ≡ 2 ^ (z + 2)
  four = mul_comm 4 (2 ^ z) ∙ sym (pow-add 2 z 2)

  C-is : 2 ^ 1074 ≡ 2 ^ k * 2 ^ j
  C-is = ap (λ (x : ℕ). 2 ^ x) (back k few) ∙ pow-add 2 k j
    where
      back : (k : ℕ) → k ≤ 1074 → 1074 ≡ k + (1074 - k)
      back k h = omega arith

  K-is : 2 ^ K ≡ F * 2 ^ j
  K-is = pow-add 2 (z + 2) j ∙ ap (λ (x : ℕ). x * 2 ^ j) (sym four)

  -- ---- the bits of S
  S-low : 2 ^ 52 * F ≤ S
  S-low = le_trans (le_of_eq (ap (λ (x : ℕ). 2 ^ 52 * x) four ∙ sym (pow-add 2 52 (z + 2)) ∙ ap (λ (x : ℕ). 2 ^ x) (sum z))) low
    where
      sum : (z : ℕ) → 52 + (z + 2) ≡ z + 54
      sum z = omega arith

  S-high : S < 2 ^ 53 * F
  S-high = lt_of_lt_of_le high (le_of_eq (ap (λ (x : ℕ). 2 ^ x) (sum z) ∙ pow-add 2 53 (z + 2) ∙ ap (λ (x : ℕ). 2 ^ 53 * x) (sym four)))
    where
      sum : (z : ℕ) → z + 55 ≡ 53 + (z + 2)
      sum z = omega arith

  -- ---- and those of the fraction
  abbrev Y : ℕ
  Y = X * 2 ^ k

  whole : S / F ≡ Y / (M * F)
  whole = (near_same S M Y (2 ^ z) B (pow_pos z) n).whole

  Y-low : 2 ^ 52 * (M * F) ≤ Y
  Y-low = (le-div_iff_mul-le (mul-pos B P)).0 (le_trans ((le-div_iff_mul-le P).1 S-low) (le_of_eq whole))

  Y-high : Y < 2 ^ 53 * (M * F)
  Y-high = (div-lt_iff_lt-mul (mul-pos B P)).0 (lt_of_le_of_lt (le_of_eq (sym whole)) ((div-lt_iff_lt-mul P).1 S-high))

  -- ---- in the smallest double
  top : (t b : ℕ) → 2 ^ (t + K) * b ≡ 2 ^ t * (b * F) * 2 ^ j
  top t b = ap (λ (x : ℕ). x * b) (pow-add 2 t K ∙ ap (λ (x : ℕ). 2 ^ t * x) K-is) ∙ regroup (2 ^ t) F (2 ^ j) b
    where
      regroup : (t f j b : ℕ) → t * (f * j) * b ≡ t * (b * f) * j
      regroup t f j b = omega arith

  X-is : X * 2 ^ 1074 ≡ Y * 2 ^ j
  X-is = ap (λ (x : ℕ). X * x) C-is ∙ sym (mul_assoc X (2 ^ k) (2 ^ j))

  S-is : (t : ℕ) → 2 ^ t * (2 ^ k * F) * 2 ^ j ≡ 2 ^ t * F * 2 ^ 1074
  S-is t = regroup (2 ^ t) (2 ^ k) F (2 ^ j) ∙ ap (λ (x : ℕ). 2 ^ t * F * x) (sym C-is)
    where
      regroup : (t k f j : ℕ) → t * (k * f) * j ≡ t * f * (k * j)
      regroup t k f j = omega arith

  S-rounds : round binary64 g S (2 ^ k) ≡ units binary64 g (closest (S * 2 ^ 1074) (2 ^ k * 2 ^ K)) K
  S-rounds =
      rounds g S (2 ^ k) K (pow_pos k) (le_trans (le_of_eq (top 52 (2 ^ k) ∙ S-is 52)) (mul-le-mul_right (2 ^ 1074) S-low))
      (lt_of_lt_of_le (mul-lt-mul_of_pos_right S-high (pow_pos 1074)) (le_of_eq (sym (top 53 (2 ^ k) ∙ S-is 53))))

  X-rounds : round binary64 g X M ≡ units binary64 g (closest (X * 2 ^ 1074) (M * 2 ^ K)) K
  X-rounds =
      rounds g X M K B (le_trans (le_of_eq (top 52 M)) (le_trans (mul-le-mul_right (2 ^ j) Y-low) (le_of_eq (sym X-is))))
      (lt_of_le_of_lt (le_of_eq X-is) (lt_of_lt_of_le (mul-lt-mul_of_pos_right Y-high (pow_pos j)) (le_of_eq (sym (top 53 M)))))

  S-near : closest (S * 2 ^ 1074) (2 ^ k * 2 ^ K) ≡ closest S F
  S-near =
      closest_same (S * 2 ^ 1074) (2 ^ k * 2 ^ K) S F (mul-pos (pow_pos k) (pow_pos K)) P
      (ap (λ (x : ℕ). S * x * F) C-is ∙ regroup S (2 ^ k) (2 ^ j) F ∙ ap (λ (x : ℕ). S * (2 ^ k * x)) (sym K-is))
    where
      regroup : (s k j f : ℕ) → s * (k * j) * f ≡ s * (k * (f * j))
      regroup s k j f = omega arith

  X-near : closest (X * 2 ^ 1074) (M * 2 ^ K) ≡ closest Y (M * F)
  X-near =
      closest_same (X * 2 ^ 1074) (M * 2 ^ K) Y (M * F) (mul-pos B (pow_pos K)) (mul-pos B P)
      (ap (λ (x : ℕ). x * (M * F)) X-is ∙ regroup Y (2 ^ j) M F ∙ ap (λ (x : ℕ). Y * (M * x)) (sym K-is))
    where
      regroup : (y j m f : ℕ) → y * j * (m * f) ≡ y * (m * (f * j))
      regroup y j m f = omega arith

  enough : round binary64 g S (2 ^ k) ≡ round binary64 g X M
  enough = S-rounds ∙ ap (λ (x : ℕ). units binary64 g x K) (S-near ∙ (near_same S M Y (2 ^ z) B (pow_pos z) n).near ∙ sym X-near) ∙ sym X-rounds

-- S of 64 bits or more
pub near-enough : (g : Bool) (S X M k : ℕ) → 0 < M → k ≤ 1074 → 2 ^ 64 ≤ S → Near S M (X * 2 ^ k) → round binary64 g S (2 ^ k) ≡ round binary64 g X M
near-enough g S X M k B few big n =
    let y = size S in
    let long : 64 < y = longer S big in
    let e : y - 55 + 55 ≡ y = omega arith in
    let l : y - 55 + 54 < y = omega arith in
    enough g S X M k (y - 55) B few (size_reaches S (y - 55 + 54) l) (rw e (size-lt S)) n
  where
    longer : (S : ℕ) → 2 ^ 64 ≤ S → 64 < size S
    longer S h = lt_of_not-le (λ (g : size S ≤ 64). lt_irrefl S (lt_of_lt_of_le (size-lt S) (le_trans (pow_mono g) h)))

-- ---- in digits of 32 bits: all 34 of them, or 64 bits in all
weight_is : (n : ℕ) → weight n ≡ 2 ^ (32 * n)
weight_is zero = refl
weight_is (suc n) = pow-suc (2 ^ 32) n ∙ ap (λ (x : ℕ). x * 2 ^ 32) (weight_is n) ∙ sym (pow-add 2 (32 * n) 32) ∙ ap (λ (x : ℕ). 2 ^ x) (next n)
  where
    next : (n : ℕ) → 32 * n + 32 ≡ 32 * suc n
    next n = omega arith

pub told : (g : Bool) (S x m n : ℕ) → 0 < m → n ≤ 34 → (n ≡ 34) ⊎ (2 ^ 64 ≤ S) → Near S m (x * weight n) → round binary64 g (S * 2 ^ (2208 - 32 * n)) (2 ^ 2208) ≡ round binary64 g x m
told g S x m n M l (inl e) t = rw e (near-round g S x m M (rw e at t))
told g S x m n M l (inr big) t = elim (eq-or-lt_of_le l) [
  | inl e ↦ rw e (near-round g S x m M (rw e at t))
  | inr h ↦ (
      let sum : 2208 - 32 * n + 32 * n ≡ 2208 = omega arith in
      let few : 32 * n ≤ 1074 = omega arith in
      round_same binary64 g (S * 2 ^ (2208 - 32 * n)) (2 ^ 2208) S (2 ^ (32 * n)) (pow_pos 2208) (pow_pos (32 * n)) (mul_assoc S (2 ^ (2208 - 32 * n)) (2 ^ (32 * n)) ∙ ap (λ (z : ℕ). S * z) (sym (pow-add 2 (2208 - 32 * n) (32 * n)) ∙ ap (λ (z : ℕ). 2 ^ z) sum))
      ∙ near-enough g S x m (32 * n) M few big (rw (weight_is n) at t)
      )
]
