-- Rounding a whole number n to 53 binary digits: no number of 53 digits is nearer to n than the result. From that alone, a number of 53 digits stays and the
-- order is kept. A common power of two is kept too, and the error is a part in 2 ^ 53 at most. Assumes nothing.
use mathlib.Core.Path.{◌≡◌, refl, sym, ap, ◌∙◌, subst}
use mathlib.Core.Logic.{◌⊎◌, inl, inr}
use Prim.Native.Nat.{ℕ, suc, ◌+◌, ◌-◌, ◌*◌, ◌^◌, ◌≤◌, ◌<◌}
use native.Mathlib.Nat.{le_trans, le_of_eq, le_of_lt, lt_of_lt_of_le, lt_of_le_of_lt, not-le_of_lt, eq-zero-or-pos, eq-or-lt_of_le, mul_assoc, mul-one, mul-pos, mul-le-mul_right, lt_of_mul-lt-mul_right, mul-div_cancel, suc-mul}
use native.Mathlib.Omega.{arith}
use lib.Dec.{lit<}
use lib.Pow.{pow-add, pow_pos, pow_mono, shl_lt}
use lib.Ieee.{size}
use lib.Ieee.Digits.{size-lt, size_reaches}
use lib.Ieee.Nearest.{closest, closest_same}
use lib.Ieee.Order.{drop, kept}
use Rattle.exact.specs.Near.{Half, Part}
use Rattle.exact.specs.Signed.{dist}
use Rattle.exact.specs.Rounds.{rnd}
use Rattle.exact.proofs.Naturals.{below_or}
use Rattle.exact.proofs.Half.{closest-half}
use Rattle.exact.proofs.Value.{pow-split}
use Rattle.exact.proofs.Few.{Few}

-- ---- sizes that a double can have
pub few-none : Few 0
few-none = record { digits = 0; shift = 0; few = lit< tt; is = omega arith }

pub few-short : (n : ℕ) → n < 2 ^ 53 → Few n
few-short n l = record { digits = n; shift = 0; few = l; is = sym (mul-one n) }

-- 2 ^ 53 itself is one, shifted or not
pub few-most : (q d : ℕ) → q ≤ 2 ^ 53 → Few (q * 2 ^ d)
few-most q d h = elim (eq-or-lt_of_le h) [
  | inl e ↦ record { digits = 2 ^ 52; shift = 1 + d; few = lit< tt; is = ap (λ (z : ℕ). z * 2 ^ d) e ∙ mul_assoc (2 ^ 52) 2 (2 ^ d) ∙ ap (λ (z : ℕ). 2 ^ 52 * z) (sym (pow-add 2 1 d)) }
  | inr l ↦ record { digits = q; shift = d; few = l; is = refl }
]

-- ---- it is what `round` answers, in units
pub grid-is : (n c : ℕ) → 0 < c → kept 53 (n * c) c * 2 ^ drop 53 (n * c) c ≡ rnd n
unfolding rnd
grid-is n c C =
    let u = 2 ^ (size n - 53) in
    ap (λ (z : ℕ). closest (n * c) (c * 2 ^ (size z - 53)) * 2 ^ (size z - 53)) (mul-div_cancel n C)
    ∙ ap (λ (z : ℕ). z * u) (closest_same (n * c) (c * u) n u (mul-pos C (pow_pos (size n - 53))) (pow_pos (size n - 53)) (mul_assoc n c u))

-- ---- the nearest multiple q u of u: no other is nearer
best : (q n u w e : ℕ) → Half q n u → w * u ≤ n + e → n ≤ w * u + e → (q * u ≤ n + e) × (n ≤ q * u + e)
best q n u w e h a b = elim (below_or w q) [ inl l ↦ one (mul-le-mul_right u l) (suc-mul w u) | inr l ↦ elim (eq-or-lt_of_le l) [ inl i ↦ two i | inr g ↦ three (mul-le-mul_right u g) (suc-mul q u) ] ]
  where
    one : suc w * u ≤ q * u → suc w * u ≡ w * u + u → (q * u ≤ n + e) × (n ≤ q * u + e)
    one l i = omega (arith, h.over, h.under)

    two : q ≡ w → (q * u ≤ n + e) × (n ≤ q * u + e)
    two i = subst (λ (z : ℕ). (z * u ≤ n + e) × (n ≤ z * u + e)) (sym i) (a, b)

    three : suc q * u ≤ w * u → suc q * u ≡ q * u + u → (q * u ≤ n + e) × (n ≤ q * u + e)
    three l i = omega (arith, h.over, h.under)

module _ (n : ℕ) where
  abbrev d : ℕ
  d = size n - 53

  half : Half (closest n (2 ^ d)) n (2 ^ d)
  half = closest-half n (2 ^ d) (pow_pos d)

  -- nothing is dropped, or what is kept has all 53 digits
  full : (d ≡ 0) ⊎ (2 ^ 52 * 2 ^ d ≤ n)
  full = elim (eq-zero-or-pos d) [
    | inl z ↦ inl z
    | inr p ↦ inr (le_trans (le_of_eq (sym (pow-add 2 52 d))) (size_reaches n (52 + d) (more (size n) p)))
  ]
    where
      more : (z : ℕ) → 0 < z - 53 → 52 + (z - 53) < z
      more z h = omega arith

  below : n < 2 ^ 53 * 2 ^ d
  below = lt_of_lt_of_le (size-lt n) (le_trans (pow_mono (most (size n))) (le_of_eq (pow-add 2 53 d)))
    where
      most : (z : ℕ) → z ≤ 53 + (z - 53)
      most z = omega arith

  -- NO NUMBER OF 53 DIGITS IS NEARER: where z is within e of n, so is the result
  pub nearest : (z e : ℕ) → Few z → z ≤ n + e → n ≤ z + e → (rnd n ≤ n + e) × (n ≤ rnd n + e)
  unfolding rnd
  nearest z e f a b = elim (below_or f.shift d) [ inl l ↦ fine l | inr l ↦ coarse l ]
    where
      coarse : d ≤ f.shift → (closest n (2 ^ d) * 2 ^ d ≤ n + e) × (n ≤ closest n (2 ^ d) * 2 ^ d + e)
      coarse l =
          let w = f.digits * 2 ^ (f.shift - d) in
          let i : z ≡ w * 2 ^ d = f.is ∙ ap (λ (x : ℕ). f.digits * x) (sym (pow-split d f.shift l)) ∙ sym (mul_assoc f.digits (2 ^ (f.shift - d)) (2 ^ d)) in
          best (closest n (2 ^ d)) n (2 ^ d) w e half (subst (λ (x : ℕ). x ≤ n + e) i a) (subst (λ (x : ℕ). n ≤ x + e) i b)

      fine : f.shift < d → (closest n (2 ^ d) * 2 ^ d ≤ n + e) × (n ≤ closest n (2 ^ d) * 2 ^ d + e)
      fine l =
          let s : z ≤ 2 ^ 52 * 2 ^ d =
          le_trans (le_of_eq f.is) (le_trans (le_of_lt (shl_lt 53 f.shift f.few)) (le_trans (pow_mono (next f.shift d l)) (le_of_eq (pow-add 2 52 d)))) in
          let t : 2 ^ 52 * 2 ^ d ≤ n = elim full [ inl y ↦ absurd (none f.shift d l y) | inr y ↦ y ] in
          best (closest n (2 ^ d)) n (2 ^ d) (2 ^ 52) e half (le_trans t (plus n e)) (le_trans b (over z (2 ^ 52 * 2 ^ d) e s))
        where
          next : (j d : ℕ) → j < d → 53 + j ≤ 52 + d
          next j d h = omega arith

          none : (j d : ℕ) → j < d → d ≡ 0 → ⊥
          none j d h i = omega arith

          plus : (x y : ℕ) → x ≤ x + y
          plus x y = omega arith

          over : (x y e : ℕ) → x ≤ y → x + e ≤ y + e
          over x y e h = omega arith

  pub rnd-exact : Few n → rnd n ≡ n
  rnd-exact f = by (nearest n 0 f (le_of_eq (zero n)) (le_of_eq (zero n)))
    where
      zero : (x : ℕ) → x ≡ x + 0
      zero x = omega arith

      by : (rnd n ≤ n + 0) × (n ≤ rnd n + 0) → rnd n ≡ n
      by h = omega (arith, h.0, h.1)

  -- ---- the result has 53 digits again
  pub rnd-few : Few (rnd n)
  unfolding rnd
  rnd-few = few-most (closest n (2 ^ d)) d (small (closest n (2 ^ d)) (2 ^ d) half below)
    where
      small : (q u : ℕ) → Half q n u → n < 2 ^ 53 * u → q ≤ 2 ^ 53
      small q u h l = elim (below_or (2 ^ 53) q) [ inl g ↦ absurd (clash (mul-le-mul_right u g)) | inr g ↦ g ]
        where
          clash : suc (2 ^ 53) * u ≤ q * u → ⊥
          clash g = omega (arith, h.over)

  lower : (k : ℕ) → k ≤ d → rnd n ≡ closest n (2 ^ d) * 2 ^ (d - k) * 2 ^ k
  unfolding rnd
  lower k l = sym (mul_assoc (closest n (2 ^ d)) (2 ^ (d - k)) (2 ^ k) ∙ ap (λ (x : ℕ). closest n (2 ^ d) * x) (pow-split k d l))

  -- ---- a power of two that divides n divides the result
  pub rnd-multiple : (r k : ℕ) → n ≡ r * 2 ^ k → (t : ℕ) × (rnd n ≡ t * 2 ^ k)
  rnd-multiple r k e = elim (below_or d k) [
    | inl l ↦ (r, rnd-exact (record { digits = r; shift = k; few = less l; is = e }) ∙ e)
    | inr l ↦ (closest n (2 ^ d) * 2 ^ (d - k), lower k l)
  ]
    where
      less : d < k → r < 2 ^ 53
      less l =
          lt_of_mul-lt-mul_right (2 ^ k)
          (lt_of_le_of_lt (le_of_eq (sym e)) (lt_of_lt_of_le below (le_trans (le_of_eq (sym (pow-add 2 53 d))) (le_trans (pow_mono (more d k l)) (le_of_eq (pow-add 2 53 k))))))
        where
          more : (d k : ℕ) → d < k → 53 + d ≤ 53 + k
          more d k h = omega arith

  -- a large number rounds to a multiple of a known power of two
  pub rnd-large : (m : ℕ) → 2 ^ (52 + m) ≤ n → (t : ℕ) × (rnd n ≡ t * 2 ^ m)
  rnd-large m h = elim (below_or d m) [ inl l ↦ absurd (not-le_of_lt (lt_of_le_of_lt h below) (le_trans (le_of_eq (sym (pow-add 2 53 d))) (pow_mono (next d m l)))) | inr l ↦ (closest n (2 ^ d) * 2 ^ (d - m), lower m l) ]
    where
      next : (d m : ℕ) → d < m → 53 + d ≤ 52 + m
      next d m h = omega arith

  -- ---- the error
  pub rnd-part : Part (rnd n) n
  unfolding rnd
  rnd-part = by (closest n (2 ^ d)) (2 ^ d) half (elim full [ inl z ↦ inl (ap (λ (x : ℕ). 2 ^ x) z) | inr l ↦ inr l ])
    where
      by : (q u : ℕ) → Half q n u → ((u ≡ 1) ⊎ (2 ^ 52 * u ≤ n)) → Part (q * u) n
      by q u h (inl e) = record { over = omega (arith, h.over, h.under); under = omega (arith, h.over, h.under) }
      by q u h (inr l) = record { over = omega (arith, h.over, h.under); under = omega (arith, h.over, h.under) }

-- ---- the order is kept
pub rnd-mono : (m n : ℕ) → m ≤ n → rnd m ≤ rnd n
rnd-mono m n h = elim (eq-or-lt_of_le h) [ inl e ↦ le_of_eq (ap rnd e) | inr l ↦ elim (below_or (rnd n) (rnd m)) [ inl g ↦ absurd (cross l g) | inr g ↦ g ] ]
  where
    cross : m < n → rnd n < rnd m → ⊥
    cross l g =
        clash (rnd m) (rnd n) g (nearest m (rnd n) (dist (rnd n) m) (rnd-few n) (over (rnd n) m) (under (rnd n) m)) (nearest n (rnd m) (dist (rnd m) n) (rnd-few m) (over (rnd m) n) (under (rnd m) n))
      where
        over : (a b : ℕ) → a ≤ b + dist a b
        over a b = omega arith

        under : (a b : ℕ) → b ≤ a + dist a b
        under a b = omega arith

        clash : (p q : ℕ) → q < p → (p ≤ m + dist q m) × (m ≤ p + dist q m) → (q ≤ n + dist p n) × (n ≤ q + dist p n) → ⊥
        clash p q g a b = omega (arith, a.0, a.1, b.0, b.1)
