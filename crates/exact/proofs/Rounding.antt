-- The error of one rounding, `round binary64`, in whole numbers of 2 ^ -1074: half a unit in the last place, in the normal range and below. Assumes nothing.
use mathlib.Core.Path.{◌≡◌, refl, sym, ap, ◌∙◌, subst}
use mathlib.Core.Logic.{◌⊎◌, inl, inr}
use mathlib.Core.Bool.{Bool, true, false, cond}
use Prim.Native.Nat.{ℕ, ◌+◌, ◌-◌, ◌*◌, ◌/◌, ◌^◌, ◌≤◌, ◌<◌}
use native.Mathlib.Nat.{le_trans, le_of_eq, lt_of_lt_of_le, eq-or-lt_of_le, eq-zero-or-pos, mul_assoc, mul_comm, mul-one, one-mul, mul-pos, mul-le-mul_left, le_of_mul-le-mul_right, lt_of_mul-lt-mul_right, div-lt_iff_lt-mul, le-div_iff_mul-le, mul_left_comm, mul-lt-mul_of_pos_right}
use native.Mathlib.Omega.{arith}
use lib.Dec.{T, ltb, ltb→lt, lit<}
use lib.Pow.{pow-add, pow_pos, pow_mono, shl_lt}
use lib.Ieee.{Float, inf, binary64, size, odd, units, round}
use lib.Ieee.Digits.{size-le, size_reaches}
use lib.Ieee.Fits.{round_is}
use lib.Ieee.Exact.{units_val, round_exact}
use lib.Ieee.Nearest.{closest}
use lib.Ieee.Order.{drop, kept}
use lib.Ieee.Scale.{finite, grid, overflow, round_same}
use Rattle.exact.specs.Value.{Units}
use Rattle.exact.specs.Near.{Off, Within, Part}
use Rattle.exact.proofs.Half.{closest-half, closest-whole}
use Rattle.exact.proofs.Value.{pow-split}

-- ---- from a half of the unit u that is kept to each way of saying it. d is v c: the answer v, times c
-- the unit u is c, or 2 ^ 52 of it are at most n
as_within : (v n c u : ℕ) → v * c * 2 ≤ n * 2 + u → n * 2 ≤ v * c * 2 + u → ((u ≡ c) ⊎ (u * 2 ^ 52 ≤ n)) → Within v n c
as_within v n c u h l (inl e) = record { over = omega arith; under = omega arith }
as_within v n c u h l (inr e) = record { over = omega arith; under = omega arith }

as_part : (v n u : ℕ) → v * 2 ≤ n * 2 + u → n * 2 ≤ v * 2 + u → ((u ≡ 1) ⊎ (u * 2 ^ 52 ≤ n)) → Part v n
as_part v n u h l (inl e) = record { over = omega arith; under = omega arith }
as_part v n u h l (inr e) = record { over = omega arith; under = omega arith }

as_off : (v n c u e : ℕ) → v * c * 2 ≤ n * 2 + u → n * 2 ≤ v * c * 2 + u → u ≤ c * (e * 2) → Off v n c e
as_off v n c u e h l g = record { over = omega arith; under = omega arith }

-- ---- a / c is n / c units, n = a 2 ^ 1074; `round` drops k digits of its whole part, so that the unit kept is c 2 ^ k, and answers `grid` units
module _ (n c : ℕ) (C : 0 < c) where
  abbrev unit : ℕ
  unit = c * 2 ^ drop 53 n c

  abbrev answer : ℕ
  answer = kept 53 n c * 2 ^ drop 53 n c

  regroup : kept 53 n c * unit ≡ answer * c
  regroup = ap (λ (x : ℕ). kept 53 n c * x) (mul_comm c (2 ^ drop 53 n c)) ∙ sym (mul_assoc (kept 53 n c) (2 ^ drop 53 n c) c)

  answer-over : answer * c * 2 ≤ n * 2 + unit
  answer-over = subst (λ (x : ℕ). x * 2 ≤ n * 2 + unit) regroup (closest-half n unit (mul-pos C (pow_pos (drop 53 n c)))).over

  answer-under : n * 2 ≤ answer * c * 2 + unit
  answer-under = subst (λ (x : ℕ). n * 2 ≤ x * 2 + unit) regroup (closest-half n unit (mul-pos C (pow_pos (drop 53 n c)))).under

  -- nothing is dropped, or what is kept has all 53 digits
  full : (drop 53 n c ≡ 0) ⊎ (unit * 2 ^ 52 ≤ n)
  full = elim (eq-zero-or-pos (drop 53 n c)) [
    | inl z ↦ inl z
    | inr p ↦ inr (all (drop 53 n c) (size_reaches (n / c) (52 + drop 53 n c) (more (size (n / c)) p)))
  ]
    where
      more : (z : ℕ) → 0 < z - 53 → 52 + (z - 53) < z
      more z h = omega arith

      all : (k : ℕ) → 2 ^ (52 + k) ≤ n / c → c * 2 ^ k * 2 ^ 52 ≤ n
      all k h =
          le_trans
          (le_of_eq (mul_assoc c (2 ^ k) (2 ^ 52) ∙ ap (λ (x : ℕ). c * x) (mul_comm (2 ^ k) (2 ^ 52) ∙ sym (pow-add 2 52 k)) ∙ mul_comm c (2 ^ (52 + k))))
          ((le-div_iff_mul-le C).0 h)

  answer-within : Within answer n c
  answer-within =
      as_within answer n c unit answer-over answer-under
      (elim full [ inl z ↦ inl (ap (λ (k : ℕ). c * 2 ^ k) z ∙ mul-one c) | inr h ↦ inr h ])

-- ---- a finite result has the sign asked for and the value `grid`
units_under : (s : Bool) (q k : ℕ) → T (finite (units binary64 s q k)) → q * 2 ^ k < overflow binary64
unfolding units
units_under s q k = by (ltb (q * 2 ^ k) (overflow binary64)) (ltb→lt (q * 2 ^ k) (overflow binary64))
  where
    by : (b : Bool) → (T b → q * 2 ^ k < overflow binary64) → T (finite (cond b (odd 54 s q k 1074) (inf s))) → q * 2 ^ k < overflow binary64
    by true h t = h tt
    by false h t = absurd t

at-grid : (s : Bool) (a c : ℕ) → grid binary64 a c < overflow binary64 → Units (round binary64 s a c) s (grid binary64 a c)
at-grid s a c h =
    subst (λ (z : Float). Units z s (grid binary64 a c)) (sym (round_is binary64 s a c))
    (units_val binary64 s (kept 53 (a * 2 ^ 1074) c) (drop 53 (a * 2 ^ 1074) c) h)

pub round-value : (s : Bool) (a c : ℕ) → T (finite (round binary64 s a c)) → Units (round binary64 s a c) s (grid binary64 a c)
round-value s a c t =
    at-grid s a c (units_under s (kept 53 (a * 2 ^ 1074) c) (drop 53 (a * 2 ^ 1074) c) (subst (λ (z : Float). T (finite z)) (round_is binary64 s a c) t))

-- THE ERROR OF ONE ROUNDING. A finite result of rounding a / c is within a part in 2 ^ 53 of a / c, or within 2 ^ -1075.
pub round-within : (s : Bool) (a c : ℕ) → 0 < c → T (finite (round binary64 s a c)) → Units (round binary64 s a c) s (grid binary64 a c) × Within (grid binary64 a c) (a * 2 ^ 1074) c
round-within s a c C t = (round-value s a c t, answer-within (a * 2 ^ 1074) c C)

-- ---- a whole number of units, as a sum of two doubles is: only the part in 2 ^ 53 is left
pub round-part : (s : Bool) (n : ℕ) → T (finite (round binary64 s n (2 ^ 1074))) → Units (round binary64 s n (2 ^ 1074)) s (grid binary64 n (2 ^ 1074)) × Part (grid binary64 n (2 ^ 1074)) n
round-part s n t =
    let c = 2 ^ 1074 in
    let m = n * 2 ^ 1074 in (
      round-value s n c t,
      part (grid binary64 n c) n c (drop 53 m c) (pow_pos 1074) (answer-over m c (pow_pos 1074)) (answer-under m c (pow_pos 1074)) (full m c (pow_pos 1074)),
    )
  where
    gone : (x y p c : ℕ) → 0 < c → x * c * 2 ≤ y * c * 2 + c * p → x * 2 ≤ y * 2 + p
    gone x y p c C h = le_of_mul-le-mul_right {m = x * 2} {n = y * 2 + p} {k = c} (omega arith) C

    part : (v n c k : ℕ) → 0 < c → v * c * 2 ≤ n * c * 2 + c * 2 ^ k → n * c * 2 ≤ v * c * 2 + c * 2 ^ k → ((k ≡ 0) ⊎ (c * 2 ^ k * 2 ^ 52 ≤ n * c)) → Part v n
    part v n c k C h l o =
        as_part v n (2 ^ k) (gone v n (2 ^ k) c C h) (gone n v (2 ^ k) c C l)
        (elim o [ inl z ↦ inl (ap (λ (x : ℕ). 2 ^ x) z) | inr g ↦ inr (le_of_mul-le-mul_right (le_trans (le_of_eq (turn c (2 ^ k) (2 ^ 52))) g) C) ])
      where
        turn : (c p q : ℕ) → p * q * c ≡ c * p * q
        turn c p q = mul_comm (p * q) c ∙ sym (mul_assoc c p q)

-- ---- below a known power of two: a / c is at most 2 ^ (53 + j) units, so the answer is off by half of 2 ^ j units at most, and finite
-- (j = suc i, so that the half is the whole number 2 ^ i)
pub round-off : (s : Bool) (a c i : ℕ) → 0 < c → a * 2 ^ 1074 ≤ 2 ^ (54 + i) * c → 2 ^ (54 + i) + 2 ^ (1 + i) ≤ 2 ^ 2098 → (v : ℕ) × Units (round binary64 s a c) s v × Off v (a * 2 ^ 1074) c (2 ^ i)
round-off s a c i C h o = elim (eq-or-lt_of_le h) [ inl e ↦ at e | inr l ↦ below l ]
  where
    n : ℕ
    n = a * 2 ^ 1074

    drops : (z i : ℕ) → z ≤ 54 + i → z - 53 ≤ 1 + i
    drops z i h = omega arith

    room : (v n c p q e : ℕ) → n < p * c → v * c ≤ n + c * e → q ≡ e * 2 → v * c < (p + q) * c
    room v n c p q e h l g =
        let x : q * c ≡ e * 2 * c = ap (λ (z : ℕ). z * c) g in
        omega arith

    below : a * 2 ^ 1074 < 2 ^ (54 + i) * c → (v : ℕ) × Units (round binary64 s a c) s v × Off v (a * 2 ^ 1074) c (2 ^ i)
    below l =
        let kept-le : drop 53 n c ≤ 1 + i = drops (size (n / c)) i (size-le (n / c) (54 + i) ((div-lt_iff_lt-mul C).1 l)) in
        let two : 2 ^ (1 + i) ≡ 2 ^ i * 2 = pow-add 2 1 i ∙ mul_comm 2 (2 ^ i) in
        let off : Off (grid binary64 a c) n c (2 ^ i) = as_off (grid binary64 a c) n c (unit n c C) (2 ^ i) (answer-over n c C) (answer-under n c C) (le_trans (mul-le-mul_left c (pow_mono kept-le)) (le_of_eq (ap (λ (x : ℕ). c * x) two))) in
        let small : grid binary64 a c < overflow binary64 = lt_of_lt_of_le (lt_of_mul-lt-mul_right c (room (grid binary64 a c) n c (2 ^ (54 + i)) (2 ^ (1 + i)) (2 ^ i) l off.over two)) o in
        (grid binary64 a c, at-grid s a c small, off)

    -- at the power of two itself nothing is rounded
    less : (p q r : ℕ) → 0 < q → p + q ≤ r → 1 * p < r
    less p q r h k = omega arith

    none : (x y : ℕ) → x ≤ x + y
    none x y = omega arith

    at : a * 2 ^ 1074 ≡ 2 ^ (54 + i) * c → (v : ℕ) × Units (round binary64 s a c) s v × Off v (a * 2 ^ 1074) c (2 ^ i)
    at e =
        let p = 2 ^ (54 + i) in (
          p,
          subst (λ (z : Float). Units z s p) (sym (round_same binary64 s a c p (2 ^ 1074) C (pow_pos 1074) e))
              (round_exact binary64 s p (2 ^ 1074) 1 (54 + i) (pow_pos 1074) (lit< tt) (less p (2 ^ (1 + i)) (2 ^ 2098) (pow_pos (1 + i)) o) (ap (λ (m : ℕ). m * 2 ^ 1074) (sym (one-mul p)))),
          record { over = le_trans (le_of_eq (sym e)) (none n (c * 2 ^ i)); under = le_trans (le_of_eq e) (none (p * c) (c * 2 ^ i)) },
        )

-- ---- exactly representable: a fraction that is d 2 ^ j units with d below 2 ^ 53 is not rounded
pub round-none : (s : Bool) (a c d j : ℕ) → 0 < c → d < 2 ^ 53 → a * 2 ^ 1074 ≡ d * 2 ^ j * c → d * 2 ^ j < 2 ^ 2098 → Units (round binary64 s a c) s (d * 2 ^ j)
round-none s a c d j C h e l =
    subst (λ (z : Float). Units z s (d * 2 ^ j)) (sym (round_same binary64 s a c (d * 2 ^ j) (2 ^ 1074) C (pow_pos 1074) e))
    (round_exact binary64 s (d * 2 ^ j) (2 ^ 1074) d j (pow_pos 1074) h l refl)

-- the same where it is only known that the result is finite
pub round-finite : (s : Bool) (a c d j : ℕ) → 0 < c → d < 2 ^ 53 → a * 2 ^ 1074 ≡ d * 2 ^ j * c → T (finite (round binary64 s a c)) → Units (round binary64 s a c) s (d * 2 ^ j)
round-finite s a c d j C h e t =
    let n = a * 2 ^ 1074 in
    let k = drop 53 n c in
    let k-le : k ≤ j =
    spare (size (n / c)) j
    (size-le (n / c) (53 + j) ((div-lt_iff_lt-mul C).1 (subst (λ (x : ℕ). x < 2 ^ (53 + j) * c) (sym e) (mul-lt-mul_of_pos_right (shl_lt 53 j h) C)))) in
    let split : 2 ^ (j - k) * 2 ^ k ≡ 2 ^ j = pow-split k j k-le in
    let whole : n ≡ d * 2 ^ (j - k) * (c * 2 ^ k) = e ∙ ap (λ (x : ℕ). d * x * c) (sym split) ∙ regrouped d (2 ^ (j - k)) (2 ^ k) c in
    let kept-is : kept 53 n c ≡ d * 2 ^ (j - k) = ap (λ (x : ℕ). closest x (c * 2 ^ k)) whole ∙ closest-whole (d * 2 ^ (j - k)) (c * 2 ^ k) (mul-pos C (pow_pos k)) in
    subst (λ (x : ℕ). Units (round binary64 s a c) s x) (ap (λ (x : ℕ). x * 2 ^ k) kept-is ∙ mul_assoc d (2 ^ (j - k)) (2 ^ k) ∙ ap (λ (x : ℕ). d * x) split) (round-value s a c t)
  where
    spare : (z j : ℕ) → z ≤ 53 + j → z - 53 ≤ j
    spare z j h = omega arith

    regrouped : (d x y c : ℕ) → d * (x * y) * c ≡ d * x * (c * y)
    regrouped d x y c = simp (mul_assoc, mul_comm, mul_left_comm)
