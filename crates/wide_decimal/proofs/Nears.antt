-- The relation `Near`: how a division makes it, that it goes through a second division by an even number, and that it rounds as the fraction does. Assumes nothing.
use mathlib.Core.Path.{◌≡◌, refl, sym, ap, ◌∙◌}
use mathlib.Core.Bool.{Bool}
use mathlib.Core.Logic.{◌⊎◌, inl, inr}
use Prim.Native.Nat.{ℕ, suc, ◌+◌, ◌-◌, ◌*◌, ◌/◌, ◌%◌, ◌^◌, ◌≤◌, ◌<◌, compare, Ordering}
use native.Mathlib.Nat.{suc-mul, add-mul, mul_assoc, mul-pos, mul-mod_left, mul-le-mul_right, mod-lt, div-add-mod'}
use native.Mathlib.Omega.{arith}
use lib.Arith.{digits_div, digits_mod}
use lib.Dec.{lit<}
use lib.Pow.{pow-add, pow_pos}
use lib.Ieee.{binary64, size, units, nearest, round}
use lib.Ieee.Fits.{round_is}
use lib.Ieee.Nearest.{closest, closest_same, div_same}
use lib.Ieee.Scale.{round_same}
use Rattle.exact.proofs.Order.{Stands, compared}
use Rattle.fma.specs.Sticky.{odd-of}
use Rattle.wide_decimal.specs.Near.{Near}

-- ---- how it is made
pub near-cut : (q r s m : ℕ) → q * m + r ≡ s → 0 < r → r < m → Near (odd-of q) m s
near-cut q r s m e h k = by (odd-of q) (near q (odd-of q) refl)
  where
    near : (q o : ℕ) → o ≡ odd-of q → (o % 2 ≡ 1) × (q ≤ o) × (o ≤ suc q)
    near q o e = omega arith

    by : (o : ℕ) → (o % 2 ≡ 1) × (q ≤ o) × (o ≤ suc q) → Near o m s
    by o n =
        let lo = mul-le-mul_right m n.1 in
        let hi = mul-le-mul_right m n.2 in
        let u = suc-mul q m in
        inr (n.0, omega arith, omega arith)

-- ---- a second division, by an even number
room : (a b c p : ℕ) → a < b + c → a * p + p ≤ b * p + c * p
room a b c p h = let k : suc a * p ≤ (b + c) * p = mul-le-mul_right p h in let l = suc-mul a p in let m = add-mul b c p in omega arith

even : (v h : ℕ) → v * (h * 2) % 2 ≡ 0
even v h = ap (λ (x : ℕ). x % 2) (sym (mul_assoc v h 2)) ∙ mul-mod_left (v * h) 2

both : (w : ℕ) → w % 2 ≡ 1 → w % 2 ≡ 0 → ⊥
both w a b = omega arith

pub near-via : (v w s c b : ℕ) → c % 2 ≡ 0 → 0 < b → Near v c w → Near w b s → Near v (c * b) s
near-via v w s c b E B (inl x) (inl y) = inl (sym (mul_assoc v c b) ∙ ap (λ (z : ℕ). z * b) x ∙ y)
near-via v w s c b E B (inl x) (inr y) =
    let d : c ≡ c / 2 * 2 = omega arith in
    absurd (both w y.0 (ap (λ (z : ℕ). z % 2) (sym x) ∙ ap (λ (z : ℕ). v * z % 2) d ∙ even v (c / 2)))
near-via v w s c b E B (inr x) y =
    let e = mul_assoc v c b in
    let f = room (v * c) w c b x.1 in
    let g = room w (v * c) c b x.2 in
    by e f g y
  where
    by : v * c * b ≡ v * (c * b) → v * c * b + b ≤ w * b + c * b → w * b + b ≤ v * c * b + c * b → Near w b s → Near v (c * b) s
    by e f g (inl y) = inr (x.0, omega arith, omega arith)
    by e f g (inr y) = inr (x.0, omega arith, omega arith)

-- ---- the same whole part, and the same nearest whole number, by 4 h
-- S is q (4 h) + 2 t + 1, and Y is q M (4 h) and something between 2 t M and 2 t M + 2 M
pub record Same (S M Y h : ℕ) : Type 0 where
  pub whole : S / (4 * h) ≡ Y / (M * (4 * h))
  pub near : closest S (4 * h) ≡ closest Y (M * (4 * h))

orders : (w a b c d : ℕ) (x y : Ordering) → Stands x a b → Stands y c d → ((a < b) × (c < d)) ⊎ ((b < a) × (d < c)) → nearest w x ≡ nearest w y
orders w a b c d Ordering.lt Ordering.lt k l h = refl
orders w a b c d Ordering.gt Ordering.gt k l h = refl
orders w a b c d Ordering.lt Ordering.eq k l (inl h) = absurd (omega arith)
orders w a b c d Ordering.lt Ordering.eq k l (inr h) = absurd (omega arith)
orders w a b c d Ordering.lt Ordering.gt k l (inl h) = absurd (omega arith)
orders w a b c d Ordering.lt Ordering.gt k l (inr h) = absurd (omega arith)
orders w a b c d Ordering.eq y k l (inl h) = absurd (omega arith)
orders w a b c d Ordering.eq y k l (inr h) = absurd (omega arith)
orders w a b c d Ordering.gt Ordering.lt k l (inl h) = absurd (omega arith)
orders w a b c d Ordering.gt Ordering.lt k l (inr h) = absurd (omega arith)
orders w a b c d Ordering.gt Ordering.eq k l (inl h) = absurd (omega arith)
orders w a b c d Ordering.gt Ordering.eq k l (inr h) = absurd (omega arith)

split : (S M Y h q r R : ℕ) → q * (4 * h) + r ≡ S → r < 4 * h → q * (M * (4 * h)) + R ≡ Y → R < M * (4 * h)
    → ((r * 2 < 4 * h) × (R * 2 < M * (4 * h))) ⊎ ((4 * h < r * 2) × (M * (4 * h) < R * 2)) → Same S M Y h
split S M Y h q r R e l f k o =
    let a : S / (4 * h) ≡ q = ap (λ (x : ℕ). x / (4 * h)) (sym e) ∙ digits_div q l in
    let b : S % (4 * h) ≡ r = ap (λ (x : ℕ). x % (4 * h)) (sym e) ∙ digits_mod q l in
    let c : Y / (M * (4 * h)) ≡ q = ap (λ (x : ℕ). x / (M * (4 * h))) (sym f) ∙ digits_div q k in
    let d : Y % (M * (4 * h)) ≡ R = ap (λ (x : ℕ). x % (M * (4 * h))) (sym f) ∙ digits_mod q k in
    record {
      whole = a ∙ sym c;
      near =
          ap (λ (x : ℕ). nearest x (compare (S % (4 * h) * 2) (4 * h))) a
          ∙ ap (λ (x : ℕ). nearest q (compare (x * 2) (4 * h))) b
          ∙ orders q (r * 2) (4 * h) (R * 2) (M * (4 * h)) (compare (r * 2) (4 * h)) (compare (R * 2) (M * (4 * h))) (compared (r * 2) (4 * h)) (compared (R * 2) (M * (4 * h))) o
          ∙ ap (λ (x : ℕ). nearest q (compare (x * 2) (M * (4 * h)))) (sym d)
          ∙ ap (λ (x : ℕ). nearest x (compare (Y % (M * (4 * h)) * 2) (M * (4 * h)))) (sym c);
    }

half : (S q r h : ℕ) → q * (4 * h) + r ≡ S → S % 2 ≡ 1 → r ≡ 2 * (r / 2) + 1
half S q r h e o = omega arith

either : (h t : ℕ) (o : Ordering) → Stands o h t → (h ≤ t) ⊎ (t < h)
either h t Ordering.lt k = inl (omega arith)
either h t Ordering.eq k = inl (omega arith)
either h t Ordering.gt k = inr k

near-odd : (S M Y h : ℕ) → 0 < M → 0 < h → S % 2 ≡ 1 → S * M < Y + M → Y < S * M + M → Same S M Y h
near-odd S M Y h B H o lo hi =
    go (S / (4 * h)) (S % (4 * h)) (S % (4 * h) / 2) (div-add-mod' S (4 * h)) (mod-lt S (omega arith)) (half S (S / (4 * h)) (S % (4 * h)) h (div-add-mod' S (4 * h)) o)
  where
    go : (q r t : ℕ) → q * (4 * h) + r ≡ S → r < 4 * h → r ≡ 2 * t + 1 → Same S M Y h
    go q r t e l p =
        let sm : (q * (4 * h) + (2 * t + 1)) * M ≡ S * M = ap (λ (x : ℕ). (q * (4 * h) + x) * M) (sym p) ∙ ap (λ (x : ℕ). x * M) e in
        let top : suc t * M ≤ 2 * h * M = mul-le-mul_right M (omega arith) in
        let low : q * (M * (4 * h)) + 2 * (t * M) < Y = omega arith in
        let high : Y < q * (M * (4 * h)) + 2 * (t * M) + 2 * M = omega arith in
        let R = Y - q * (M * (4 * h)) in
        elim (either h t (compare h t) (compared h t)) [
          | inl g ↦
              let u : h * M ≤ t * M = mul-le-mul_right M g in
              split S M Y h q r R e l (omega arith) (omega arith) (inr (omega arith, omega arith))
          | inr g ↦
              let u : suc t * M ≤ h * M = mul-le-mul_right M g in
              split S M Y h q r R e l (omega arith) (omega arith) (inl (omega arith, omega arith))
        ]

pub near_same : (S M Y h : ℕ) → 0 < M → 0 < h → Near S M Y → Same S M Y h
near_same S M Y h B H (inr a) = near-odd S M Y h B H a.0 a.1 a.2
near_same S M Y h B H (inl a) =
    let P : 0 < 4 * h = omega arith in
    let e : S * (M * (4 * h)) ≡ Y * (4 * h) = sym (mul_assoc S M (4 * h)) ∙ ap (λ (x : ℕ). x * (4 * h)) a in
    record { whole = div_same S (4 * h) Y (M * (4 * h)) P (mul-pos B P) e; near = closest_same S (4 * h) Y (M * (4 * h)) P (mul-pos B P) e }

-- ---- rounded to a double
-- with D = 4 h C: S C by D is S by 4 h
module _ (S M Y C h : ℕ) (B : 0 < M) (H : 0 < h) (c : 0 < C) (n : Near S M Y) where
  scaled-whole : S * C / (4 * h * C) ≡ Y * C / (M * (4 * h * C))
  scaled-whole =
      let P : 0 < 4 * h = omega arith in
      div_same (S * C) (4 * h * C) S (4 * h) (mul-pos P c) P (omega arith)
      ∙ (near_same S M Y h B H n).whole
      ∙ div_same Y (M * (4 * h)) (Y * C) (M * (4 * h * C)) (mul-pos B P) (mul-pos B (mul-pos P c)) (omega arith)

  scaled-near : (k : ℕ) → 0 < k → closest (S * C) (4 * h * C * k) ≡ closest (Y * C) (M * (4 * h * C) * k)
  scaled-near k K =
      let P : 0 < 4 * h = omega arith in
      let Q : 0 < 4 * (h * k) = mul-pos (lit< tt) (mul-pos H K) in
      closest_same (S * C) (4 * h * C * k) S (4 * (h * k)) (mul-pos (mul-pos P c) K) Q (omega arith)
      ∙ (near_same S M Y (h * k) B (mul-pos H K) n).near
      ∙ closest_same Y (M * (4 * (h * k))) (Y * C) (M * (4 * h * C) * k) (mul-pos B Q) (mul-pos (mul-pos B (mul-pos P c)) K) (omega arith)

  near-round-at : (g : Bool) (D : ℕ) → D ≡ 4 * h * C → C ≡ 2 ^ 1074 → round binary64 g S D ≡ round binary64 g Y (M * D)
  near-round-at g D d e =
      let k = size (Y * C / (M * (4 * h * C))) - 53 in
      ap (λ (x : ℕ). round binary64 g S x) d
      ∙ round_is binary64 g S (4 * h * C)
      ∙ ap (λ (z : ℕ). units binary64 g (closest (S * z) (4 * h * C * 2 ^ (size (S * z / (4 * h * C)) - 53))) (size (S * z / (4 * h * C)) - 53)) (sym e)
      ∙ ap (λ (x : ℕ). units binary64 g (closest (S * C) (4 * h * C * 2 ^ x)) x) (ap (λ (x : ℕ). size x - 53) scaled-whole)
      ∙ ap (λ (x : ℕ). units binary64 g x k) (scaled-near (2 ^ k) (pow_pos k))
      ∙ ap (λ (z : ℕ). units binary64 g (closest (Y * z) (M * (4 * h * C) * 2 ^ (size (Y * z / (M * (4 * h * C))) - 53))) (size (Y * z / (M * (4 * h * C))) - 53)) e
      ∙ sym (round_is binary64 g Y (M * (4 * h * C)))
      ∙ ap (λ (x : ℕ). round binary64 g Y (M * x)) (sym d)

-- S stands for X * 2 ^ 1088 / M
pub near-round : (g : Bool) (S X M : ℕ) → 0 < M → Near S M (X * 2 ^ 1088) → round binary64 g (S * 2 ^ 1120) (2 ^ 2208) ≡ round binary64 g X M
near-round g S X M B n =
    round_same binary64 g (S * 2 ^ 1120) (2 ^ 2208) S (2 ^ 1088) (pow_pos 2208) (pow_pos 1088) (mul_assoc S (2 ^ 1120) (2 ^ 1088) ∙ ap (λ (x : ℕ). S * x) (sym (pow-add 2 1120 1088)))
    ∙ near-round-at S M (X * 2 ^ 1088) (2 ^ 1074) (2 ^ 12) B (pow_pos 12) (pow_pos 1074) n g (2 ^ 1088) (pow-add 2 14 1074) refl
    ∙ round_same binary64 g (X * 2 ^ 1088) (M * 2 ^ 1088) X M (mul-pos B (pow_pos 1088)) B (back X (2 ^ 1088) M)
  where
    back : (x d m : ℕ) → x * d * m ≡ x * (m * d)
    back x d m = omega arith
