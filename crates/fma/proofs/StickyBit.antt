-- The relation `Sticky`: how it is made, and that it goes through a second shift, through an even number added or taken off, and through the order. Assumes nothing.
use Rattle.std.proofs.Common.{◌≡◌, ℕ, zero, suc, ◌+◌, ◌-◌, ◌*◌, ◌/◌, ◌%◌, ◌^◌, ◌<◌, ◌≤◌, ◌⊎◌, sym, refl, ap, ◌∙◌, subst, inl, inr, le_trans, le_of_eq, lt_of_lt_of_le, le_of_suc-le-suc, lt_of_le_of_lt, add-zero, mul-le-mul_right, mod-lt, mul_assoc, suc-mul, add-mul, eq-zero-or-pos, mul-lt-mul_of_pos_right, one-mul, pow-suc, lt_of_not-le, div-add-mod', zero-add, mul-one, not-le_of_lt, arith, pow_pos, pow-add}
use native.Mathlib.Nat.{mul-mod_left}
use lib.Pow.{shl-shr}
use Rattle.fma.specs.Sticky.{Sticky, odd-of}

-- ---- small facts
odd_even : (w : ℕ) → w % 2 ≡ 1 → w % 2 ≡ 0 → ⊥
odd_even w a b = omega arith

pow_even : (v i : ℕ) → 0 < i → v * 2 ^ i % 2 ≡ 0
pow_even v zero h = absurd (omega (arith, h))
pow_even v (suc i) h = ap (λ (x : ℕ). v * x % 2) (pow-suc 2 i) ∙ ap (λ (x : ℕ). x % 2) (sym (mul_assoc v (2 ^ i) 2)) ∙ mul-mod_left (v * 2 ^ i) 2

pow-two : (v i j : ℕ) → v * 2 ^ (i + j) ≡ v * 2 ^ i * 2 ^ j
pow-two v i j = ap (λ (x : ℕ). v * x) (pow-add 2 i j) ∙ sym (mul_assoc v (2 ^ i) (2 ^ j))

-- a < b + c, all times p, with room for p more on the left
room : (a b c p : ℕ) → a < b + c → a * p + p ≤ b * p + c * p
room a b c p h = let k : suc a * p ≤ (b + c) * p = mul-le-mul_right p h in let l = suc-mul a p in omega arith

-- ---- how it is made
pub sticky-cut : (q r s j : ℕ) → q * 2 ^ j + r ≡ s → 0 < r → r < 2 ^ j → Sticky (odd-of q) j s
sticky-cut q r s j e h k = by (odd-of q) (near q (odd-of q) refl)
  where
    near : (q o : ℕ) → o ≡ odd-of q → (o % 2 ≡ 1) × (q ≤ o) × (o ≤ suc q)
    near q o e = omega arith

    by : (o : ℕ) → (o % 2 ≡ 1) × (q ≤ o) × (o ≤ suc q) → Sticky o j s
    by o m =
        let lo = mul-le-mul_right (2 ^ j) m.1 in
        let hi = mul-le-mul_right (2 ^ j) m.2 in
        let u = suc-mul q (2 ^ j) in
        inr (m.0, omega arith, omega arith)

pub sticky-self : (s : ℕ) → Sticky s 0 s
sticky-self s = inl (mul-one s)

-- where all is lost
pub sticky-one : (s j : ℕ) → 0 < s → s < 2 ^ j → Sticky 1 j s
sticky-one s j h l = let e = one-mul (2 ^ j) in inr (refl, omega arith, omega arith)

-- ---- a second shift
pub sticky-via : (v w s i j : ℕ) → Sticky v i w → Sticky w j s → Sticky v (i + j) s
sticky-via v w s i j (inl a) (inl b) = inl (pow-two v i j ∙ ap (λ (x : ℕ). x * 2 ^ j) a ∙ b)
sticky-via v w s i j (inl a) (inr b) = elim (eq-zero-or-pos i) [
  | inl z ↦
      let e : v ≡ w = sym (mul-one v) ∙ ap (λ (x : ℕ). v * 2 ^ x) (sym z) ∙ a in
      let f : i + j ≡ j = ap (λ (x : ℕ). x + j) z ∙ zero-add j in
      subst (λ (x : ℕ). Sticky v x s) (sym f) (subst (λ (x : ℕ). Sticky x j s) (sym e) (inr b))
  | inr p ↦ absurd (odd_even w b.0 (ap (λ (x : ℕ). x % 2) (sym a) ∙ pow_even v i p))
]
sticky-via v w s i j (inr a) (inl b) =
    let e = pow-two v i j in
    let f = pow-add 2 i j in
    let p = pow_pos j in
    let x = room (v * 2 ^ i) w (2 ^ i) (2 ^ j) a.1 in
    let y = room w (v * 2 ^ i) (2 ^ i) (2 ^ j) a.2 in
    inr (a.0, omega arith, omega arith)
sticky-via v w s i j (inr a) (inr b) =
    let e = pow-two v i j in
    let f = pow-add 2 i j in
    let x = room (v * 2 ^ i) w (2 ^ i) (2 ^ j) a.1 in
    let y = room w (v * 2 ^ i) (2 ^ i) (2 ^ j) a.2 in
    inr (a.0, omega arith, omega arith)

pub sticky-scale : (w j k s : ℕ) → Sticky w j s → Sticky w (j + k) (s * 2 ^ k)
sticky-scale w j k s h = sticky-via w s (s * 2 ^ k) j k h (inl refl)

-- ---- the order: x against y, which stands for s
pub sticky-above : (x y s j : ℕ) → Sticky y j s → x < y → x * 2 ^ j < s
sticky-above x y s j (inl a) h = lt_of_lt_of_le (mul-lt-mul_of_pos_right h (pow_pos j)) (le_of_eq a)
sticky-above x y s j (inr a) h = let m = mul-le-mul_right (2 ^ j) h in let n = suc-mul x (2 ^ j) in omega arith

pub sticky-below : (x y s j : ℕ) → Sticky y j s → y < x → s < x * 2 ^ j
sticky-below x y s j (inl a) h = lt_of_le_of_lt (le_of_eq (sym a)) (mul-lt-mul_of_pos_right h (pow_pos j))
sticky-below x y s j (inr a) h = let m = mul-le-mul_right (2 ^ j) h in let n = suc-mul y (2 ^ j) in omega arith

-- an even one has lost nothing
pub sticky-even : (y s j : ℕ) → y % 2 ≡ 0 → Sticky y j s → y * 2 ^ j ≡ s
sticky-even y s j e (inl a) = a
sticky-even y s j e (inr a) = absurd (odd_even y a.0 e)

-- ---- how many bits
pub sticky-lt : (n s j k : ℕ) → n < 2 ^ k → Sticky n j s → s < 2 ^ (k + j)
sticky-lt n s j k h v = lt_of_lt_of_le (sticky-below (2 ^ k) n s j v h) (le_of_eq (sym (pow-add 2 k j)))

pub sticky-ge : (n s j k : ℕ) → 0 < k → 2 ^ k ≤ n → Sticky n j s → 2 ^ (k + j) ≤ s
sticky-ge n s j k K h (inl a) = le_trans (le_of_eq (pow-add 2 k j)) (le_trans (mul-le-mul_right (2 ^ j) h) (le_of_eq a))
sticky-ge n s j k K h (inr a) =
    let l : suc (2 ^ k) ≤ n = strict (2 ^ k) n (ap (λ (x : ℕ). x % 2) (sym (one-mul (2 ^ k))) ∙ pow_even 1 k K) a.0 h in
    let m = mul-le-mul_right (2 ^ j) l in
    let u = suc-mul (2 ^ k) (2 ^ j) in
    le_trans (le_of_eq (pow-add 2 k j)) (omega arith)
  where
    strict : (p n : ℕ) → p % 2 ≡ 0 → n % 2 ≡ 1 → p ≤ n → suc p ≤ n
    strict p n e o h = omega arith

pub lt-of-sticky : (n s j k : ℕ) → 0 < k → s < 2 ^ (k + j) → Sticky n j s → n < 2 ^ k
lt-of-sticky n s j k K h v = lt_of_not-le (λ (l : 2 ^ k ≤ n). not-le_of_lt h (sticky-ge n s j k K l v))

pub ge-of-sticky : (n s j k : ℕ) → 2 ^ (k + j) ≤ s → Sticky n j s → 2 ^ k ≤ n
ge-of-sticky n s j k h v = le_of_suc-le-suc (lt_of_not-le (λ (l : suc n ≤ 2 ^ k). not-le_of_lt (sticky-lt n s j k l v) h))

-- ---- an even x, and y that stands for s: their sum, and their difference either way
pub sticky-add : (x y s j : ℕ) → x % 2 ≡ 0 → Sticky y j s → Sticky (x + y) j (x * 2 ^ j + s)
sticky-add x y s j e (inl a) = inl (add-mul x y (2 ^ j) ∙ ap (λ (z : ℕ). x * 2 ^ j + z) a)
sticky-add x y s j e (inr a) = let m = add-mul x y (2 ^ j) in inr (odd x y e a.0, omega arith, omega arith)
  where
    odd : (x y : ℕ) → x % 2 ≡ 0 → y % 2 ≡ 1 → (x + y) % 2 ≡ 1
    odd x y a b = omega arith

split : (a b p : ℕ) → b ≤ a → a * p ≡ (a - b) * p + b * p
split a b p h = ap (λ (x : ℕ). x * p) (back a b h) ∙ add-mul (a - b) b p
  where
    back : (a b : ℕ) → b ≤ a → a ≡ a - b + b
    back a b h = omega arith

odd-less : (x y : ℕ) → (x + y) % 2 ≡ 1 → y ≤ x → (x - y) % 2 ≡ 1
odd-less x y a h = omega arith

odd-sum : (x y : ℕ) → x % 2 ≡ 0 → y % 2 ≡ 1 → ((x + y) % 2 ≡ 1) × ((y + x) % 2 ≡ 1)
odd-sum x y a b = (omega arith, omega arith)

pub sticky-sub : (x y s j : ℕ) → x % 2 ≡ 0 → Sticky y j s → y < x → Sticky (x - y) j (x * 2 ^ j - s)
sticky-sub x y s j e (inl a) h = let m = split x y (2 ^ j) (le-of-lt' h) in inl (omega arith)
  where
    le-of-lt' : y < x → y ≤ x
    le-of-lt' h = omega arith
sticky-sub x y s j e (inr a) h =
    let l : y ≤ x = omega arith in
    let m = split x y (2 ^ j) l in
    let b = sticky-below x y s j (inr a) h in
    inr (odd-less x y (odd-sum x y e a.0).0 l, omega arith, omega arith)

pub sticky-from : (x y s j : ℕ) → x % 2 ≡ 0 → Sticky y j s → x < y → Sticky (y - x) j (s - x * 2 ^ j)
sticky-from x y s j e (inl a) h = let l : x ≤ y = omega arith in let m = split y x (2 ^ j) l in inl (omega arith)
sticky-from x y s j e (inr a) h =
    let l : x ≤ y = omega arith in
    let m = split y x (2 ^ j) l in
    let b = sticky-above x y s j (inr a) h in
    inr (odd-less y x (odd-sum x y e a.0).1 l, omega arith, omega arith)

-- ---- s as a whole part t and a rest r by 2 ^ j: m is t and r is 0, or m is the odd one of t and t + 1
abbrev pub Parted : ℕ → ℕ → ℕ → Type 0
Parted m t r = ((m ≡ t) × (r ≡ 0)) ⊎ ((m % 2 ≡ 1) × (0 < r) × (t ≤ m) × (m ≤ suc t))

le-of-times : (t r p m : ℕ) → t * p + r < m * p + p → t ≤ m
le-of-times t r p m l = le_of_suc-le-suc (lt_of_not-le (λ (g : suc m ≤ t). clash (mul-le-mul_right p g) (suc-mul m p)))
  where
    clash : suc m * p ≤ t * p → suc m * p ≡ m * p + p → ⊥
    clash x y = omega arith

pub parted : (m j s : ℕ) → Sticky m j s → Parted m (s / 2 ^ j) (s % 2 ^ j)
parted m j s (inl a) = inl (sym (ap (λ (x : ℕ). x / 2 ^ j) (sym a) ∙ shl-shr m j), ap (λ (x : ℕ). x % 2 ^ j) (sym a) ∙ mul-mod_left m (2 ^ j))
parted m j s (inr a) =
    let q = 2 ^ j in
    let t = s / q in
    let r = s % q in
    let d : t * q + r ≡ s = div-add-mod' s q in
    let R : r < q = mod-lt s (pow_pos j) in
    let hi : t ≤ m = le-of-times t r q m (omega (arith, a.2)) in
    let lo : m ≤ suc t = le-of-times m 0 q (suc t) (let u = suc-mul t q in omega (arith, a.1)) in
    elim (eq-zero-or-pos r) [
      | inl z ↦ inl (same m t hi (le-of-times m 0 q t (omega (arith, a.1))), z)
      | inr p ↦ inr (a.0, p, hi, lo)
    ]
  where
    same : (m t : ℕ) → t ≤ m → m ≤ t → m ≡ t
    same m t h k = omega arith

-- nothing was lost where all that was cut off is zeros
pub sticky-clean : (m j s : ℕ) → Sticky m j s → s % 2 ^ j ≡ 0 → m * 2 ^ j ≡ s
sticky-clean m j s h z = by (parted m j s h)
  where
    none : (r : ℕ) → r ≡ 0 → 0 < r → ⊥
    none r a b = omega arith

    by : Parted m (s / 2 ^ j) (s % 2 ^ j) → m * 2 ^ j ≡ s
    by (inl k) = ap (λ (x : ℕ). x * 2 ^ j) k.0 ∙ sym (add-zero (s / 2 ^ j * 2 ^ j)) ∙ ap (λ (x : ℕ). s / 2 ^ j * 2 ^ j + x) (sym z) ∙ div-add-mod' s (2 ^ j)
    by (inr k) = absurd (none (s % 2 ^ j) z k.1)
