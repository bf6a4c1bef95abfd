-- Numbers of two digits in a base p: what their upper digit is, their product by its columns, and a number of two words shifted right word by word. Assumes nothing.
use Rattle.std.proofs.Common.{◌≡◌, ℕ, suc, ◌+◌, ◌-◌, ◌*◌, ◌/◌, ◌%◌, ◌^◌, ◌<◌, ◌≤◌, sym, ap, ◌∙◌, le_of_eq, lt_of_lt_of_le, le_of_suc-le-suc, le-add_right, lt_of_le_of_lt, add-zero, add_assoc, mul-le-mul_right, mod-lt, mul_assoc, suc-mul, mul_comm, add-mul, add_comm, lt_of_mul-lt-mul_right, lt_of_not-le, div-add-mod', mul-add, sub-add_cancel, mul_left_comm, arith, pow_pos, pow-add, shr_lt}
use native.Mathlib.Nat.{add_left_comm, mul-mod_left}
use lib.Arith.{digits_lt, mod-mul}
use lib.Pow.{shl-shr}
use Rattle.fma.specs.Words.{words}

-- ---- the upper digit
pub upper_lt : (h l p q : ℕ) → h * p + l < q * p → h < q
upper_lt h l p q k = lt_of_mul-lt-mul_right p (lt_of_le_of_lt (le-add_right (h * p) l) k)

pub upper-le : (a b c d p : ℕ) → c * p + d ≤ a * p + b → b < p → c ≤ a
upper-le a b c d p h k = le_of_suc-le-suc (lt_of_not-le (λ (g : suc a ≤ c). clash (mul-le-mul_right p g) (suc-mul a p)))
  where
    clash : suc a * p ≤ c * p → suc a * p ≡ a * p + p → ⊥
    clash x y = omega arith

-- ---- the product of a₁ a₀ and b₁ b₀, given the carry and the digit of each column
columns-first : (p a₀ a₁ b₀ b₁ : ℕ) → (a₁ * p + a₀) * (b₁ * p + b₀) ≡ a₁ * b₁ * (p * p) + a₁ * b₀ * p + a₀ * b₁ * p + a₀ * b₀
columns-first p a₀ a₁ b₀ b₁ = simp (mul-add, add-mul, mul_assoc, mul_comm, mul_left_comm, add_assoc, add_comm, add_left_comm)

columns-last : (p t x c d q₀ r₀ q r q₁ r₁ : ℕ) → x ≡ q₀ * p + r₀ → c + q₀ ≡ q * p + r → r + d ≡ q₁ * p + r₁ → t * (p * p) + c * p + d * p + x ≡ (t + q + q₁) * (p * p) + (r₁ * p + r₀)
columns-last p t x c d q₀ r₀ q r q₁ r₁ e f g =
    let f' : (c + q₀) * p ≡ (q * p + r) * p = ap (λ (z : ℕ). z * p) f in
    let g' : (r + d) * p ≡ (q₁ * p + r₁) * p = ap (λ (z : ℕ). z * p) g in
    omega arith

pub columns : (p a₀ a₁ b₀ b₁ q₀ r₀ q r q₁ r₁ : ℕ) → a₀ * b₀ ≡ q₀ * p + r₀ → a₁ * b₀ + q₀ ≡ q * p + r → r + a₀ * b₁ ≡ q₁ * p + r₁ → (a₁ * p + a₀) * (b₁ * p + b₀) ≡ (a₁ * b₁ + q + q₁) * (p * p) + (r₁ * p + r₀)
columns p a₀ a₁ b₀ b₁ q₀ r₀ q r q₁ r₁ e f g =
    columns-first p a₀ a₁ b₀ b₁ ∙ columns-last p (a₁ * b₁) (a₀ * b₀) (a₁ * b₀) (a₀ * b₁) q₀ r₀ q r q₁ r₁ e f g

-- ---- two words shifted right by s: h's last s bits come to the top of the lower word
pub word_split : (s : ℕ) → s ≤ 64 → 2 ^ 64 ≡ 2 ^ (64 - s) * 2 ^ s
word_split s h = ap (λ (x : ℕ). 2 ^ x) (sym (sub-add_cancel {n = 64} {m = s} h)) ∙ pow-add 2 (64 - s) s

moved : (h s : ℕ) → s ≤ 64 → (h * 2 ^ (64 - s)) % 2 ^ 64 ≡ h % 2 ^ s * 2 ^ (64 - s)
moved h s k =
    ap (λ (x : ℕ). (h * 2 ^ (64 - s)) % x) (word_split s k ∙ mul_comm (2 ^ (64 - s)) (2 ^ s))
    ∙ mod-mul (h * 2 ^ (64 - s)) (pow_pos s) (pow_pos (64 - s))
    ∙ ap (λ (x : ℕ). x % 2 ^ s * 2 ^ (64 - s) + (h * 2 ^ (64 - s)) % 2 ^ (64 - s)) (shl-shr h (64 - s))
    ∙ ap (λ (x : ℕ). h % 2 ^ s * 2 ^ (64 - s) + x) (mul-mod_left h (2 ^ (64 - s)))
    ∙ add-zero (h % 2 ^ s * 2 ^ (64 - s))

pub lower-lt : (h l s : ℕ) → l < 2 ^ 64 → s ≤ 64 → (h * 2 ^ (64 - s)) % 2 ^ 64 + l / 2 ^ s < 2 ^ 64
lower-lt h l s L k =
    lt_of_le_of_lt (le_of_eq (ap (λ (x : ℕ). x + l / 2 ^ s) (moved h s k)))
    (lt_of_lt_of_le
    (digits_lt {q = h % 2 ^ s} {m = 2 ^ s} {r = l / 2 ^ s} {c = 2 ^ (64 - s)} (mod-lt h (pow_pos s))
    (shr_lt {n = l} (64 - s) s (lt_of_lt_of_le L (le_of_eq (word_split s k ∙ sym (pow-add 2 (64 - s) s))))))
    (le_of_eq (mul_comm (2 ^ s) (2 ^ (64 - s)) ∙ sym (word_split s k))))

pub shift-words : (h l s : ℕ) → s ≤ 64 → words (h / 2 ^ s) ((h * 2 ^ (64 - s)) % 2 ^ 64 + l / 2 ^ s) * 2 ^ s + l % 2 ^ s ≡ words h l
shift-words h l s k =
    ap (λ (x : ℕ). words (h / 2 ^ s) (x + l / 2 ^ s) * 2 ^ s + l % 2 ^ s) (moved h s k)
    ∙ by (h / 2 ^ s) (h % 2 ^ s) (l / 2 ^ s) (l % 2 ^ s) (2 ^ s) (2 ^ (64 - s)) h l (word_split s k) (div-add-mod' h (2 ^ s)) (div-add-mod' l (2 ^ s))
  where
    by : (a b c d p w h l : ℕ) → 2 ^ 64 ≡ w * p → a * p + b ≡ h → c * p + d ≡ l → words a (b * w + c) * p + d ≡ words h l
    by a b c d p w h l e f g =
        let b' : b * 2 ^ 64 ≡ b * (w * p) = ap (λ (x : ℕ). b * x) e in
        let f' : (a * p + b) * 2 ^ 64 ≡ h * 2 ^ 64 = ap (λ (x : ℕ). x * 2 ^ 64) f in
        omega arith
