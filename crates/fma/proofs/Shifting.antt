-- A word shifted right and back: nothing wraps, and it comes back as it was just where what was shifted out is 0. Assumes nothing.
use Rattle.std.proofs.Common.{◌≡◌, ℕ, zero, suc, sym, ap, mod-lt, div-add-mod', lit<, ◌+◌, ◌*◌, ◌/◌, ◌%◌, ◌^◌, ◌<◌, ◌∙◌, inl, inr, lt_of_le_of_lt, mod-eq_of_lt, eq-zero-or-pos, div-mul-le_self, arith}
use Rattle.std.proofs.lemmas.Nat.{or_block}
use Rattle.std.specs.Int.Bits.{or_zero_r}
use lib.Bits.{bit_or}
use Rattle.fma.specs.Sticky.{odd-of}

pub back : (n s : ℕ) → n < 2 ^ 64 → (n / 2 ^ s * 2 ^ s) % 2 ^ 64 ≡ n / 2 ^ s * 2 ^ s
back n s h = mod-eq_of_lt (lt_of_le_of_lt (div-mul-le_self n (2 ^ s)) h)

pub kept : (n s : ℕ) → n < 2 ^ 64 → (n / 2 ^ s * 2 ^ s) % 2 ^ 64 ≡ n → n % 2 ^ s ≡ 0
kept n s h e = by (n / 2 ^ s * 2 ^ s) (n % 2 ^ s) ((n / 2 ^ s * 2 ^ s) % 2 ^ 64) (div-add-mod' n (2 ^ s)) (back n s h) e
  where
    by : (q r w : ℕ) → q + r ≡ n → w ≡ q → w ≡ n → r ≡ 0
    by q r w e f g = omega arith

pub lost : (n s : ℕ) → n < 2 ^ 64 → ((n / 2 ^ s * 2 ^ s) % 2 ^ 64 ≡ n → ⊥) → 0 < n % 2 ^ s
lost n s h f = elim (eq-zero-or-pos (n % 2 ^ s)) [
  | inl z ↦ absurd (f (back n s h ∙ by (n / 2 ^ s * 2 ^ s) (n % 2 ^ s) (div-add-mod' n (2 ^ s)) z))
  | inr p ↦ p
]
  where
    by : (q r : ℕ) → q + r ≡ n → r ≡ 0 → q ≡ n
    by q r e z = omega arith

-- the last bit set
pub or_one : (q : ℕ) → bit_or q 1 ≡ odd-of q
or_one q = ap (λ (x : ℕ). bit_or x 1) (sym (div-add-mod' q 2)) ∙ or_block 1 (q / 2) 0 (q % 2) 1 (mod-lt q (lit< tt)) (lit< tt) ∙ by (q / 2) (bit_or (q / 2) 0) (q % 2) (or_zero_r (q / 2)) (mod-lt q (lit< tt)) (div-add-mod' q 2)
  where
    by : (h k r : ℕ) → k ≡ h → r < 2 → h * 2 + r ≡ q → k * 2 ^ 1 + bit_or r 1 ≡ odd-of q
    by h k zero e l s = omega arith
    by h k (suc zero) e l s = omega arith
    by h k (suc (suc r)) e l s = absurd (omega arith)
