-- Laws of a list of digits: one digit more at its end, its size, a byte that is no digit; and what the digits of a number are.
-- Assumes nothing.
use Prim.Native.Nat.{ℕ, zero, suc, ◌+◌, ◌*◌, ◌/◌, ◌%◌, ◌^◌, ◌≤◌, ◌<◌}
use mathlib.Core.Path.{◌≡◌, refl, ap, sym}
use mathlib.Core.Bool.{Bool, true, false, ◌&&◌}
use mathlib.Core.List.{List, [], ◌∷◌, ◌++◌}
use native.Mathlib.Omega.{arith}
use native.Mathlib.Nat.{pow-suc, pow-succ', one-le-pow, mod-lt, mod-one, le_of_suc-le-suc, not-suc-le-zero}
use native.Mathlib.Numerals.{add-one}
use borrow.Author.Tests.{lt-ltb, le-ltb, ltb-true}
use lib.Arith.{mod-mul, digits_lt}
use lib.Dec.{ltb, lit<}
use lib.ListN.{length, get_or, length-append}
use Rattle.exact.proofs.Truth.{both}
use Rattle.hexadecimal.specs.Hex.{digit_value, all_digits, number, digits}
use Rattle.hexadecimal.proofs.Digits.{value-of-digit}

either : (a b : Bool) → b ≡ false → a && b ≡ false
either true b e = e
either false b e = refl

-- ---- one digit more

pub number_more : (bs : List ℕ) (b : ℕ) → number (bs ++ (b ∷ [])) ≡ number bs * 16 + digit_value b
unfolding number
number_more [] b = omega arith
number_more (a ∷ bs) b =
    let more : number (bs ++ (b ∷ [])) ≡ number bs * 16 + digit_value b = number_more bs b in
    let long : 16 ^ length (bs ++ (b ∷ [])) ≡ 16 ^ length bs * 16 = simp (length-append, add-one, pow-suc) in
    rw (long, more) (omega arith)

pub all_more : (bs : List ℕ) (b : ℕ) → all_digits bs ≡ true → digit_value b < 16 → all_digits (bs ++ (b ∷ [])) ≡ true
unfolding all_digits
all_more [] b e h = simp (lt-ltb _ _ h)
all_more (a ∷ bs) b e h =
    let both_hold = both (ltb (digit_value a) 16) (all_digits bs) e in
    simp (both_hold.0, all_more bs b both_hold.1 h)

-- ---- all digits, or not

pub number_lt : (bs : List ℕ) → all_digits bs ≡ true → number bs < 16 ^ length bs
unfolding all_digits number
number_lt [] e = lit< tt
number_lt (a ∷ bs) e =
    let both_hold = both (ltb (digit_value a) 16) (all_digits bs) e in
    let one : digit_value a < 16 = ltb-true (digit_value a) 16 both_hold.0 in
    let rest : number bs < 16 ^ length bs = number_lt bs both_hold.1 in
    rw pow-succ' (digits_lt one rest)

pub not-all : (bs : List ℕ) (i : ℕ) → i < length bs → 16 ≤ digit_value (get_or bs i 0) → all_digits bs ≡ false
unfolding all_digits
not-all [] i h e = absurd (not-suc-le-zero h)
not-all (b ∷ bs) zero h e = simp (le-ltb (digit_value b) 16 e)
not-all (b ∷ bs) (suc i) h e = either (ltb (digit_value b) 16) (all_digits bs) (not-all bs i (le_of_suc-le-suc h) e)

-- ---- the digits of a number

pub length_digits : (k n : ℕ) → length (digits k n) ≡ k
unfolding digits
length_digits zero n = refl
length_digits (suc k) n = ap suc (length_digits k n)

pub all_digits_lem : (k n : ℕ) → all_digits (digits k n) ≡ true
unfolding all_digits digits
all_digits_lem zero n = refl
all_digits_lem (suc k) n =
    let d = n / 16 ^ k % 16 in
    let small : d < 16 = mod-lt (n / 16 ^ k) (lit< tt) in
    simp (value-of-digit d small, lt-ltb d 16 small, all_digits_lem k n)

pub number_digits : (k n : ℕ) → number (digits k n) ≡ n % 16 ^ k
unfolding number digits
number_digits zero n = sym (mod-one n)
number_digits (suc k) n =
    let small : n / 16 ^ k % 16 < 16 = mod-lt (n / 16 ^ k) (lit< tt) in
    let split : n % (16 * 16 ^ k) ≡ n / 16 ^ k % 16 * 16 ^ k + n % 16 ^ k = mod-mul n (lit< tt) (one-le-pow k 16 (lit< tt)) in
    rw (value-of-digit (n / 16 ^ k % 16) small, length_digits k n, number_digits k n, pow-succ' 16 k) (sym split)
