-- A number in decimal is what stands before its last digit and that digit, and a 64-bit number has at most twenty. Assumes nothing.
use Prim.Native.Nat.{ℕ, zero, suc, ◌+◌, ◌/◌, ◌%◌, ◌^◌, ◌≤◌, ◌<◌}
use mathlib.Core.Bool.{Bool, true, false}
use mathlib.Core.List.{List, [], ◌∷◌, ◌++◌}
use mathlib.Core.Path.{◌≡◌, refl, ap, subst}
use native.Mathlib.Nat.{pow-suc, div-lt_iff_lt-mul}
use native.Mathlib.Omega.{arith}
use borrow.Author.Tests.{ltb-true, ltb-false, lt-ltb, le-ltb}
use lib.Dec.{ltb}
use lib.ListN.{length, length-append}
use Rattle.sheet_answer.specs.Answer.{decimal_of, decimal}

-- any count of digits that is large enough gives the same
enough : (j k n : ℕ) → n < j → n < k → decimal_of j n ≡ decimal_of k n
unfolding decimal_of
enough zero k n a b = absurd (omega arith)
enough (suc j) zero n a b = absurd (omega arith)
enough (suc j) (suc k) n a b = by (λ p q. enough j k (n / 10) p q) (ltb n 10) refl
  where
    by : (n / 10 < j → n / 10 < k → decimal_of j (n / 10) ≡ decimal_of k (n / 10))
        → (t : Bool) → ltb n 10 ≡ t → decimal_of (suc j) n ≡ decimal_of (suc k) n
    by tenth true e = rw e
    by tenth false e =
        let large : 10 ≤ n = ltb-false n 10 e in
        rw (e, tenth (omega arith) (omega arith))

pub decimal-small : (n : ℕ) → n < 10 → decimal n ≡ (48 + n) ∷ []
unfolding decimal decimal_of
decimal-small n h = rw (lt-ltb n 10 h)

pub decimal-more : (n : ℕ) → 10 ≤ n → decimal n ≡ decimal (n / 10) ++ (48 + n % 10) ∷ []
unfolding decimal decimal_of
decimal-more n h = rw (le-ltb n 10 h) (ap (λ (l : List ℕ). l ++ (48 + n % 10) ∷ []) (enough n (suc (n / 10)) (n / 10) (omega arith) (omega arith)))

pub more-long : (n : ℕ) → 10 ≤ n → length (decimal n) ≡ length (decimal (n / 10)) + 1
more-long n h = rw (decimal-more n h) (length-append (decimal (n / 10)) ((48 + n % 10) ∷ []))

pub one-digit : (n : ℕ) → n < 10 → length (decimal n) ≡ 1
one-digit n h = rw (decimal-small n h)

digits-most : (k n : ℕ) → n < 10 ^ suc k → length (decimal n) ≤ suc k
digits-most zero n h = omega (arith, one-digit n (omega arith))
digits-most (suc k) n h = by (λ p. digits-most k (n / 10) p) (ltb n 10) refl
  where
    by : (n / 10 < 10 ^ suc k → length (decimal (n / 10)) ≤ suc k) → (t : Bool) → ltb n 10 ≡ t → length (decimal n) ≤ suc (suc k)
    by tenth true e = omega (arith, one-digit n (ltb-true n 10 e))
    by tenth false e =
        omega (
          arith,
          more-long n (ltb-false n 10 e),
          tenth ((div-lt_iff_lt-mul (omega arith)).1 (subst (λ (x : ℕ). n < x) (pow-suc 10 (suc k)) h)),
        )

pub at-most_twenty : (n : ℕ) → n < 2 ^ 64 → length (decimal n) ≤ 20
at-most_twenty n h = digits-most 19 n (omega arith)
