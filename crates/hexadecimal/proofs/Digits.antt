-- Laws of one digit: what each byte is worth, by cases, and that a digit is worth the number that it was made of. Assumes nothing.
use Prim.Native.Nat.{ℕ, ◌+◌, ◌-◌, ◌≤◌, ◌<◌}
use mathlib.Core.Path.{◌≡◌, refl}
use mathlib.Core.Bool.{Bool, true, false}
use native.Mathlib.Omega.{arith}
use borrow.Author.Tests.{le-leb, lt-leb, lt-ltb, le-ltb, ltb-true, ltb-false}
use lib.Dec.{ltb}
use Rattle.hexadecimal.specs.Hex.{digit_value, digit_of}

module _ (b : ℕ) where
  pub value-below : b < 48 → digit_value b ≡ 16
  unfolding digit_value
  value-below h = simp (lt-leb 48 b h, lt-leb 97 b (omega arith))

  pub value_figure : 48 ≤ b → b ≤ 57 → digit_value b ≡ b - 48
  unfolding digit_value
  value_figure h k = simp (le-leb 48 b h, le-leb b 57 k)

  pub value-between : 57 < b → b < 97 → digit_value b ≡ 16
  unfolding digit_value
  value-between h k = simp (le-leb 48 b (omega arith), lt-leb b 57 h, lt-leb 97 b k)

  pub value-letter : 97 ≤ b → b ≤ 102 → digit_value b ≡ b - 97 + 10
  unfolding digit_value
  value-letter h k = simp (le-leb 48 b (omega arith), lt-leb b 57 (omega arith), le-leb 97 b h, le-leb b 102 k)

  pub value-above : 102 < b → digit_value b ≡ 16
  unfolding digit_value
  value-above h = simp (le-leb 48 b (omega arith), lt-leb b 57 (omega arith), le-leb 97 b (omega arith), lt-leb b 102 h)

module _ (n : ℕ) where
  pub figure-of : n < 10 → digit_of n ≡ 48 + n
  unfolding digit_of
  figure-of h = simp (lt-ltb n 10 h)

  pub letter-of : 10 ≤ n → digit_of n ≡ 97 + (n - 10)
  unfolding digit_of
  letter-of h = simp (le-ltb n 10 h)

  pub value-of-digit : n < 16 → digit_value (digit_of n) ≡ n
  value-of-digit h = by (ltb n 10) refl
    where
      by : (t : Bool) → ltb n 10 ≡ t → digit_value (digit_of n) ≡ n
      by true e =
          let low : n < 10 = ltb-true n 10 e in
          let worth : digit_value (48 + n) ≡ 48 + n - 48 = value_figure (48 + n) (omega arith) (omega arith) in
          rw (figure-of low, worth) (omega arith)
      by false e =
          let high : 10 ≤ n = ltb-false n 10 e in
          let worth : digit_value (97 + (n - 10)) ≡ 97 + (n - 10) - 97 + 10 = value-letter (97 + (n - 10)) (omega arith) (omega arith) in
          rw (letter-of high, worth) (omega arith)
