-- A number has one spelling: 16 lowercase hex digits are the digits of the number that they stand for. The one idea: two lists of digits
-- of one length that stand for one number are one list. Assumes nothing.
use Prim.Native.Nat.{ℕ, ◌+◌, ◌-◌, ◌*◌, ◌%◌, ◌/◌, ◌^◌, ◌<◌}
use mathlib.Core.Path.{◌≡◌, refl, sym, ap, ◌∙◌}
use mathlib.Core.Bool.{true}
use mathlib.Core.List.{List, [], ◌∷◌}
use mathlib.Core.Logic.{⊎_elim}
use native.Mathlib.Omega.{arith}
use native.Mathlib.Nat.{mod-eq_of_lt}
use borrow.Author.Tests.{ltb-true}
use lib.Arith.{digits_div, digits_mod}
use lib.Dec.{ltb}
use lib.ListN.{length}
use Rattle.exact.proofs.Naturals.{below_or}
use Rattle.hexadecimal.specs.Hex.{digit_value, digit_of, all_digits, number, digits}
use Rattle.hexadecimal.proofs.Digits.{value-below, value_figure, value-between, value-letter, value-above, figure-of, letter-of}
use Rattle.hexadecimal.proofs.Number.{all_digits_lem, length_digits, number_digits, number_lt}
use Rattle.exact.proofs.Truth.{both}

digit-back : (b : ℕ) → digit_value b < 16 → digit_of (digit_value b) ≡ b
digit-back b h =
    ⊎_elim (λ low. absurd (unlike (value-below b low)))
    (λ from.
    ⊎_elim (λ figure. let worth = value_figure b from (omega arith) in rw (worth, figure-of (b - 48) (omega arith)) (omega arith))
    (λ past.
    ⊎_elim (λ between. absurd (unlike (value-between b past between)))
    (λ letter.
    ⊎_elim (λ upto. let worth = value-letter b letter (omega arith) in rw (worth, letter-of (b - 97 + 10) (omega arith)) (omega arith))
    (λ above. absurd (unlike (value-above b above)))
    (below_or b 103))
    (below_or b 97))
    (below_or b 58))
    (below_or b 48)
  where
    unlike : digit_value b ≡ 16 → ⊥
    unlike e = omega arith

one-spelling : (a b : List ℕ) → length a ≡ length b → all_digits a ≡ true → all_digits b ≡ true → number a ≡ number b → a ≡ b
unfolding all_digits number
one-spelling [] [] long da db same = refl
one-spelling [] (y ∷ ys) long da db same = absurd (omega arith)
one-spelling (x ∷ xs) [] long da db same = absurd (omega arith)
one-spelling (x ∷ xs) (y ∷ ys) long da db same =
    let xd = both (ltb (digit_value x) 16) (all_digits xs) da in
    let yd = both (ltb (digit_value y) 16) (all_digits ys) db in
    let rest-long : length xs ≡ length ys = omega arith in
    let unit = 16 ^ length xs in
    let xs-low = number_lt xs xd.1 in
    let ys-low : number ys < unit = rw rest-long (number_lt ys yd.1) in
    let level : digit_value x * unit + number xs ≡ digit_value y * unit + number ys = rw rest-long (rw rest-long at same) in
    let first : digit_value x ≡ digit_value y = sym (digits_div (digit_value x) xs-low) ∙ ap (λ (n : ℕ). n / unit) level ∙ digits_div (digit_value y) ys-low in
    let rest : number xs ≡ number ys = sym (digits_mod (digit_value x) xs-low) ∙ ap (λ (n : ℕ). n % unit) level ∙ digits_mod (digit_value y) ys-low in
    let heads : x ≡ y =
    sym (digit-back x (ltb-true (digit_value x) 16 xd.0)) ∙ ap digit_of first ∙ digit-back y (ltb-true (digit_value y) 16 yd.0) in
    let tails : xs ≡ ys = one-spelling xs ys rest-long xd.1 yd.1 rest in
    λ i. heads i ∷ tails i

module _ (text : List ℕ) (long : length text ≡ 16) (all : all_digits text ≡ true) where
  pub number_small : number text < 2 ^ 64
  number_small = rw long at (number_lt text all)

  pub digits-back : digits 16 (number text) ≡ text
  digits-back =
      one-spelling (digits 16 (number text)) text (length_digits 16 (number text) ∙ sym long) (all_digits_lem 16 (number text)) all
      (number_digits 16 (number text) ∙ mod-eq_of_lt number_small)
