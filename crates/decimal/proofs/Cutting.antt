-- Digits cut at a point: what the code's two parts say of the whole. Assumes nothing.
use Rattle.std.specs.Prelude.{Some, None}
use Prim.Native.Nat.{ℕ, suc, ◌+◌, ◌-◌, ◌*◌, ◌^◌, ◌≤◌, ◌<◌, min}
use mathlib.Core.Path.{◌≡◌, sym, ◌∙◌}
use mathlib.Core.List.{List, ◌++◌}
use native.Mathlib.Omega.{arith}
use native.Mathlib.Nat.{le_trans, mul-le-mul_right, one-mul, pow-le-pow_right}
use lib.ListN.{length, take, drop, length-drop}
use lib.Seq.{length-take-le}
use lib.Pow.{pow-add}
use Rattle.decimal.specs.Digits.{digits_from, place_of}
use Rattle.decimal.specs.Number.{counted, few_of, with_fraction}
use Rattle.decimal.proofs.Figures.{digits-after, digits-broken, digits-most}
use Rattle.decimal.proofs.Places.{place-within, behind-part, rest_part}
use Rattle.decimal.proofs.Reading.{few-fit, significand-none, significand-are, few-many, few-are}

pub reach : (b : ℕ) (text : List ℕ) (p : ℕ) → p ≡ place_of b text → p ≤ length text
reach b text p e = rw e (place-within b text)

pub front : (b : ℕ) (text : List ℕ) (p : ℕ) → p ≡ place_of b text → p ≡ length (take p text)
front b text p e = sym (length-take-le p text (reach b text p e))

-- ---- the code's two places
module _ (text : List ℕ) (p q : ℕ) (e : p ≡ place_of 46 text) (f : q ≡ min (p + 1) (length text)) where
  pub front-part : take (place_of 46 text) text ≡ take p text
  front-part = rw e

  pub back-part : drop (suc (place_of 46 text)) text ≡ drop q text
  back-part = rw (← e) (sym (behind-part text p q (reach 46 text p e) f))

  pub count : length (take (place_of 46 text) text) + length (drop (suc (place_of 46 text)) text) ≡ p + (length text - q)
  count = rw (front-part, back-part, ← front 46 text p e, length-drop q text)

-- ---- at most so many digits of a base
module _ (base most : ℕ) (text : List ℕ) (p q : ℕ) (e : p ≡ place_of 46 text) (f : q ≡ min (p + 1) (length text)) where
  pub cut-none : p + (length text - q) < 1 → few_of base most text ≡ None
  cut-none h = few-are base text most (rw (count text p q e f) (omega arith)) ∙ significand-none base text (rw (count text p q e f) h)

  pub cut-many : most < p + (length text - q) → few_of base most text ≡ None
  cut-many h = few-many base text most (rw (count text p q e f) h)

  module _ (some : 1 ≤ p + (length text - q)) (fits : p + (length text - q) ≤ most) where
    are : few_of base most text ≡ counted (digits_from base 0 (take p text ++ drop q text)) (length (drop q text))
    are = few-are base text most (rw (count text p q e f) fits) ∙ significand-are base text (rw (count text p q e f) some) ∙ rw (front-part text p q e f, back-part text p q e f)

    pub cut-front : digits_from base 0 (take p text) ≡ None → few_of base most text ≡ None
    cut-front h = are ∙ rw (digits-broken base 0 (take p text) (drop q text) h)

    module _ (n : ℕ) (value : digits_from base 0 (take p text) ≡ Some n) where
      pub cut-back : digits_from base n (take (length text - q) (drop q text)) ≡ None → few_of base most text ≡ None
      cut-back h = are ∙ rw (digits-after base 0 n (take p text) (drop q text) value, rw rest_part at h)

      pub cut-whole : (m : ℕ) → digits_from base n (take (length text - q) (drop q text)) ≡ Some m → few_of base most text ≡ with_fraction m (length text - q)
      cut-whole m h = are ∙ rw (digits-after base 0 n (take p text) (drop q text) value, rw rest_part at h, length-drop q text)

    module _ (positive : 1 ≤ base) (room : base ^ most ≤ 2 ^ 64) where
      pub room-first : 1 * base ^ length (take p text) ≤ 2 ^ 64
      room-first = rw (← front 46 text p e) (few-fit base p most (2 ^ 64) positive (omega arith) room)

      pub room-second : (n : ℕ) → digits_from base 0 (take p text) ≡ Some n → (n + 1) * base ^ length (take (length text - q) (drop q text)) ≤ 2 ^ 64
      room-second n value =
          let k = length text - q in
          let below : n + 1 ≤ base ^ p = rw (← front 46 text p e, one-mul (base ^ p)) at (digits-most base 0 n (take p text) value) in
          let all : (n + 1) * base ^ k ≤ base ^ p * base ^ k = mul-le-mul_right (base ^ k) below in
          let joined : base ^ p * base ^ k ≤ base ^ most = rw (← pow-add base p k) (pow-le-pow_right positive {j = most} fits) in
          rw (rest_part text q, length-drop q text) (le_trans all (le_trans joined room))
