-- Figures of any count with their point moved: all of them figures, what they are worth, and that only the distance of two powers counts. Assumes nothing.
use Rattle.std.specs.Prelude.{Some, None}
use Prim.Native.Nat.{ℕ, zero, suc, ◌+◌, ◌-◌, ◌*◌, ◌^◌, ◌≤◌, ◌<◌}
use mathlib.Core.Path.{◌≡◌, refl, sym, ap, ◌∙◌}
use mathlib.Core.Bool.{Bool, true, false, ◌&&◌, cond}
use mathlib.Core.List.{List, [], ◌∷◌, ◌++◌}
use mathlib.Core.Logic.{inl, inr}
use native.Mathlib.Nat.{add-zero, mul-one, sub-zero}
use native.Mathlib.Omega.{arith}
use borrow.Author.Tests.{le-leb, lt-leb, ltb-true, leb-true}
use lib.Dec.{leb, ltb}
use lib.ListN.{length, take, drop, take-append-drop, drop_of_length-le, length-drop}
use lib.Seq.{take_all}
use lib.Ieee.{binary64, round}
use Rattle.exact.proofs.Naturals.{below_or}
use Rattle.wide_decimal.specs.Figures.{figure_of, worth_from, worth}
use Rattle.wide_decimal.specs.Placed.{nearest_of}
use Rattle.wide_decimal.proofs.Worth.{worth-both}
use Rattle.decimal.specs.Digits.{digit_of, digits_from}
use Rattle.decimal.specs.Number.{scaled_by}
use Rattle.decimal.specs.Ways.{figures_in}

-- ---- all figures
pub figures-both : (a b : List ℕ) → figures_in (a ++ b) ≡ figures_in a && figures_in b
unfolding figures_in
figures-both [] b = refl
figures-both (x ∷ a) b = by (ltb (digit_of x) 10) (figures-both a b)
  where
    by : (t : Bool) → figures_in (a ++ b) ≡ figures_in a && figures_in b → t && figures_in (a ++ b) ≡ (t && figures_in a) && figures_in b
    by true e = e
    by false e = refl

-- a figure is worth the same in both words
same-worth : (x : ℕ) → digit_of x < 10 → digit_of x ≡ figure_of x
unfolding digit_of figure_of
same-worth x h = by (leb 48 x && leb x 57) (leb 97 x) (leb x 102) (leb 65 x) (leb x 70) (leb-true 97 x) (leb-true x 102) (leb-true 65 x) (leb-true x 70) h
  where
    by : (f a b c d : Bool) → (a ≡ true → 97 ≤ x) → (b ≡ true → x ≤ 102) → (c ≡ true → 65 ≤ x) → (d ≡ true → x ≤ 70)
        → cond f (x - 48) (cond (a && b) (x - 87) (cond (c && d) (x - 55) 16)) < 10 → cond f (x - 48) (cond (a && b) (x - 87) (cond (c && d) (x - 55) 16)) ≡ cond f (x - 48) 0
    by true a b c d p q r s h = refl
    by false true true c d p q r s h = absurd (omega (arith, h, p refl))
    by false true false true true p q r s h = absurd (omega (arith, h, r refl))
    by false true false true false p q r s h = absurd (omega (arith, h))
    by false true false false d p q r s h = absurd (omega (arith, h))
    by false false b true true p q r s h = absurd (omega (arith, h, r refl))
    by false false b true false p q r s h = absurd (omega (arith, h))
    by false false b false d p q r s h = absurd (omega (arith, h))

pub figures-value : (n : ℕ) (text : List ℕ) → figures_in text ≡ true → digits_from 10 n text ≡ Some (worth_from n text)
unfolding figures_in digits_from worth_from
figures-value n [] e = refl
figures-value n (x ∷ text) e = by (ltb (digit_of x) 10) (ltb-true (digit_of x) 10) e (figures-value (n * 10 + digit_of x) text)
  where
    by : (t : Bool) → (t ≡ true → digit_of x < 10) → t && figures_in text ≡ true
        → (figures_in text ≡ true → digits_from 10 (n * 10 + digit_of x) text ≡ Some (worth_from (n * 10 + digit_of x) text))
        → cond t (digits_from 10 (n * 10 + digit_of x) text) None ≡ Some (worth_from (n * 10 + figure_of x) text)
    by true h e rest = rest e ∙ ap (λ (d : ℕ). Some (worth_from (n * 10 + d) text)) (same-worth x (h refl))
    by false h e rest = cc

pub figures-broken : (n : ℕ) (text : List ℕ) → figures_in text ≡ false → digits_from 10 n text ≡ None
unfolding figures_in digits_from
figures-broken n [] e = cc
figures-broken n (x ∷ text) e = by (ltb (digit_of x) 10) e (figures-broken (n * 10 + digit_of x) text)
  where
    by : (t : Bool) → t && figures_in text ≡ false → (figures_in text ≡ false → digits_from 10 (n * 10 + digit_of x) text ≡ None)
        → cond t (digits_from 10 (n * 10 + digit_of x) text) None ≡ None
    by true e rest = rest e
    by false e rest = refl

-- ---- only the distance of two powers counts
pub same-distance : (s : Bool) (base n u d u' d' : ℕ) → u + d' ≡ u' + d → scaled_by s base n u d ≡ scaled_by s base n u' d'
unfolding scaled_by
same-distance s base n u d u' d' e = elim (below_or u d) [
  | inl h ↦ (
      let h' : u' < d' = omega arith in
      let k : d - u ≡ d' - u' = omega arith in
      simp (lt-leb d u h, lt-leb d' u' h') (ap (λ (z : ℕ). round binary64 s n (base ^ z)) k)
      )
  | inr h ↦ (
      let h' : d' ≤ u' = omega arith in
      let k : u - d ≡ u' - d' = omega arith in
      simp (le-leb d u h, le-leb d' u' h') (ap (λ (z : ℕ). round binary64 s (n * base ^ z) 1) k)
      )
]

-- ---- figures with their point
module _ (s : Bool) (fs : List ℕ) where
  -- so many of them before it
  pub point-among : (whole : ℕ) → nearest_of s fs whole 0 ≡ scaled_by s 10 (worth fs) whole (length fs)
  unfolding nearest_of scaled_by worth_from
  point-among whole = elim (below_or whole (length fs)) [
    | inl h ↦ (
        let none : whole - length fs ≡ 0 = omega arith in
        let all : worth (take whole fs) * 10 ^ (length fs - whole) + worth (drop whole fs) ≡ worth fs =
        ap (λ (z : ℕ). worth (take whole fs) * 10 ^ z + worth (drop whole fs)) (sym (length-drop whole fs)) ∙ sym (worth-both (take whole fs) (drop whole fs)) ∙ ap worth (take-append-drop whole fs) in
        simp (lt-leb (length fs) whole h) (rw (none, add-zero (length fs - whole), mul-one (worth (take whole fs)), all))
        )
    | inr h ↦ (
        let none : length fs - whole ≡ 0 = omega arith in
        simp (le-leb (length fs) whole h)
        (rw (none, take_all whole fs h, drop_of_length-le fs h) (ap (λ (z : ℕ). round binary64 s z 1) (plain (worth fs * 10 ^ (whole - length fs)))))
        )
  ]
    where
      plain : (x : ℕ) → x * 10 ^ (0 + 0) + 0 ≡ x
      plain x = omega arith

  -- all of them behind it, and zeros before them
  pub point-before : (zeros : ℕ) → nearest_of s fs 0 zeros ≡ scaled_by s 10 (worth fs) 0 (length fs + zeros)
  unfolding nearest_of scaled_by worth_from
  point-before zeros = by (length fs + zeros) (ap (λ (z : ℕ). z + zeros) (sub-zero (length fs)))
    where
      none : (p w : ℕ) → 0 * 10 ^ (0 - length fs) * p + w ≡ w
      none p w = omega arith

      by : (n : ℕ) → length fs - 0 + zeros ≡ n → round binary64 s (0 * 10 ^ (0 - length fs) * 10 ^ (length fs - 0 + zeros) + worth fs) (10 ^ (length fs - 0 + zeros)) ≡ cond (leb n 0) (round binary64 s (worth fs * 10 ^ (0 - n)) 1) (round binary64 s (worth fs) (10 ^ (n - 0)))
      by zero e = rw e (ap (λ (z : ℕ). round binary64 s z 1) (none 1 (worth fs) ∙ sym (mul-one (worth fs))))
      by (suc n) e = let some : 0 < suc n = omega arith in rw e (simp (lt-leb (suc n) 0 some, sub-zero (suc n)) (ap (λ (z : ℕ). round binary64 s z (10 ^ suc n)) (none (10 ^ suc n) (worth fs))))
