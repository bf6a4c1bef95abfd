-- What the place of a value tells of the word; and laws of flags and levels. Assumes nothing.
use Rattle.std.specs.Prelude.{Some, None, Option}
use Prim.Native.Nat.{ℕ, zero, suc, ◌+◌, ◌-◌, ◌^◌, ◌≤◌, ◌<◌}
use mathlib.Core.Bool.{Bool, true, false, cond}
use mathlib.Core.List.{List, [], ◌∷◌}
use mathlib.Core.Logic.{inl, inr}
use mathlib.Core.Path.{◌≡◌, refl, sym, ap, ◌∙◌}
use native.Mathlib.Nat.{eq-or-lt_of_le, not-suc-le-zero, lt_of_lt_of_le, one-mul, pow-le-pow_right}
use native.Mathlib.Omega.{arith}
use borrow.Author.Tests.{eq-eqb, ne_eqb, le-leb, lt-leb}
use lib.Dec.{eqb, leb, le→leb, lit<, lit≤}
use lib.IntN.{pos, negsuc, neg_ℤ, ◌-ℤ◌}
use lib.ListN.{length, take, drop, length-drop}
use lib.Seq.{length-take-le}
use lib.Ieee.Bits.{is_true}
use mir.Syntax.{w32}
use mir.Val.{SFits, to_z, of_z}
use mir.ValLaws.{to_z-of_z}
use Rattle.decimal.specs.Digits.{digits_from, digits_of}
use Rattle.decimal.proofs.Figures.{digits-most}
use Rattle.decimal.proofs.Reading.{digits-none, digits_are}
use Rattle.sheet.specs.Sheet.{value, other, behind, blank}
use Rattle.fields.specs.declared.words.Span.{Span}
use Rattle.fields.specs.Words.{word_in, Found, bare}
use Rattle.naming.specs.Name.{accepted, is_name, named, naming_of}
use Rattle.fields.specs.Value.{name_of, signed}

module _ (line : List ℕ) (k : ℕ) (key : List ℕ) (r : Option Span) (found : Found line k key r) where
  pub found_none : r ≡ None → behind key (word_in line k) ≡ other
  found_none e = rw e at found.is

  module _ (from to : ℕ) (e : r ≡ Some (record { from = from; to = to })) where
    pub found-value : behind key (word_in line k) ≡ value (take (to - from) (drop from line))
    found-value = rw e at found.is

    pub found_inside : (from ≤ to) × (to ≤ length line)
    found_inside = rw e at found.inside

-- ---- nothing behind the key
module _ (line : List ℕ) (from to : ℕ) (order : from ≤ to) (within : to ≤ length line) where
  pub value-long : length (take (to - from) (drop from line)) ≡ to - from
  value-long =
      let fits : to - from ≤ length (drop from line) = simp length-drop (omega arith) in
      length-take-le (to - from) (drop from line) fits

  pub bare-exactly : eqb from to ≡ bare (value (take (to - from) (drop from line)))
  bare-exactly = elim (eq-or-lt_of_le order) [
    | inl e ↦ (let none : to - from ≡ 0 = omega arith in rw (eq-eqb from to e, none))
    | inr h ↦ rw (ne_eqb from to (λ e. differs e h)) (sym (some (take (to - from) (drop from line)) (rw value-long (omega arith))))
  ]
    where
      differs : from ≡ to → from < to → ⊥
      differs e h = omega arith

      some : (l : List ℕ) → 0 < length l → bare (value l) ≡ false
      some [] h = absurd (not-suc-le-zero h)
      some (b ∷ bs) h = refl

-- ---- flags
-- ---- levels
module _ (text : List ℕ) (n : ℕ) (few : length text ≤ 9) (is : digits_of text ≡ Some n) where
  level-small : n < 10 ^ 9
  level-small = by (length text) refl
    where
      by : (k : ℕ) → length text ≡ k → n < 10 ^ 9
      by zero e =
          let none : digits_of text ≡ None = digits-none text (omega arith) in
          let z : ◌≡◌ {A = ℕ} 0 1 = cc in
          omega arith
      by (suc k) e =
          let from : digits_from 10 0 text ≡ Some n = sym (digits_are text (omega arith) (omega arith)) ∙ is in
          let below : n + 1 ≤ 10 ^ length text = rw (one-mul (10 ^ length text)) at (digits-most 10 0 n text from) in
          let most : 10 ^ length text ≤ 10 ^ 9 = pow-le-pow_right (lit< tt) {j = 9} few in
          omega arith

  pub level-fits : SFits w32 (pos n)
  level-fits = record { sfits = lt_of_lt_of_le level-small (lit≤ tt) }

  level-itself : to_z w32 n ≡ pos n
  level-itself = to_z-of_z w32 (pos n) level-fits

  minus : (m : ℕ) → pos 0 -ℤ pos m ≡ neg_ℤ (pos m)
  minus zero = refl
  minus (suc m) = ap (λ (b : Bool). cond b (negsuc (suc m - 1)) (pos (0 - suc m))) (is_true (leb 1 (suc m)) (le→leb 1 (suc m) (omega arith))) ∙ ap negsuc (back m)
    where
      back : (m : ℕ) → suc m - 1 ≡ m
      back m = omega arith

  negative : (m : ℕ) → m < 10 ^ 9 → SFits w32 (neg_ℤ (pos m))
  negative zero h = record { sfits = lit< tt }
  negative (suc m) h = let small : m < 10 ^ 9 = omega arith in record { sfits = lt_of_lt_of_le small (lit≤ tt) }

  pub minus-fits : SFits w32 (pos 0 -ℤ to_z w32 n)
  minus-fits = rw (level-itself, minus n) (negative n level-small)

  pub minus_is : Some (to_z w32 (of_z w32 (pos 0 -ℤ to_z w32 n))) ≡ signed true text
  unfolding signed
  minus_is = rw (le-leb (length text) 9 few, is, to_z-of_z w32 (pos 0 -ℤ to_z w32 n) minus-fits, level-itself, minus n)

  pub plus-is : Some (to_z w32 n) ≡ signed false text
  unfolding signed
  plus-is = rw (le-leb (length text) 9 few, is, level-itself)

pub level-long : (s : Bool) (text : List ℕ) → 9 < length text → signed s text ≡ None
unfolding signed
level-long s text h = rw (lt-leb (length text) 9 h)

pub level-broken : (s : Bool) (text : List ℕ) → length text ≤ 9 → digits_of text ≡ None → signed s text ≡ None
unfolding signed
level-broken true text h e = rw (le-leb (length text) 9 h, e)
level-broken false text h e = rw (le-leb (length text) 9 h, e)

-- ---- names: one that breaks the rule is handed on as one that breaks it
pub name-kept : (text : List ℕ) → accepted text ≡ true → name_of text ≡ named text
unfolding name_of naming_of
name-kept text e = rw e

pub name-refused : (text : List ℕ) → accepted text ≡ false → is_name (name_of text) ≡ false
unfolding name_of naming_of is_name blank
name-refused text e = rw e
