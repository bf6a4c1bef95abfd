-- Eight sums that each get a product, one after the other: the first p have theirs, the others are as they came. Assumes nothing.
use mathlib.Core.Path.{◌≡◌, refl, sym, ap, ◌∙◌}
use mathlib.Core.Logic.{inl, inr}
use mathlib.Core.List.{List}
use Prim.Native.Nat.{ℕ, ◌+◌, ◌≤◌, ◌<◌}
use native.Mathlib.Nat.{not-suc-le-zero, eq-or-lt_of_le, le_of_suc-le-suc, le_refl}
use native.Mathlib.Numerals.{add-one}
use native.Mathlib.Omega.{arith}
use lib.ListN.{length, get_or, set, length-set}
use lib.Seq.{get_or-set_same, get_or-set_other}
use lib.Ieee.{Float, nan, binary64, add}
use Rattle.ring.specs.Inside.{EachAdded}

pub record Adding (product : ℕ → Float) (old : List Float) (p : ℕ) (sums : List Float) : Type 0 where
  pub within : p ≤ 8
  pub room : length sums ≡ 8
  pub past : (q : ℕ) → q < p → get_or sums q nan ≡ add binary64 (product q) (get_or old q nan)
  pub next : (q : ℕ) → p ≤ q → get_or sums q nan ≡ get_or old q nan

module _ (product : ℕ → Float) (old : List Float) where
  pub adding_none : length old ≡ 8 → Adding product old 0 old
  adding_none room = record { within = omega arith; room = room; past = λ q h. absurd (not-suc-le-zero h); next = λ q h. refl }

  pub adding_more : (sums : List Float) (p : ℕ) (v : Float) → p < 8 → v ≡ product p → Adding product old p sums → Adding product old (p + 1) (set sums p (add binary64 v (get_or sums p nan)))
  adding_more sums p v h e a =
      let y = add binary64 v (get_or sums p nan) in
      let here : y ≡ add binary64 (product p) (get_or old p nan) = λ i. add binary64 (e i) (a.next p (le_refl p) i) in
      let inside : p < length sums = omega (arith, a.room) in
      record {
        within = omega arith;
        room = length-set sums p y ∙ a.room;
        past = λ q l. elim (eq-or-lt_of_le (le_of_suc-le-suc (rw add-one at l))) [
          | inl same ↦ ap (λ (m : ℕ). get_or (set sums p y) m nan) same ∙ get_or-set_same sums p y nan inside ∙ here ∙ ap (λ (m : ℕ). add binary64 (product m) (get_or old m nan)) (sym same)
          | inr less ↦ get_or-set_other sums p q y nan (λ same. omega arith) ∙ a.past q less
        ];
        next = λ q l. get_or-set_other sums p q y nan (λ same. omega arith) ∙ a.next q (omega arith);
      }

  pub adding_all : (sums : List Float) (p : ℕ) → 8 ≤ p → Adding product old p sums → EachAdded product old sums
  adding_all sums p h a = record { room = a.room; each = λ q l. a.past q (omega arith) }
