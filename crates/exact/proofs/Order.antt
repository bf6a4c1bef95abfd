-- What the comparisons of naturals say: of `compare`, and of `ltb`. Assumes nothing.
use mathlib.Core.Path.{◌≡◌, refl, subst}
use mathlib.Core.Bool.{Bool, true, false, not}
use Prim.Native.Nat.{ℕ, ◌≤◌, ◌<◌, compare, Ordering}
use native.Mathlib.Nat.{not-le_of_lt}
use lib.Arith.{lt_of_le-ne, le→nltb}
use lib.Dec.{T, is_le, compare_is_eq, ltb, eqb, leb→le, nleb→lt, eqb→eq, eqb_refl, ltb→lt, nltb→le, lt→ltb}
use lib.Ieee.Bits.{is_true, is_false}

-- ---- `compare a b` says how a and b stand
abbrev pub Stands : Ordering → ℕ → ℕ → Type 0
Stands Ordering.lt a b = a < b
Stands Ordering.eq a b = a ≡ b
Stands Ordering.gt a b = b < a

pub compared : (a b : ℕ) → Stands (compare a b) a b
compared a b =
    by (compare a b) (leb→le a b) (nleb→lt a b) (eqb→eq a b) (λ (e : a ≡ b). subst (λ (x : ℕ). T (eqb a x)) e (eqb_refl a))
  where
    by : (o : Ordering) → (T (is_le o) → a ≤ b) → (T (not (is_le o)) → b < a) → (T (compare_is_eq o) → a ≡ b) → (a ≡ b → T (compare_is_eq o)) → Stands o a b
    by Ordering.lt h k e n = lt_of_le-ne (h tt) n
    by Ordering.eq h k e n = e tt
    by Ordering.gt h k e n = k tt

-- ---- `ltb a b` is true where a < b, and false where b ≤ a
pub ltb_yes : (a b : ℕ) → a < b → ltb a b ≡ true
ltb_yes a b h = is_true (ltb a b) (lt→ltb a b h)

pub ltb_no : (a b : ℕ) → b ≤ a → ltb a b ≡ false
ltb_no a b h = is_false (ltb a b) (le→nltb a b h)

-- two tests that hold together are equal
pub ltb-same : (a b c d : ℕ) → (a < b → c < d) → (c < d → a < b) → ltb a b ≡ ltb c d
ltb-same a b c d f g = by (ltb a b) (ltb c d) (ltb→lt a b) (nltb→le a b) (ltb→lt c d) (nltb→le c d)
  where
    by : (x y : Bool) → (T x → a < b) → (T (not x) → b ≤ a) → (T y → c < d) → (T (not y) → d ≤ c) → x ≡ y
    by true true h i j k = refl
    by false false h i j k = refl
    by true false h i j k = absurd (not-le_of_lt (f (h tt)) (k tt))
    by false true h i j k = absurd (not-le_of_lt (g (j tt)) (i tt))
