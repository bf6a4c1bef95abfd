-- `sum`, which adds two signed fractions and rounds once: which way it goes, that its terms may change places, and that only their values count. Assumes nothing.
use mathlib.Core.Path.{◌≡◌, refl, sym, ap, ◌∙◌}
use mathlib.Core.Bool.{Bool, true, false, not, cond, beq, ◌&&◌}
use Prim.Native.Nat.{ℕ, ◌+◌, ◌-◌, ◌*◌, ◌≤◌, ◌<◌}
use native.Mathlib.Nat.{le_of_eq, le_of_lt, le_antisymm, not-le_of_lt, add-mul, add_comm, sub_self}
use lib.Dec.{T, ltb, ltb→lt, nltb→le}
use lib.Ieee.{Float, Format, round, sum}
use lib.Ieee.Scale.{round_same}
use Rattle.exact.proofs.Truth.{and-true, and-false}
use Rattle.exact.proofs.Order.{ltb_yes, ltb_no}
use Rattle.exact.proofs.Naturals.{ltb-cross, cross-sub}

-- where the signs differ: the larger size less the smaller, with the larger's sign; x and y say whether a < b and b < a
abbrev unlike_sum : Format → Bool → Bool → ℕ → ℕ → ℕ → Bool → Bool → Float
unlike_sum f s t a b c x y = cond x (round f t (b - a) c) (round f (s && y) (a - b) c)

sum_is : (f : Format) (s t : Bool) (a b c : ℕ) → sum f s a t b c ≡ cond (beq s t) (round f s (a + b) c) (unlike_sum f s t a b c (ltb a b) (ltb b a))
unfolding sum
sum_is f s t a b c = refl

-- ---- which way it goes
module _ (f : Format) (s t : Bool) (a b c : ℕ) where
  pub sum_like : beq s t ≡ true → sum f s a t b c ≡ round f s (a + b) c
  sum_like e = sum_is f s t a b c ∙ ap (λ (x : Bool). cond x (round f s (a + b) c) (unlike_sum f s t a b c (ltb a b) (ltb b a))) e

  differ : beq s t ≡ false → sum f s a t b c ≡ unlike_sum f s t a b c (ltb a b) (ltb b a)
  differ e = sum_is f s t a b c ∙ ap (λ (x : Bool). cond x (round f s (a + b) c) (unlike_sum f s t a b c (ltb a b) (ltb b a))) e

  pub sum-second : beq s t ≡ false → a < b → sum f s a t b c ≡ round f t (b - a) c
  sum-second e h = differ e ∙ ap (λ (x : Bool). unlike_sum f s t a b c x (ltb b a)) (ltb_yes a b h)

  not-less : beq s t ≡ false → b ≤ a → sum f s a t b c ≡ round f (s && ltb b a) (a - b) c
  not-less e h = differ e ∙ ap (λ (x : Bool). unlike_sum f s t a b c x (ltb b a)) (ltb_no a b h)

  pub sum_first : beq s t ≡ false → b < a → sum f s a t b c ≡ round f s (a - b) c
  sum_first e h = not-less e (le_of_lt h) ∙ ap (λ (x : Bool). round f x (a - b) c) (ap (λ (x : Bool). s && x) (ltb_yes b a h) ∙ and-true s)

  -- an exact zero of unlike terms is +0
  pub sum-none : beq s t ≡ false → a ≡ b → sum f s a t b c ≡ round f false 0 c
  sum-none e h =
      not-less e (le_of_eq (sym h))
      ∙ ap (λ (x : Bool). round f x (a - b) c) (ap (λ (x : Bool). s && x) (ltb_no b a (le_of_eq h)) ∙ and-false s)
      ∙ ap (λ (x : ℕ). round f false x c) (ap (λ (x : ℕ). x - b) h ∙ sub_self b)

-- ---- the terms change places
swap : (f : Format) (s t : Bool) (a b c : ℕ) (x y : Bool) → (T x → a < b) → (T (not x) → b ≤ a) → (T y → b < a) → (T (not y) → a ≤ b) → unlike_sum f s t a b c x y ≡ unlike_sum f t s b a c y x
swap f s t a b c true true p q r u = absurd (not-le_of_lt (p tt) (le_of_lt (r tt)))
swap f s t a b c true false p q r u = ap (λ (z : Bool). round f z (b - a) c) (sym (and-true t))
swap f s t a b c false true p q r u = ap (λ (z : Bool). round f z (a - b) c) (and-true s)
swap f s t a b c false false p q r u =
    let e : a ≡ b = le_antisymm (u tt) (q tt) in
    ap (λ (z : Bool). round f z (a - b) c) (and-false s)
    ∙ ap (λ (z : ℕ). round f false z c) (ap (λ (z : ℕ). z - b) e ∙ sub_self b ∙ sym (ap (λ (z : ℕ). b - z) e ∙ sub_self b))
    ∙ ap (λ (z : Bool). round f z (b - a) c) (sym (and-false t))

like : (f : Format) (s : Bool) (a b c : ℕ) → beq s s ≡ true → sum f s a s b c ≡ sum f s b s a c
like f s a b c e = sum_like f s s a b c e ∙ ap (λ (z : ℕ). round f s z c) (add_comm a b) ∙ sym (sum_like f s s b a c e)

unlike : (f : Format) (s t : Bool) (a b c : ℕ) → beq s t ≡ false → beq t s ≡ false → sum f s a t b c ≡ sum f t b s a c
unlike f s t a b c e g =
    differ f s t a b c e
    ∙ swap f s t a b c (ltb a b) (ltb b a) (ltb→lt a b) (nltb→le a b) (ltb→lt b a) (nltb→le b a)
    ∙ sym (differ f t s b a c g)

pub sum_comm : (f : Format) (s t : Bool) (a b c : ℕ) → sum f s a t b c ≡ sum f t b s a c
sum_comm f true true a b c = like f true a b c refl
sum_comm f false false a b c = like f false a b c refl
sum_comm f true false a b c = unlike f true false a b c refl refl
sum_comm f false true a b c = unlike f false true a b c refl refl

-- ---- x / c and a / u are one fraction, and so are y / c and b / u
pub sum_same : (f : Format) (s t : Bool) (x y c a b u : ℕ) → 0 < c → 0 < u → x * u ≡ a * c → y * u ≡ b * c → sum f s x t y c ≡ sum f s a t b u
sum_same f s t x y c a b u C U p q =
    let r = round f in
    let l : ltb x y ≡ ltb a b = ltb-cross x y c a b u C U p q in
    let m : ltb y x ≡ ltb b a = ltb-cross y x c b a u C U q p in
    let plus : r s (x + y) c ≡ r s (a + b) u = round_same f s (x + y) c (a + b) u C U (add-mul x y u ∙ ap (λ (z : ℕ). z + y * u) p ∙ ap (λ (z : ℕ). a * c + z) q ∙ sym (add-mul a b c)) in
    let second : r t (y - x) c ≡ r t (b - a) u = round_same f t (y - x) c (b - a) u C U (cross-sub y x c b a u q p) in
    let first : (z : Bool) → r z (x - y) c ≡ r z (a - b) u = λ z. round_same f z (x - y) c (a - b) u C U (cross-sub x y c a b u p q) in
    sum_is f s t x y c
    ∙ ap (λ (z : Float). cond (beq s t) z (unlike_sum f s t x y c (ltb x y) (ltb y x))) plus
    ∙ ap (λ (z : Float). cond (beq s t) (r s (a + b) u) (cond (ltb x y) z (r (s && ltb y x) (x - y) c))) second
    ∙ ap (λ (z : Float). cond (beq s t) (r s (a + b) u) (cond (ltb x y) (r t (b - a) u) z)) (first (s && ltb y x))
    ∙ ap (λ (z : Bool). cond (beq s t) (r s (a + b) u) (unlike_sum f s t a b u z (ltb y x))) l
    ∙ ap (λ (z : Bool). cond (beq s t) (r s (a + b) u) (unlike_sum f s t a b u (ltb a b) z)) m
    ∙ sym (sum_is f s t a b u)
