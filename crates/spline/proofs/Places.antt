-- The tests of finite doubles as facts of signed whole numbers: each double has its place, in units. Assumes nothing.
use Rattle.std.proofs.Common.{◌≡◌, ℕ, ◌+◌, ◌^◌, ◌<◌, ◌≤◌, Bool, true, false, ◌&&◌, ◌||◌, T, eqb, sym, refl, ap, ◌∙◌, arith, pow_pos, ltb-false, ltb-true, eq-eqb, eqb-true}
use mathlib.Core.Bool.{false≢true}
use lib.Ieee.{Float, nan, inf, fin, binary64, fits, below, level, lt, eq, le}
use lib.Ieee.Scale.{finite}
use Rattle.exact.specs.Signed.{Signed, Same, signed}
use Rattle.exact.specs.Value.{Units, sign_of, units_of}
use Rattle.exact.proofs.Value.{own, units-are, sign-is}
use Rattle.exact.proofs.Compare.{lt-is}
use Rattle.exact.proofs.Truth.{both}
use Rattle.spline.proofs.Equal.{eq_is}

-- a finite double
pub record Number (z : Float) : Type 0 where
  pub fit : T (fits binary64 z)
  pub known : T (finite z)

pub value_of : (z : Float) → Number z → Units z (sign_of z) (units_of z)
value_of z Z = own z Z.fit Z.known

abbrev pub place : Float → Signed
place z = signed (sign_of z) (units_of z)

abbrev pub Less : Signed → Signed → Type 0
Less x y = x.plus + y.less < y.plus + x.less

abbrev pub NotMore : Signed → Signed → Type 0
NotMore x y = x.plus + y.less ≤ y.plus + x.less

-- ---- the order of signed numbers
pub via : (a b c : Signed) → Same a b → Same b c → Same a c
via a b c e f = omega arith

pub back : (a b : Signed) → Same a b → Same b a
back a b e = omega arith

pub on : (a b c : Signed) → NotMore a b → NotMore b c → NotMore a c
on a b c h k = omega arith

pub over : (a b c : Signed) → Less a b → NotMore b c → Less a c
over a b c h k = omega arith

pub under : (a b c : Signed) → NotMore a b → Less b c → Less a c
under a b c h k = omega arith

pub not_more : (a b : Signed) → Less a b → NotMore a b
not_more a b h = omega arith

pub like : (a b : Signed) → Same a b → NotMore a b
like a b e = omega arith

-- ---- what the tests say of signs and sizes
below-says : (s t : Bool) (a b : ℕ) → below s a t b ≡ true → Less (signed s a) (signed t b)
below-says false false a b h = let l = ltb-true a b h in omega arith
below-says false true a b h = absurd (false≢true h)
below-says true false a b h = let l = ltb-true 0 (a + b) h in omega arith
below-says true true a b h = let l = ltb-true b a h in omega arith

pub not-below-says : (s t : Bool) (a b : ℕ) → below s a t b ≡ false → NotMore (signed t b) (signed s a)
not-below-says false false a b h = let l = ltb-false a b h in omega arith
not-below-says false true a b h = omega arith
not-below-says true false a b h = let l = ltb-false 0 (a + b) h in omega arith
not-below-says true true a b h = let l = ltb-false b a h in omega arith

level-says : (s t : Bool) (a b : ℕ) → level s a t b ≡ true → Same (signed s a) (signed t b)
level-says false false a b h = let l = eqb-true a b (both (eqb a b) true h).0 in omega arith
level-says true true a b h = let l = eqb-true a b (both (eqb a b) true h).0 in omega arith
level-says false true a b h = let l = both (eqb a b) (eqb a 0) h in omega (arith, eqb-true a b l.0, eqb-true a 0 l.1)
level-says true false a b h = let l = both (eqb a b) (eqb a 0) h in omega (arith, eqb-true a b l.0, eqb-true a 0 l.1)

not-level-says : (s t : Bool) (a b : ℕ) → level s a t b ≡ false → Same (signed s a) (signed t b) → ⊥
not-level-says s t a b h e = false≢true (sym h ∙ by s t e)
  where
    by : (s t : Bool) → Same (signed s a) (signed t b) → level s a t b ≡ true
    by false false e = ap (λ (z : Bool). z && true) (eq-eqb a b (omega arith))
    by true true e = ap (λ (z : Bool). z && true) (eq-eqb a b (omega arith))
    by false true e = (λ i. eq-eqb a b (omega arith) i && eq-eqb a 0 (omega arith) i)
    by true false e = (λ i. eq-eqb a b (omega arith) i && eq-eqb a 0 (omega arith) i)

-- ---- of two numbers
module _ (x y : Float) (X : Number x) (Y : Number y) where
  lt_of : lt x y ≡ below (sign_of x) (units_of x) (sign_of y) (units_of y)
  lt_of = lt-is x y (sign_of x) (sign_of y) (units_of x) (units_of y) (2 ^ 1074) (pow_pos 1074) (value_of x X) (value_of y Y)

  eq_of : eq x y ≡ level (sign_of x) (units_of x) (sign_of y) (units_of y)
  eq_of = eq_is x y (sign_of x) (sign_of y) (units_of x) (units_of y) (2 ^ 1074) (pow_pos 1074) (value_of x X) (value_of y Y)

  pub lt_yes : lt x y ≡ true → Less (place x) (place y)
  lt_yes h = below-says (sign_of x) (sign_of y) (units_of x) (units_of y) (sym lt_of ∙ h)

  pub lt_no : lt x y ≡ false → NotMore (place y) (place x)
  lt_no h = not-below-says (sign_of x) (sign_of y) (units_of x) (units_of y) (sym lt_of ∙ h)

  pub eq_yes : eq x y ≡ true → Same (place x) (place y)
  eq_yes h = level-says (sign_of x) (sign_of y) (units_of x) (units_of y) (sym eq_of ∙ h)

  eq_no : eq x y ≡ false → Same (place x) (place y) → ⊥
  eq_no h = not-level-says (sign_of x) (sign_of y) (units_of x) (units_of y) (sym eq_of ∙ h)

  -- and back
  pub same-eq : Same (place x) (place y) → eq x y ≡ true
  same-eq e = by (eq x y) refl
    where
      by : (b : Bool) → eq x y ≡ b → b ≡ true
      by true h = refl
      by false h = absurd (eq_no h e)

  pub less-not-eq : Less (place x) (place y) → eq x y ≡ false
  less-not-eq e = by (eq x y) refl
    where
      none : (a b : Signed) → Less a b → Same a b → ⊥
      none a b l e = omega arith

      by : (b : Bool) → eq x y ≡ b → b ≡ false
      by true h = absurd (none (place x) (place y) e (eq_yes h))
      by false h = refl

  pub le_yes : NotMore (place x) (place y) → le x y ≡ true
  unfolding le
  le_yes e = by (lt x y) refl
    where
      level : (a b : Signed) → NotMore a b → NotMore b a → Same a b
      level a b h k = omega arith

      by : (b : Bool) → lt x y ≡ b → (b || eq x y) ≡ true
      by true h = refl
      by false h = same-eq (level (place x) (place y) e (lt_no h))

  pub le-no : Less (place y) (place x) → le x y ≡ false
  unfolding le
  le-no e = by (lt x y) (eq x y) refl refl
    where
      less : (a b : Signed) → Less a b → Less b a → ⊥
      less a b h k = omega arith

      same : (a b : Signed) → Less a b → Same b a → ⊥
      same a b h k = omega arith

      by : (a b : Bool) → lt x y ≡ a → eq x y ≡ b → (a || b) ≡ false
      by true b h k = absurd (less (place y) (place x) e (lt_yes h))
      by false true h k = absurd (same (place y) (place x) e (eq_yes k))
      by false false h k = refl

-- ---- a double that has a value has its place
pub placed : (z : Float) (s : Bool) (n : ℕ) → Units z s n → place z ≡ signed s n
placed z s n v = λ i. signed (sign-is z s n v i) (units-are z s n v i)

-- what equals a number is finite
pub known-eq : (x y : Float) → T (finite y) → eq x y ≡ true → T (finite x)
unfolding eq
known-eq nan y k e = absurd (false≢true e)
known-eq (inf s) nan k e = absurd (false≢true e)
known-eq (inf s) (inf t) k e = absurd k
known-eq (inf s) (fin t n d) k e = absurd (false≢true e)
known-eq (fin s m e) y k h = tt
