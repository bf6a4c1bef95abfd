-- What a verdict says: that it is not the other one too, of the parts of an `&&` and an `||`, of a comparison of signed numbers, and of a double that is a number. Assumes nothing.
use mathlib.Core.Path.{◌≡◌, refl, sym, ap, subst, ◌∙◌}
use mathlib.Core.Bool.{Bool, true, false, ◌&&◌, ◌||◌, not, beq, true≢false}
use Prim.Native.Nat.{◌*◌}
use borrow.Author.Tests.{eq-eqb}
use lib.Dec.{T, eqb}
use lib.IntN.{ℤ}
use lib.Signed.{◌≤ℤ◌, ◌<ℤ◌, lt_z, lt_z_yes, lt_z_no}
use lib.Ieee.{Float, nan, inf, fin, up, down, is_nan, eq, ne, unlike}
use lib.Ieee.Scale.{finite}

pub never : {b : Bool} → b ≡ true → b ≡ false → ⊥
never h k = true≢false (sym h ∙ k)

pub both : (a b : Bool) → (a && b) ≡ true → (a ≡ true) × (b ≡ true)
both true b e = (refl, e)
both false b e = absurd (true≢false (sym e))

pub neither : (a b : Bool) → (a || b) ≡ false → (a ≡ false) × (b ≡ false)
neither true b e = absurd (true≢false e)
neither false b e = (refl, e)

pub below : {a b : ℤ} → lt_z a b ≡ true → a <ℤ b
below e = lt_z_yes (subst T (sym e) tt)

pub not-below : {a b : ℤ} → lt_z a b ≡ false → b ≤ℤ a
not-below e = lt_z_no (subst (λ (t : Bool). T (not t)) (sym e) tt)

-- a NaN is not equal to itself, a number is, and a finite double is one
pub nan_if_other : (x : Float) → ne x x ≡ true → is_nan x ≡ true
unfolding ne eq is_nan
nan_if_other nan e = refl
nan_if_other (inf true) e = absurd (true≢false (sym e))
nan_if_other (inf false) e = absurd (true≢false (sym e))
nan_if_other (fin s m k) e = absurd (true≢false (sym e ∙ by s (eqb (m * up k * down k) (m * up k * down k)) (eq-eqb (m * up k * down k) (m * up k * down k) refl)))
  where
    by : (s b : Bool) → b ≡ true → not (b && (beq s s || eqb (m * up k * down k) 0)) ≡ false
    by true b e = ap (λ (c : Bool). not (c && true)) e
    by false b e = ap (λ (c : Bool). not (c && true)) e

pub number_if_same : (x : Float) → ne x x ≡ false → T (not (is_nan x))
unfolding ne is_nan
number_if_same nan e = absurd (true≢false e)
number_if_same (inf s) e = tt
number_if_same (fin s m k) e = tt

pub number_if_finite : (x : Float) → finite x ≡ true → T (not (is_nan x))
unfolding is_nan
number_if_finite nan e = absurd (true≢false (sym e))
number_if_finite (inf s) e = tt
number_if_finite (fin s m k) e = tt

pub and-true : (s : Bool) → (s && true) ≡ s
and-true true = refl
and-true false = refl

pub and-false : (s : Bool) → (s && false) ≡ false
and-false true = refl
and-false false = refl

-- times a plus sign, and a plus sign times another
pub like-false : (s : Bool) → unlike s false ≡ s
like-false true = refl
like-false false = refl

pub like-plus : (s : Bool) → unlike false s ≡ s
like-plus true = refl
like-plus false = refl
