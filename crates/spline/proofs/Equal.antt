-- The test `eq` on finite values: that of their signs and of their sizes over one denominator. Assumes nothing.
use Rattle.std.proofs.Common.{◌≡◌, ℕ, ◌*◌, ◌<◌, Bool, true, false, ◌&&◌, ◌||◌, eqb, sym, refl, ap, ◌∙◌, mul_assoc, mul_comm, mul-pos, zero-mul, mul_right_comm, eq-eqb, ne_eqb, eqb-true}
use mathlib.Core.Bool.{beq}
use native.Mathlib.Nat.{eq_of_mul-eq-mul_right}
use borrow.Author.Tests.{eqb-false}
use lib.Ieee.{Float, nan, inf, fin, up, down, level, eq}
use lib.Ieee.Fits.{down_pos}
use lib.Ieee.Exact.{HasValue}

-- x / d and a / c are one fraction, and so are y / d and b / c
same_test : (x y a b c d : ℕ) → 0 < c → 0 < d → x * c ≡ a * d → y * c ≡ b * d → eqb x y ≡ eqb a b
same_test x y a b c d C D p q = by (eqb a b) refl
  where
    by : (t : Bool) → eqb a b ≡ t → eqb x y ≡ t
    by true e = eq-eqb x y (eq_of_mul-eq-mul_right c C x y (p ∙ ap (λ (z : ℕ). z * d) (eqb-true a b e) ∙ sym q))
    by false e = ne_eqb x y (λ h. eqb-false a b e (eq_of_mul-eq-mul_right d D a b (sym p ∙ ap (λ (z : ℕ). z * c) h ∙ q)))

pub eq_is : (x y : Float) (s t : Bool) (a b c : ℕ) → 0 < c → HasValue x s a c → HasValue y t b c → eq x y ≡ level s a t b
unfolding eq
eq_is nan y s t a b c C v w = absurd v
eq_is (inf u) y s t a b c C v w = absurd v
eq_is (fin u m e) nan s t a b c C v w = absurd w
eq_is (fin u m e) (inf j) s t a b c C v w = absurd w
eq_is (fin u m e) (fin j n g) s t a b c C v w =
    let x = m * up e * down g in
    let y = n * up g * down e in
    let d = down e * down g in
    let D = mul-pos (down_pos e) (down_pos g) in
    let p : x * c ≡ a * d = mul_right_comm (m * up e) (down g) c ∙ ap (λ (z : ℕ). z * down g) v.1 ∙ mul_assoc a (down e) (down g) in
    let q : y * c ≡ b * d = mul_right_comm (n * up g) (down e) c ∙ ap (λ (z : ℕ). z * down e) w.1 ∙ mul_assoc b (down g) (down e)
    ∙ ap (λ (z : ℕ). b * z) (mul_comm (down g) (down e)) in
    (λ i. same_test x y a b c d C D p q i && (beq (v.0 i) (w.0 i) || same_test x 0 a 0 c d C D p (zero-mul c ∙ sym (zero-mul d)) i))
