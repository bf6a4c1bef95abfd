-- A product, a sum, a difference and a quotient of finite values: the exact result over the values' denominators, rounded once. Assumes nothing.
use mathlib.Core.Path.{◌≡◌, sym, ap, ◌∙◌}
use mathlib.Core.Bool.{Bool, not}
use Prim.Native.Nat.{ℕ, zero, suc, ◌*◌, ◌<◌}
use native.Mathlib.Nat.{mul-pos, mul_assoc, mul_comm, mul_left_comm, mul_right_comm, mul-mul-mul_comm, lt_irrefl, zero-mul, zero-lt-suc}
use native.Mathlib.Omega.{arith}
use borrow.Author.Tests.{ne_eqb}
use lib.Ieee.{Float, nan, inf, fin, Format, up, down, unlike, round, sum, add, sub, neg, mul, div}
use lib.Ieee.Fits.{down_pos}
use lib.Ieee.Exact.{HasValue}
use lib.Ieee.Scale.{round_same}
use Rattle.exact.proofs.Sum.{sum_same}
use Rattle.exact.proofs.Value.{neg_value}

pub mul-rounds : (f : Format) (x y : Float) (s t : Bool) (a c b d : ℕ) → 0 < c → 0 < d → HasValue x s a c → HasValue y t b d → mul f x y ≡ round f (unlike s t) (a * b) (c * d)
unfolding mul
mul-rounds f nan y s t a c b d C D v w = absurd v
mul-rounds f (inf u) y s t a c b d C D v w = absurd v
mul-rounds f (fin u m e) nan s t a c b d C D v w = absurd w
mul-rounds f (fin u m e) (inf j) s t a c b d C D v w = absurd w
mul-rounds f (fin u m e) (fin j n g) s t a c b d C D v w =
    (λ i. round f (unlike (v.0 i) (w.0 i)) (m * up e * (n * up g)) (down e * down g))
    ∙ round_same f (unlike s t) (m * up e * (n * up g)) (down e * down g) (a * b) (c * d) (mul-pos (down_pos e) (down_pos g)) (mul-pos C D)
    (mul-mul-mul_comm (m * up e) (n * up g) c d ∙ (λ i. v.1 i * w.1 i) ∙ mul-mul-mul_comm a (down e) b (down g))

-- over one common denominator
pub add_rounds : (f : Format) (x y : Float) (s t : Bool) (a b c : ℕ) → 0 < c → HasValue x s a c → HasValue y t b c → add f x y ≡ sum f s a t b c
unfolding add
add_rounds f nan y s t a b c C v w = absurd v
add_rounds f (inf u) y s t a b c C v w = absurd v
add_rounds f (fin u m e) nan s t a b c C v w = absurd w
add_rounds f (fin u m e) (inf j) s t a b c C v w = absurd w
add_rounds f (fin u m e) (fin j n g) s t a b c C v w =
    (λ i. sum f (v.0 i) (m * up e * down g) (w.0 i) (n * up g * down e) (down e * down g))
    ∙ sum_same f s t (m * up e * down g) (n * up g * down e) (down e * down g) a b c (mul-pos (down_pos e) (down_pos g)) C
    (mul_right_comm (m * up e) (down g) c ∙ ap (λ (x : ℕ). x * down g) v.1 ∙ mul_assoc a (down e) (down g))
    (mul_right_comm (n * up g) (down e) c ∙ ap (λ (x : ℕ). x * down e) w.1 ∙ mul_assoc b (down g) (down e) ∙ ap (λ (x : ℕ). b * x) (mul_comm (down g) (down e)))

pub sub-rounds : (f : Format) (x y : Float) (s t : Bool) (a b c : ℕ) → 0 < c → HasValue x s a c → HasValue y t b c → sub f x y ≡ sum f s a (not t) b c
unfolding sub
sub-rounds f x y s t a b c C v w = add_rounds f x (neg y) s (not t) a b c C v (neg_value y t b c w)

-- the quotient of finite values, the divisor not 0
pub div-rounds : (f : Format) (x y : Float) (s t : Bool) (a c b d : ℕ) → 0 < b → 0 < c → 0 < d → HasValue x s a c → HasValue y t b d → div f x y ≡ round f (unlike s t) (a * d) (c * b)
unfolding div
div-rounds f nan y s t a c b d B C D v w = absurd v
div-rounds f (inf u) y s t a c b d B C D v w = absurd v
div-rounds f (fin u m e) nan s t a c b d B C D v w = absurd w
div-rounds f (fin u m e) (inf j) s t a c b d B C D v w = absurd w
div-rounds f (fin u m e) (fin j n g) s t a c b d B C D v w =
    rw (ne_eqb n 0 some)
    ((λ i. round f (unlike (v.0 i) (w.0 i)) (m * up e * down g) (n * up g * down e))
    ∙ round_same f (unlike s t) (m * up e * down g) (n * up g * down e) (a * d) (c * b) there (mul-pos C B)
    (turn (m * up e) (down g) c b ∙ (λ i. v.1 i * sym w.1 i) ∙ turned a (down e) (n * up g) d))
  where
    some : n ≡ 0 → ⊥
    some z =
        let none : 0 * up g * d ≡ b * down g = rw z at w.1 in
        let more : 0 < b * down g = mul-pos B (down_pos g) in
        omega arith

    there : 0 < n * up g * down e
    there =
        let more : 0 < b * down g = mul-pos B (down_pos g) in
        let product : 0 < n * up g * d = rw w.1 more in
        mul-pos {m = n * up g} (left (n * up g) d product) (down_pos e)
      where
        left : (x y : ℕ) → 0 < x * y → 0 < x
        left zero y h = absurd (lt_irrefl 0 (rw (zero-mul y) at h))
        left (suc x) y h = zero-lt-suc x

    turn : (x g c b : ℕ) → x * g * (c * b) ≡ x * c * (b * g)
    turn x g c b = simp (mul_assoc, mul_comm, mul_left_comm)

    turned : (a e y d : ℕ) → a * e * (y * d) ≡ a * d * (y * e)
    turned a e y d = simp (mul_assoc, mul_comm, mul_left_comm)
