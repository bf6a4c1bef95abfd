-- The squares of the two parts of a complex product add up to the product of the sums of squares: for sizes first, then in the sixteen cases of sign.
-- Assumes nothing.
use mathlib.Core.Path.{◌≡◌, ap, ◌∙◌, subst}
use mathlib.Core.Bool.{Bool, true, false, not}
use Prim.Native.Nat.{ℕ, ◌+◌, ◌*◌, ◌≤◌, ◌<◌}
use native.Mathlib.Nat.{add_comm}
use native.Mathlib.Omega.{arith}
use lib.Dec.{T, leb, leb→le, nleb→lt}
use Rattle.exact.specs.Signed.{Signed, signed, plus_s, less_s, times_s, dist, mag}
use Rattle.exact.proofs.Sizes.{signed_is, same-product, same-less, same-plus}
use Rattle.accuracy.proofs.Sizes.{sq, sq-same}

pub dist-square : (a b : ℕ) → dist a b * dist a b + 2 * (a * b) ≡ a * a + b * b
dist-square a b = by (leb a b) (leb→le a b) (nleb→lt a b)
  where
    more : (a d : ℕ) → d * d + 2 * (a * (d + a)) ≡ a * a + (d + a) * (d + a)
    more a d = omega arith

    fewer : (b d : ℕ) → d * d + 2 * ((d + b) * b) ≡ (d + b) * (d + b) + b * b
    fewer b d = omega arith

    by : (t : Bool) → (T t → a ≤ b) → (T (not t) → b < a) → dist a b * dist a b + 2 * (a * b) ≡ a * a + b * b
    by true h k =
        let l = h tt in
        let e : dist a b + a ≡ b = omega arith in
        subst (λ (z : ℕ). dist a b * dist a b + 2 * (a * z) ≡ a * a + z * z) e (more a (dist a b))
    by false h k =
        let l = k tt in
        let e : dist a b + b ≡ a = omega arith in
        subst (λ (z : ℕ). dist a b * dist a b + 2 * (z * b) ≡ z * z + b * b) e (fewer b (dist a b))

-- ---- sizes: one part is a difference and the other a sum
difference-sum : (e f c s x y : ℕ) → x ≡ dist (e * c) (f * s) → y ≡ e * s + f * c → x * x + y * y ≡ (e * e + f * f) * (c * c + s * s)
difference-sum e f c s x y hx hy =
    (λ i. hx i * hx i + hy i * hy i) ∙ by (dist (e * c) (f * s)) (dist-square (e * c) (f * s))
  where
    by : (d : ℕ) → d * d + 2 * (e * c * (f * s)) ≡ e * c * (e * c) + f * s * (f * s) → d * d + (e * s + f * c) * (e * s + f * c) ≡ (e * e + f * f) * (c * c + s * s)
    by d h = omega arith

sum-difference : (e f c s x y : ℕ) → x ≡ e * c + f * s → y ≡ dist (e * s) (f * c) → x * x + y * y ≡ (e * e + f * f) * (c * c + s * s)
sum-difference e f c s x y hx hy = add_comm (x * x) (y * y) ∙ difference-sum e f s c y x hy hx ∙ ap (λ (z : ℕ). (e * e + f * f) * z) (add_comm (s * s) (c * c))

-- ---- with signs
norm-signed : (a b c d : Bool) (e f g h : ℕ) → sq (less_s (times_s (signed a e) (signed c g)) (times_s (signed b f) (signed d h))) + sq (plus_s (times_s (signed a e) (signed d h)) (times_s (signed b f) (signed c g))) ≡ (e * e + f * f) * (g * g + h * h)
norm-signed true true true true e f g h = difference-sum e f g h _ _ (omega arith) (omega arith)
norm-signed true true true false e f g h = sum-difference e f g h _ _ (omega arith) (omega arith)
norm-signed true true false true e f g h = sum-difference e f g h _ _ (omega arith) (omega arith)
norm-signed true true false false e f g h = difference-sum e f g h _ _ (omega arith) (omega arith)
norm-signed true false true true e f g h = sum-difference e f g h _ _ (omega arith) (omega arith)
norm-signed true false true false e f g h = difference-sum e f g h _ _ (omega arith) (omega arith)
norm-signed true false false true e f g h = difference-sum e f g h _ _ (omega arith) (omega arith)
norm-signed true false false false e f g h = sum-difference e f g h _ _ (omega arith) (omega arith)
norm-signed false true true true e f g h = sum-difference e f g h _ _ (omega arith) (omega arith)
norm-signed false true true false e f g h = difference-sum e f g h _ _ (omega arith) (omega arith)
norm-signed false true false true e f g h = difference-sum e f g h _ _ (omega arith) (omega arith)
norm-signed false true false false e f g h = sum-difference e f g h _ _ (omega arith) (omega arith)
norm-signed false false true true e f g h = difference-sum e f g h _ _ (omega arith) (omega arith)
norm-signed false false true false e f g h = sum-difference e f g h _ _ (omega arith) (omega arith)
norm-signed false false false true e f g h = sum-difference e f g h _ _ (omega arith) (omega arith)
norm-signed false false false false e f g h = difference-sum e f g h _ _ (omega arith) (omega arith)

pub norm-mul : (x y c s : Signed) → sq (less_s (times_s x c) (times_s y s)) + sq (plus_s (times_s x s) (times_s y c)) ≡ (sq x + sq y) * (sq c + sq s)
norm-mul x y c s =
    let a = signed_is x in
    let b = signed_is y in
    let g = signed_is c in
    let h = signed_is s in
    let X = signed a.0 (mag x) in
    let Y = signed b.0 (mag y) in
    let C = signed g.0 (mag c) in
    let S = signed h.0 (mag s) in
    let re = same-less (times_s x c) (times_s y s) (times_s X C) (times_s Y S) (same-product x c X C a.1 g.1) (same-product y s Y S b.1 h.1) in
    let im = same-plus (times_s x s) (times_s y c) (times_s X S) (times_s Y C) (same-product x s X S a.1 h.1) (same-product y c Y C b.1 g.1) in
    let re-is = sq-same (less_s (times_s x c) (times_s y s)) (less_s (times_s X C) (times_s Y S)) re in
    let im-is = sq-same (plus_s (times_s x s) (times_s y c)) (plus_s (times_s X S) (times_s Y C)) im in
    (λ i. re-is i + im-is i) ∙ norm-signed a.0 b.0 g.0 h.0 (mag x) (mag y) (mag c) (mag s)
