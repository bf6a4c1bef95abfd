-- 1.0 times x, x times 1.0 and x over 1.0 is x: for NaN, infinities and zeros of either sign too; and what equals 1.0 is it. Assumes nothing.
use mathlib.Core.Path.{◌≡◌, refl, sym, ap, ◌∙◌, subst}
use mathlib.Core.Bool.{Bool, true, false, ◌||◌, beq, true≢false}
use Prim.Native.Nat.{◌*◌, ◌^◌}
use native.Mathlib.Nat.{one-mul, mul-one}
use native.Mathlib.Omega.{arith}
use borrow.Author.Tests.{eqb-true}
use lib.Dec.{T, eqb, lit<}
use lib.Pow.{pow_pos}
use lib.Ieee.{Float, nan, inf, fin, binary64, up, down, round, mul, div, eq, fits, of_bits}
use lib.Ieee.Exact.{HasValue}
use lib.Ieee.Fits.{down_pos, mul-fits, div-fits}
use lib.Ieee.Scale.{finite}
use Rattle.exact.specs.Doubles.{one}
use Rattle.exact.specs.Value.{Units, sign_of, units_of}
use Rattle.exact.proofs.Few.{few-of, few-value, units-below}
use Rattle.exact.proofs.Operation.{mul-rounds, div-rounds}
use Rattle.exact.proofs.Value.{own, unique}
use Rattle.exact.proofs.Truth.{both, like-false, like-plus}

-- a double that rounds the sign and the units of x is x
pub rounds-back : (x y : Float) → T (fits binary64 x) → T (finite x) → T (fits binary64 y) → y ≡ round binary64 (sign_of x) (units_of x) (2 ^ 1074) → y ≡ x
rounds-back x y f t g e =
    let s = sign_of x in
    let n = units_of x in
    unique y x s n (2 ^ 1074) (pow_pos 1074) g f (subst (λ (z : Float). Units z s n) (sym e) (few-value s n (few-of x f t) (units-below x f t))) (own x f t)

one_value : HasValue one false 1 1
unfolding of_bits
one_value = (refl, refl)

pub one-times : (x : Float) → T (fits binary64 x) → mul binary64 one x ≡ x
unfolding mul of_bits
one-times nan f = refl
one-times (inf s) f = ap inf (like-plus s)
one-times (fin s m e) f =
    let x = fin s m e in
    let n = units_of x in
    rounds-back x (mul binary64 one x) f tt (mul-fits binary64 one x)
    (mul-rounds binary64 one x false s 1 1 n (2 ^ 1074) (lit< tt) (pow_pos 1074) one_value (own x f tt)
    ∙ (λ i. round binary64 (like-plus s i) (one-mul n i) (2 ^ 1074)))

pub times-one : (x : Float) → T (fits binary64 x) → mul binary64 x one ≡ x
unfolding mul of_bits
times-one nan f = refl
times-one (inf s) f = ap inf (like-false s)
times-one (fin s m e) f =
    let x = fin s m e in
    let n = units_of x in
    rounds-back x (mul binary64 x one) f tt (mul-fits binary64 x one)
    (mul-rounds binary64 x one s false n (2 ^ 1074) 1 1 (pow_pos 1074) (lit< tt) (own x f tt) one_value
    ∙ (λ i. round binary64 (like-false s i) (mul-one n i) (2 ^ 1074)))

pub over-one : (x : Float) → T (fits binary64 x) → div binary64 x one ≡ x
unfolding div of_bits
over-one nan f = refl
over-one (inf s) f = ap inf (like-false s)
over-one (fin s m e) f =
    let x = fin s m e in
    let n = units_of x in
    rounds-back x (div binary64 x one) f tt (div-fits binary64 x one)
    (div-rounds binary64 x one s false n (2 ^ 1074) 1 1 (lit< tt) (pow_pos 1074) (lit< tt) (own x f tt) one_value
    ∙ (λ i. round binary64 (like-false s i) (mul-one n i) (mul-one (2 ^ 1074) i)))

-- what equals 1.0 is 1.0
pub is_one : (x : Float) → T (fits binary64 x) → eq x one ≡ true → x ≡ one
unfolding eq of_bits fits
is_one nan f p = absurd (true≢false (sym p))
is_one (inf s) f p = absurd (true≢false (sym p))
is_one (fin s m e) f p =
    let parts = both (eqb (m * up e * 1) (1 * down e)) (beq s false || eqb (m * up e * 1) 0) p in
    let value : m * up e * 1 ≡ 1 * down e = eqb-true (m * up e * 1) (1 * down e) parts.0 in
    unique (fin s m e) one false 1 1 (lit< tt) f tt (plus s parts.1 value, value) (refl, refl)
  where
    plus : (t : Bool) → (beq t false || eqb (m * up e * 1) 0) ≡ true → m * up e * 1 ≡ 1 * down e → t ≡ false
    plus false h value = refl
    plus true h value = absurd (omega (arith, eqb-true (m * up e * 1) 0 h, value, down_pos e))
