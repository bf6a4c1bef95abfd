-- A zero of either sign plus a finite double has that double's value: it is held already, so nothing is rounded. Only a zero's sign may change. Assumes
-- nothing.
use mathlib.Core.Path.{◌≡◌, refl, sym, ap, ◌∙◌, subst}
use mathlib.Core.Bool.{Bool, true, false, beq}
use Prim.Native.Nat.{ℕ, zero, suc, ◌^◌, ◌<◌}
use native.Mathlib.Nat.{zero-add, sub-zero, zero-lt-suc}
use lib.Dec.{T}
use lib.Pow.{pow_pos}
use lib.Ieee.{Float, binary64, fits, round, sum, add, eq}
use lib.Ieee.Scale.{finite}
use Rattle.exact.specs.Doubles.{nought}
use Rattle.exact.specs.Value.{Units, sign_of, units_of, value_of}
use Rattle.exact.specs.Signed.{signed}
use Rattle.exact.proofs.Sum.{sum_like, sum-second, sum-none}
use Rattle.exact.proofs.Operation.{add_rounds}
use Rattle.exact.proofs.Compare.{none}
use Rattle.exact.proofs.Value.{own}
use Rattle.exact.proofs.Few.{Few, few-of, few-value, units-below, value-finite}
use Rattle.exact.proofs.Valued.{value-is}

record Kept (x : Float) (s : Bool) (n : ℕ) : Type 0 where
  sign : Bool
  value : Units x sign n
  same : signed sign n ≡ signed s n

module _ (t s : Bool) (n : ℕ) (w : Few n) (l : n < 2 ^ 2098) where
  -- the zero and n have one sign
  like : beq t s ≡ true → t ≡ s → Kept (sum binary64 t 0 s n (2 ^ 1074)) s n
  like e f =
      record {
        sign = t;
        value = subst (λ (z : Float). Units z t n) (sym (sum_like binary64 t s 0 n (2 ^ 1074) e ∙ ap (λ (z : ℕ). round binary64 t z (2 ^ 1074)) (zero-add n))) (few-value t n w l);
        same = ap (λ (z : Bool). signed z n) f;
      }

  -- they have two, and n is not 0
  unlike : beq t s ≡ false → 0 < n → Kept (sum binary64 t 0 s n (2 ^ 1074)) s n
  unlike e h =
      record {
        sign = s;
        value = subst (λ (z : Float). Units z s n) (sym (sum-second binary64 t s 0 n (2 ^ 1074) e h ∙ ap (λ (z : ℕ). round binary64 s z (2 ^ 1074)) (sub-zero n))) (few-value s n w l);
        same = refl;
      }

-- two zeros
none-units : (t s : Bool) → beq t s ≡ false → signed false 0 ≡ signed s 0 → Few 0 → Kept (sum binary64 t 0 s 0 (2 ^ 1074)) s 0
none-units t s e f w =
    record { sign = false; value = subst (λ (z : Float). Units z false 0) (sym (sum-none binary64 t s 0 0 (2 ^ 1074) e refl)) (few-value false 0 w (pow_pos 2098)); same = f }

plus-units : (t s : Bool) (n : ℕ) → Few n → n < 2 ^ 2098 → Kept (sum binary64 t 0 s n (2 ^ 1074)) s n
plus-units false false n w l = like false false n w l refl refl
plus-units true true n w l = like true true n w l refl refl
plus-units false true zero w l = none-units false true refl refl w
plus-units true false zero w l = none-units true false refl refl w
plus-units false true (suc n) w l = unlike false true (suc n) w l refl (zero-lt-suc n)
plus-units true false (suc n) w l = unlike true false (suc n) w l refl (zero-lt-suc n)

-- z plus x is finite, and x's value
pub record Unchanged (z x : Float) : Type 0 where
  pub is_finite : T (finite (add binary64 z x))
  pub value : value_of (add binary64 z x) ≡ value_of x

pub zero-plus : (z x : Float) → eq z nought ≡ true → T (fits binary64 x) → T (finite x) → Unchanged z x
zero-plus z x h f t =
    let s = sign_of x in
    let n = units_of x in
    let e = add_rounds binary64 z x (sign_of z) s 0 n (2 ^ 1074) (pow_pos 1074) (none z h) (own x f t) in
    let k = plus-units (sign_of z) s n (few-of x f t) (units-below x f t) in
    let v : Units (add binary64 z x) k.sign n = subst (λ (y : Float). Units y k.sign n) (sym e) k.value in
    record { is_finite = value-finite (add binary64 z x) k.sign n v; value = value-is (add binary64 z x) k.sign n v ∙ k.same }
