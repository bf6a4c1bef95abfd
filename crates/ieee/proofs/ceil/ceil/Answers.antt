-- `ieee::ceil::ceil` meets its contract: x is what its bits stand for, and those are no fraction's from the exponent's field 1075 on. Assumes nothing.
use Rattle.std.proofs.Common.{◌≡◌, ℕ, suc, ◌+◌, ◌-◌, ◌*◌, ◌/◌, ◌%◌, ◌^◌, ◌<◌, ◌≤◌, Bool, true, false, cond, T, eqb, leb, sym, refl, ap, ◌∙◌, subst, inl, inr, true≢false, mul_assoc, eq-or-lt_of_le, arith, pow_pos, pow-add}
use native.Mathlib.Nat.{mul-mod_left}
use lib.Ieee.{Float, nan, inf, fin, is_nan, binary64, of_fields, of_bits, to_bits}
use lib.Ieee.Bits.{of_bits-to_bits, of_bits-fits}
use Rattle.ieee.specs.Ceiling.{ceiling}
use Rattle.ieee.proofs.Bits.{bits_are, value-normal, field}
use Rattle.ieee.proofs.Ceiling.{whole-fixed}
use Rattle.ieee.proofs.ceil.ceil.Goals as goal

-- ---- from 2 ^ 52 on, an infinity included
special : (s c : Bool) → ceiling (cond c (inf s) nan) ≡ cond c (inf s) nan
unfolding ceiling
special s true = refl
special s false = refl

top-fields : (s : Bool) (t : ℕ) → of_fields binary64 s 2047 t ≡ cond (eqb t 0) (inf s) nan
unfolding of_fields
top-fields s t = refl

field-le : (b : ℕ) → b % 2 ^ 63 / 2 ^ 52 ≤ 2047
field-le b = omega arith

is-suc : (f : ℕ) → 1075 ≤ f → f ≡ suc (f - 1)
is-suc f h = omega arith

normal : (f : ℕ) → f < 2047 → f - 1 < 2046
normal f h = omega arith

rest : (f : ℕ) → 1075 ≤ f → f - 1 ≡ f - 1075 + 1074
rest f h = omega arith

no_fraction : (m f : ℕ) → 1075 ≤ f → m * 2 ^ (f - 1) % 2 ^ 1074 ≡ 0
no_fraction m f h =
    ap (λ (z : ℕ). z % 2 ^ 1074) (ap (λ (n : ℕ). m * 2 ^ n) (rest f h) ∙ ap (λ (z : ℕ). m * z) (pow-add 2 (f - 1075) 1074) ∙ sym (mul_assoc m (2 ^ (f - 1075)) (2 ^ 1074)))
    ∙ mul-mod_left (m * 2 ^ (f - 1075)) (2 ^ 1074)

large : (b : ℕ) → 1075 ≤ b % 2 ^ 63 / 2 ^ 52 → ceiling (of_bits binary64 b) ≡ of_bits binary64 b
large b h =
    let s = leb (2 ^ 63) b in
    let f = b % 2 ^ 63 / 2 ^ 52 in
    let t = b % 2 ^ 52 in
    elim (eq-or-lt_of_le (field-le b)) [
      | inl e ↦ subst (λ (y : Float). ceiling y ≡ y) (sym (bits_are b 2047 t e refl ∙ top-fields s t)) (special s (eqb t 0))
      | inr l ↦
          whole-fixed (of_bits binary64 b) s ((2 ^ 52 + t) * 2 ^ (f - 1)) (2 ^ 1074) (pow_pos 1074) (of_bits-fits binary64 b) (value-normal b (f - 1) t (is-suc f h) refl (normal f l)) (no_fraction (2 ^ 52 + t) f h)
    ]

-- a NaN
of_nan : (x : Float) → is_nan x ≡ true → x ≡ ceiling x
unfolding is_nan ceiling
of_nan nan h = refl
of_nan (inf s) h = refl
of_nan (fin s m e) h = absurd (true≢false (sym h))

pub returns-then-is_nan : goal.returns-then-is_nan
returns-then-is_nan c = of_nan c.args.x (sym c.is_nan.ensures.value ∙ c.if-is_nan.true)

pub returns-then-field-ge1075 : goal.returns-then-field-ge1075
returns-then-field-ge1075 c =
    let b = to_bits binary64 c.args.x in
    sym (subst (λ (y : Float). ceiling y ≡ y) (of_bits-to_bits binary64 c.args.x (subst T (sym c.well_formed.0.1) tt)) (large b (subst (λ (n : ℕ). 1075 ≤ n) (field b) c.if-field-ge1075.true)))

pub returns-then-field-lt1023 : goal.returns-then-field-lt1023
returns-then-field-lt1023 c = c.below_one.ensures ∙ ap ceiling (of_bits-to_bits binary64 c.args.x (subst T (sym c.well_formed.0.1) tt))

pub returns-else-field-lt1023 : goal.returns-else-field-lt1023
returns-else-field-lt1023 c = c.from_one.ensures ∙ ap ceiling (of_bits-to_bits binary64 c.args.x (subst T (sym c.well_formed.0.1) tt))
