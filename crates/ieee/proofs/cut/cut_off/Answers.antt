-- `ieee::cut::cut_off` meets its contract, by cases on x: the two comparisons say of its whole part w what `index_of` tests. Assumes nothing.
use Rattle.std.proofs.Common.{◌≡◌, ℕ, ◌+◌, ◌-◌, ◌*◌, ◌/◌, ◌^◌, ◌<◌, ◌≤◌, min, true, false, T, ltb, ℤ, pos, sym, refl, ap, ◌∙◌, subst, true≢false, div-lt_iff_lt-mul, add_comm, mul-pos, one-mul, le-div_iff_mul-le, mul-one, arith, pow_pos, ltb-false, ltb-true}
use native.Mathlib.Nat.{div-eq_of_lt}
use lib.Ieee.{is_nan, Float, nan, inf, fin, up, down, lt, neg, of_bits, to_unsigned}
use lib.Ieee.Fits.{down_pos}
use Rattle.ieee.specs.declared.cut.Cut.TheVariants.{Index, Below, Above, NotANumber}
use Rattle.ieee.specs.Cut.{index_of, cut_of}
use Rattle.ieee.proofs.Cutting.{index-within, index-above, index_below}
use Rattle.ieee.proofs.cut.cut_off.Goals as goal

abbrev minus_one : Float
minus_one = fin true 1 (pos 0)

abbrev end : Float
end = fin false 1 (pos 64)

module _ (m : ℕ) (e : ℤ) where
  -- the whole part, from each comparison
  below_one : ltb (m * up e * 1) (1 * down e) ≡ true → m * up e / down e ≡ 0
  below_one h = div-eq_of_lt (subst (λ (z : ℕ). z < down e) (mul-one (m * up e)) (subst (λ (z : ℕ). m * up e * 1 < z) (one-mul (down e)) (ltb-true (m * up e * 1) (1 * down e) h)))

  from_one : ltb (m * up e * 1) (1 * down e) ≡ false → 1 ≤ m * up e / down e
  from_one h = (le-div_iff_mul-le (down_pos e)).1 (subst (λ (z : ℕ). 1 * down e ≤ z) (mul-one (m * up e)) (ltb-false (m * up e * 1) (1 * down e) h))

  below_end : ltb (m * up e * 1) (2 ^ 64 * down e) ≡ true → m * up e / down e < 2 ^ 64
  below_end h = (div-lt_iff_lt-mul (down_pos e)).1 (subst (λ (z : ℕ). z < 2 ^ 64 * down e) (mul-one (m * up e)) (ltb-true (m * up e * 1) (2 ^ 64 * down e) h))

  from_end : ltb (m * up e * 1) (2 ^ 64 * down e) ≡ false → 2 ^ 64 ≤ m * up e / down e
  from_end h = (le-div_iff_mul-le (down_pos e)).1 (subst (λ (z : ℕ). 2 ^ 64 * down e ≤ z) (mul-one (m * up e)) (ltb-false (m * up e * 1) (2 ^ 64 * down e) h))

none : (w : ℕ) → 1 ≤ w → w ≡ 0 → ⊥
none w h e = omega arith

-- a number with a minus is below one with a plus
positive : (a b : ℕ) → 0 < b → ltb 0 (a + b) ≡ false → ⊥
positive a b B h = omega (arith, ltb-false 0 (a + b) h)

uncapped : (w : ℕ) → w < 2 ^ 64 → min w (2 ^ 64 - 1) ≡ w
uncapped w h = omega arith

within : (x : Float) → lt minus_one x ≡ true → lt x end ≡ true → Index (to_unsigned 64 x) ≡ cut_of x
unfolding lt to_unsigned cut_of
within nan h k = absurd (true≢false (sym h))
within (inf true) h k = absurd (true≢false (sym h))
within (inf false) h k = absurd (true≢false (sym k))
within (fin true m e) h k = ap (index_of true) (sym (below_one m e h))
within (fin false m e) h k = ap Index (uncapped (m * up e / down e) (below_end m e k)) ∙ sym (index-within (m * up e / down e) (below_end m e k))

over : (x : Float) → lt minus_one x ≡ true → lt x end ≡ false → Above ≡ cut_of x
unfolding lt cut_of
over nan h k = absurd (true≢false (sym h))
over (inf true) h k = absurd (true≢false (sym h))
over (inf false) h k = refl
over (fin true m e) h k = absurd (positive (m * up e * 1) (2 ^ 64 * down e) (mul-pos (pow_pos 64) (down_pos e)) k)
over (fin false m e) h k = sym (index-above (m * up e / down e) (from_end m e k))

under : (x : Float) → is_nan x ≡ false → lt minus_one x ≡ false → Below ≡ cut_of x
unfolding lt is_nan cut_of
under nan n h = absurd (true≢false n)
under (inf true) n h = refl
under (inf false) n h = absurd (true≢false h)
under (fin true m e) n h = sym (index_below (m * up e / down e) (λ z. none (m * up e / down e) (from_one m e h) z))
under (fin false m e) n h = absurd (positive (m * up e * 1) (1 * down e) (mul-pos (pow_pos 0) (down_pos e)) (ap (ltb 0) (add_comm (m * up e * 1) (1 * down e)) ∙ h))

of_nan : (x : Float) → is_nan x ≡ true → NotANumber ≡ cut_of x
unfolding is_nan cut_of
of_nan nan h = refl
of_nan (inf s) h = absurd (true≢false (sym h))
of_nan (fin s m e) h = absurd (true≢false (sym h))

pub truncating_f64_to_u64-requires-clause-lower_bound : goal.truncating_f64_to_u64-requires-clause-lower_bound
unfolding of_bits neg
truncating_f64_to_u64-requires-clause-lower_bound c = subst T (sym c.if-x.true) tt

pub truncating_f64_to_u64-requires-clause-upper_bound : goal.truncating_f64_to_u64-requires-clause-upper_bound
unfolding of_bits neg
truncating_f64_to_u64-requires-clause-upper_bound c = subst T (sym c.if-x-2.true) tt

pub returns-then-is_nan : goal.returns-then-is_nan
returns-then-is_nan c = of_nan c.args.x (sym c.is_nan.ensures.value ∙ c.if-is_nan.true)

pub returns-then-x-2 : goal.returns-then-x-2
unfolding of_bits neg
returns-then-x-2 c = ap Index c.truncating_f64_to_u64.ensures ∙ within c.args.x c.if-x.true c.if-x-2.true

pub returns-else-x-2 : goal.returns-else-x-2
unfolding of_bits neg
returns-else-x-2 c = over c.args.x c.if-x.true c.if-x-2.false

pub returns-else-x : goal.returns-else-x
unfolding of_bits neg
returns-else-x c = under c.args.x (sym c.is_nan.ensures.value ∙ c.if-is_nan.false) c.if-x.false
