-- The remainder by subtractions that are all exact: that by d is that by 2 d, less one d where it is no less. Assumes nothing.
use mathlib.Core.Path.{◌≡◌, refl, sym, ap, ◌∙◌}
use mathlib.Core.Bool.{true, false}
use mathlib.Core.Logic.{◌⊎◌, inl, inr}
use Prim.Native.Nat.{ℕ, suc, ◌+◌, ◌-◌, ◌*◌, ◌/◌, ◌%◌, ◌^◌, ◌≤◌, ◌<◌}
use native.Mathlib.Nat.{mod-eq_of_lt, mod-eq-sub-mod, mod-lt, mod-add-div, add-mul-mod_self_left, eq-or-lt_of_le}
use native.Mathlib.Omega.{arith}
use borrow.Author.Tests.{ltb-true, ltb-false}
use lib.Dec.{T, lit<}
use lib.Pow.{pow_pos}
use Rattle.std.proofs.Common.{pow-suc}
use lib.Ieee.{Float, binary64, rem, add, sub, lt, fits}
use lib.Ieee.Fits.{rem-fits, add-fits, sub-fits}
use Rattle.exact.specs.Value.{Units, units_of}
use lib.Ieee.{of_bits}
use lib.Ieee.Bits.{of_bits-fits}
use Rattle.exact.proofs.Value.{own, sign-is, units-are, unique}
use Rattle.exact.proofs.Sum.{sum_like, sum_first, sum-none}
use Rattle.exact.proofs.Operation.{add_rounds, sub-rounds}
use Rattle.exact.proofs.Few.{Few, few-of, few-sub, few-value, value-finite, units-below}
use Rattle.exact.proofs.Compare.{lt-is}
use Rattle.exact.proofs.Remainder.{rem-exact}

module _ (r d : Float) (n m : ℕ) (f : T (fits binary64 r)) (g : T (fits binary64 d)) (v : Units r false n) (w : Units d false m) (some : 0 < m) where
  few-n : Few n
  few-n = rw (units-are r false n v) at (few-of r f (value-finite r false n v))

  few-m : Few m
  few-m = rw (units-are d false m w) at (few-of d g (value-finite d false m w))

  pub n-below : n < 2 ^ 2098
  n-below = rw (units-are r false n v) at (units-below r f (value-finite r false n v))

  pub rest-units : Units (rem binary64 r d) false (n % m)
  rest-units =
      let h : 0 < units_of d = rw (units-are d false m w) some in
      rw (units-are r false n v, units-are d false m w, sign-is r false n v) at (rem-exact r d f (value-finite r false n v) g (value-finite d false m w) h)

  less : lt r d ≡ true → n < m
  less e = ltb-true n m (sym (lt-is r d false false n m (2 ^ 1074) (pow_pos 1074) v w) ∙ e)

  pub no_less : lt r d ≡ false → m ≤ n
  no_less e = ltb-false n m (sym (lt-is r d false false n m (2 ^ 1074) (pow_pos 1074) v w) ∙ e)

  -- below d it is r
  pub rest-own : lt r d ≡ true → r ≡ rem binary64 r d
  rest-own e =
      unique r (rem binary64 r d) false n (2 ^ 1074) (pow_pos 1074) f (rem-fits binary64 r d f) v
      (rw (mod-eq_of_lt (less e)) at rest-units)

  -- one d off is exact below 2 d
  off-units : m ≤ n → n < m + m → Units (sub binary64 r d) false (n - m)
  off-units h k = by (eq-or-lt_of_le h)
    where
      by : (m ≡ n) ⊎ (m < n) → Units (sub binary64 r d) false (n - m)
      by (inl e) =
          let z : n - m ≡ 0 = omega arith in
          rw (sub-rounds binary64 r d false false n m (2 ^ 1074) (pow_pos 1074) v w, sum-none binary64 false true n m (2 ^ 1074) refl (sym e), z)
          (few-value false 0 (record { digits = 0; shift = 0; few = lit< tt; is = refl }) (lit< tt))
      by (inr l) =
          rw (sub-rounds binary64 r d false false n m (2 ^ 1074) (pow_pos 1074) v w, sum_first binary64 false true n m (2 ^ 1074) refl l)
          (few-value false (n - m) (few-sub m n few-m few-n (omega arith)) (omega (arith, n-below)))

  pub rest-off : m ≤ n → n < m + m → sub binary64 r d ≡ rem binary64 r d
  rest-off h k =
      let e : n % m ≡ n - m = mod-eq-sub-mod h ∙ mod-eq_of_lt (omega arith) in
      unique (sub binary64 r d) (rem binary64 r d) false (n - m) (2 ^ 1074) (pow_pos 1074) (sub-fits binary64 r d) (rem-fits binary64 r d f) (off-units h k)
      (rw e at rest-units)

-- d + d, where that is a double
pub twice-units : (d : Float) (m : ℕ) → T (fits binary64 d) → Units d false m → m < 2 ^ 2097 → Units (add binary64 d d) false (m + m)
twice-units d m g w h =
    let few = rw (units-are d false m w) at (few-of d g (value-finite d false m w)) in
    rw (add_rounds binary64 d d false false m m (2 ^ 1074) (pow_pos 1074) w w, sum_like binary64 false false m m (2 ^ 1074) refl)
    (few-value false (m + m) (twice few) (omega arith))
  where
    twice : Few m → Few (m + m)
    twice k = record { digits = k.digits; shift = suc k.shift; few = k.few; is = rw (k.is, pow-suc) (omega arith) }

-- 2^1023, half of what no double reaches
abbrev half : Float
half = of_bits binary64 0x7FE0_0000_0000_0000

half-value : Units half false (2 ^ 2097)
unfolding of_bits
half-value = own half (of_bits-fits binary64 0x7FE0_0000_0000_0000) tt

pub under_half : (d : Float) (m : ℕ) → Units d false m → lt d half ≡ true → m < 2 ^ 2097
under_half d m w e = ltb-true m (2 ^ 2097) (sym (lt-is d half false false m (2 ^ 2097) (2 ^ 1074) (pow_pos 1074) w half-value) ∙ e)

pub over_half : (d : Float) (m : ℕ) → Units d false m → lt d half ≡ false → 2 ^ 2097 ≤ m
over_half d m w e = ltb-false m (2 ^ 2097) (sym (lt-is d half false false m (2 ^ 2097) (2 ^ 1074) (pow_pos 1074) w half-value) ∙ e)

mod-twice : (n m : ℕ) → n % (m + m) % m ≡ n % m
mod-twice n m =
    let q = n / (m + m) in
    let e : n % (m + m) + m * (q + q) ≡ n = omega (arith, mod-add-div n (m + m)) in
    sym (add-mul-mod_self_left (n % (m + m)) m (q + q)) ∙ ap (λ (z : ℕ). z % m) e

-- what is left of r after whole multiples of 2 d
pub rest-twice : (r d q : Float) (n m : ℕ) → T (fits binary64 r) → T (fits binary64 d) → Units r false n → Units d false m → 0 < m → m < 2 ^ 2097
    → q ≡ rem binary64 r (add binary64 d d) → Units q false (n % (m + m))
rest-twice r d q n m f g v w some h e =
    rw e (rest-units r (add binary64 d d) n (m + m) f (add-fits binary64 d d) v (twice-units d m g w h) (omega arith))

-- and then of d
module _ (r d q : Float) (n m : ℕ) (f : T (fits binary64 r)) (g : T (fits binary64 d)) (k : T (fits binary64 q)) (v : Units r false n) (w : Units d false m) (some : 0 < m)
    (u : Units q false (n % (m + m))) where
  same_rest : rem binary64 q d ≡ rem binary64 r d
  same_rest =
      unique (rem binary64 q d) (rem binary64 r d) false (n % m) (2 ^ 1074) (pow_pos 1074) (rem-fits binary64 q d k) (rem-fits binary64 r d f)
      (rw (mod-twice n m) at (rest-units q d (n % (m + m)) m k g u w some)) (rest-units r d n m f g v w some)

  pub step-own : lt q d ≡ true → q ≡ rem binary64 r d
  step-own e = rest-own q d (n % (m + m)) m k g u w some e ∙ same_rest

  pub step-off : lt q d ≡ false → sub binary64 q d ≡ rem binary64 r d
  step-off e =
      let two : 0 < m + m = omega arith in
      rest-off q d (n % (m + m)) m k g u w some (no_less q d (n % (m + m)) m k g u w some e) (mod-lt n two) ∙ same_rest
