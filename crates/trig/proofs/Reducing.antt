-- The steps of the reduction, by the sizes of their operands in units of 2 ^ -1074: the remainder of TAU, which below TAU is the angle
-- itself, and one TAU off or on where the size is above PI. Each is exact: the remainder always is, and the difference is of two sizes of
-- which neither is more than twice the other. Assumes nothing.
use mathlib.Core.Path.{◌≡◌, refl, sym, ap, ◌∙◌}
use mathlib.Core.Bool.{Bool, true, false, not, cond}
use Prim.Native.Nat.{ℕ, ◌-◌, ◌*◌, ◌%◌, ◌^◌, ◌≤◌, ◌<◌}
use native.Mathlib.Nat.{le_trans, le_of_eq, le_of_lt, lt_of_le_of_lt, mul-le-mul_right, mod-eq_of_lt, sub-le}
use lib.Dec.{T, lit<}
use lib.Pow.{pow_pos}
use lib.Ieee.{Float, binary64, of_bits, rem, sub, add, neg, below, lt, fits, round}
use lib.Ieee.Fits.{rem-fits}
use lib.Ieee.Bits.{of_bits-fits}
use lib.Ieee.Scale.{finite}
use Rattle.exact.specs.Value.{Units, sign_of, units_of}
use Rattle.exact.proofs.Order.{ltb_yes, ltb_no}
use Rattle.exact.proofs.Value.{neg_value, own, unique}
use Rattle.exact.proofs.Sum.{sum-second}
use Rattle.exact.proofs.Operation.{add_rounds, sub-rounds}
use Rattle.exact.proofs.Few.{Few, few-of, few-sub, few-value, units-below}
use Rattle.exact.proofs.Compare.{lt-is, between, inside}
use Rattle.exact.proofs.Remainder.{rem-exact}
use Rattle.trig.specs.Reduce.{TAU, PI, wrapped, reduced}

-- ---- the two constants
pub tau_fits : T (fits binary64 TAU)
tau_fits = of_bits-fits binary64 _

pub tau_finite : T (finite TAU)
tau_finite = unfold of_bits in tt

pub tau_value : Units TAU false (units_of TAU)
unfolding of_bits
tau_value = own TAU tau_fits tau_finite

pi-fits : T (fits binary64 PI)
pi-fits = of_bits-fits binary64 _

pub pi-value : Units PI false (units_of PI)
unfolding of_bits
pi-value = own PI pi-fits tt

pub tau_some : 0 < units_of TAU
unfolding of_bits
tau_some = lit< tt

-- TAU is PI doubled
pub tau_doubles : units_of TAU ≡ units_of PI * 2
unfolding of_bits
tau_doubles = refl

-- ---- the remainder
pub rem_value : (x : Float) → T (fits binary64 x) → T (finite x) → Units (rem binary64 x TAU) (sign_of x) (units_of x % units_of TAU)
rem_value x f t = rem-exact x TAU f t tau_fits tau_finite tau_some

-- below TAU it is x
pub rem-own : (x : Float) → T (fits binary64 x) → T (finite x) → units_of x < units_of TAU → x ≡ rem binary64 x TAU
rem-own x f t h =
    unique x (rem binary64 x TAU) (sign_of x) (units_of x) (2 ^ 1074) (pow_pos 1074) f (rem-fits binary64 x TAU f) (own x f t)
    (rw (mod-eq_of_lt h) at (rem_value x f t))

-- and the reduction is the wrap alone
pub reduced-near : (x : Float) → T (fits binary64 x) → T (finite x) → units_of x < units_of TAU → reduced x ≡ wrapped x
unfolding reduced
reduced-near x f t h = ap wrapped (sym (rem-own x f t h))

-- the two tests of the code say that it is
pub reduced-tested : (x : Float) → T (fits binary64 x) → lt x TAU ≡ true → lt (neg TAU) x ≡ true → reduced x ≡ wrapped x
unfolding of_bits neg
reduced-tested x f p q =
    let t = between (neg TAU) x TAU tt tt q p in
    reduced-near x f t (inside x TAU (units_of TAU) f t tau_value p q)

-- ---- which way the wrap goes
module _ (r : Float) where
  pub goes-off : lt PI r ≡ true → wrapped r ≡ sub binary64 r TAU
  unfolding wrapped
  goes-off p = ap (λ (b : Bool). cond b (sub binary64 r TAU) (cond (lt r (neg PI)) (add binary64 r TAU) r)) p

  not-off : lt PI r ≡ false → wrapped r ≡ cond (lt r (neg PI)) (add binary64 r TAU) r
  unfolding wrapped
  not-off p = ap (λ (b : Bool). cond b (sub binary64 r TAU) (cond (lt r (neg PI)) (add binary64 r TAU) r)) p

  pub goes_on : lt PI r ≡ false → lt r (neg PI) ≡ true → wrapped r ≡ add binary64 r TAU
  goes_on p q = not-off p ∙ ap (λ (b : Bool). cond b (add binary64 r TAU) r) q

  pub stays : lt PI r ≡ false → lt r (neg PI) ≡ false → wrapped r ≡ r
  stays p q = not-off p ∙ ap (λ (b : Bool). cond b (add binary64 r TAU) r) q

-- its two tests, of r = ± n units
module _ (r : Float) (s : Bool) (n : ℕ) (v : Units r s n) where
  first-test : lt PI r ≡ below false (units_of PI) s n
  first-test = lt-is PI r false s (units_of PI) n (2 ^ 1074) (pow_pos 1074) pi-value v

  second-test : lt r (neg PI) ≡ below s n true (units_of PI)
  second-test = lt-is r (neg PI) s true n (units_of PI) (2 ^ 1074) (pow_pos 1074) v (neg_value PI false (units_of PI) (2 ^ 1074) pi-value)

-- ---- up to PI nothing changes
pub wrapped-near : (r : Float) (s : Bool) (n : ℕ) → Units r s n → n ≤ units_of PI → wrapped r ≡ r
wrapped-near r false n v h = stays r (first-test r false n v ∙ ltb_no (units_of PI) n h) (second-test r false n v)
wrapped-near r true n v h = stays r (first-test r true n v) (second-test r true n v ∙ ltb_no (units_of PI) n h)

-- ---- above PI what is missing to TAU is left, with the other sign
module _ (r : Float) (n : ℕ) (w : Few n) (h : units_of PI < n) (l : n < units_of TAU) where
  missing : (s : Bool) → Units (round binary64 s (units_of TAU - n) (2 ^ 1074)) s (units_of TAU - n)
  missing s =
      few-value s (units_of TAU - n)
      (few-sub n (units_of TAU) w (few-of TAU tau_fits tau_finite) (le_trans (le_of_eq tau_doubles) (mul-le-mul_right 2 (le_of_lt h))))
      (lt_of_le_of_lt (sub-le (units_of TAU) n) (units-below TAU tau_fits tau_finite))

  pub wrapped-far : (s : Bool) → Units r s n → Units (wrapped r) (not s) (units_of TAU - n)
  wrapped-far false v =
      rw (goes-off r (first-test r false n v ∙ ltb_yes (units_of PI) n h))
      (rw (sub-rounds binary64 r TAU false false n (units_of TAU) (2 ^ 1074) (pow_pos 1074) v tau_value)
      (rw (sum-second binary64 false true n (units_of TAU) (2 ^ 1074) refl l) (missing true)))
  wrapped-far true v =
      rw (goes_on r (first-test r true n v) (second-test r true n v ∙ ltb_yes (units_of PI) n h))
      (rw (add_rounds binary64 r TAU true false n (units_of TAU) (2 ^ 1074) (pow_pos 1074) v tau_value)
      (rw (sum-second binary64 true false n (units_of TAU) (2 ^ 1074) refl l) (missing false)))
