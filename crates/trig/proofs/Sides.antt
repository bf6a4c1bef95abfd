-- What the tests of `remainder` tell of x: whether it is finite, and its sign. Assumes nothing.
use mathlib.Core.Path.{◌≡◌, refl, sym, ◌∙◌}
use mathlib.Core.Bool.{Bool, true, false, false≢true, true≢false}
use mathlib.Core.Logic.{◌⊎◌, inl, inr}
use Prim.Native.Nat.{◌+◌, ◌%◌, ◌^◌, ◌≤◌, ◌<◌}
use native.Mathlib.Omega.{arith}
use borrow.Author.Tests.{ltb-true, ltb-false}
use lib.Dec.{T}
use lib.Pow.{pow_pos}
use lib.Ieee.{Float, nan, inf, fin, binary64, of_bits, rem, sub, add, neg, below, lt, fits}
use lib.Ieee.Fits.{rem-fits, neg-fits}
use lib.Ieee.Scale.{finite}
use Rattle.exact.specs.Doubles.{nought}
use Rattle.exact.specs.Value.{Units, sign_of, units_of}
use Rattle.exact.proofs.Value.{own, neg_value, units-are, unique}
use Rattle.exact.proofs.Compare.{lt-is}
use Rattle.trig.specs.Reduce.{TAU}
use Rattle.trig.proofs.Reducing.{rem_value, rem-own, tau_fits, tau_value, tau_some}
use Rattle.trig.proofs.Taking.{rest-units}

-- the infinity that the code compares with
abbrev top : Float
top = of_bits binary64 0x7FF0_0000_0000_0000

pub known : (x : Float) → lt x top ≡ true → lt (neg top) x ≡ true → T (finite x)
unfolding lt neg of_bits
known nan p q = absurd (false≢true p)
known (inf true) p q = absurd (false≢true q)
known (inf false) p q = absurd (false≢true p)
known (fin s m e) p q = tt

-- what is not finite has no remainder, and no difference from itself
pub unknown : (x : Float) → (lt x top ≡ false) ⊎ (lt (neg top) x ≡ false) → sub binary64 x x ≡ rem binary64 x TAU
unfolding lt neg of_bits sub add rem
unknown nan h = refl
unknown (inf true) h = refl
unknown (inf false) h = refl
unknown (fin s m e) (inl p) = absurd (true≢false p)
unknown (fin s m e) (inr q) = absurd (true≢false q)

nought-value : Units nought false 0
unfolding of_bits
nought-value = (refl, refl)

module _ (x : Float) (f : T (fits binary64 x)) (t : T (finite x)) where
  after-nought : lt nought x ≡ below false 0 (sign_of x) (units_of x)
  after-nought = lt-is nought x false (sign_of x) 0 (units_of x) (2 ^ 1074) (pow_pos 1074) nought-value (own x f t)

  before-nought : lt x nought ≡ below (sign_of x) (units_of x) false 0
  before-nought = lt-is x nought (sign_of x) false (units_of x) 0 (2 ^ 1074) (pow_pos 1074) (own x f t) nought-value

  pub positive : lt nought x ≡ true → Units x false (units_of x)
  positive e = by (sign_of x) refl (sym after-nought ∙ e)
    where
      by : (s : Bool) → sign_of x ≡ s → below false 0 s (units_of x) ≡ true → Units x false (units_of x)
      by false k h = rw k at (own x f t)
      by true k h = absurd (false≢true h)

  sign-less : lt x nought ≡ true → sign_of x ≡ true
  sign-less e = by (sign_of x) refl (sym before-nought ∙ e)
    where
      by : (s : Bool) → sign_of x ≡ s → below s (units_of x) false 0 ≡ true → sign_of x ≡ true
      by true k h = k
      by false k h = let less : units_of x < 0 = ltb-true (units_of x) 0 h in absurd (omega arith)

  pub negative : lt x nought ≡ true → Units (neg x) false (units_of (neg x))
  negative e =
      let v = neg_value x true (units_of x) (2 ^ 1074) (rw (sign-less e) at (own x f t)) in
      rw (units-are (neg x) false (units_of x) v) v

  -- the remainder of x by that of its opposite
  pub turned_round : (q : Float) → T (fits binary64 q) → lt x nought ≡ true → q ≡ rem binary64 (neg x) TAU → neg q ≡ rem binary64 x TAU
  turned_round q g e is =
      let v = neg_value x true (units_of x) (2 ^ 1074) (rw (sign-less e) at (own x f t)) in
      let n = units_of x % units_of TAU in
      let a : Units q false n = rw is (rest-units (neg x) TAU (units_of x) (units_of TAU) (neg-fits binary64 x f) tau_fits v tau_value tau_some) in
      let d : Units (rem binary64 x TAU) true n = rw (sign-less e) at (rem_value x f t) in
      unique (neg q) (rem binary64 x TAU) true n (2 ^ 1074) (pow_pos 1074) (neg-fits binary64 q g) (rem-fits binary64 x TAU f)
      (neg_value q false n (2 ^ 1074) a) d

  -- between the two x is a zero
  pub neither : lt nought x ≡ false → lt x nought ≡ false → x ≡ rem binary64 x TAU
  neither p q = rem-own x f t (by (sign_of x) (sym after-nought ∙ p) (sym before-nought ∙ q))
    where
      by : (s : Bool) → below false 0 s (units_of x) ≡ false → below s (units_of x) false 0 ≡ false → units_of x < units_of TAU
      by false h k = let none : units_of x ≤ 0 = ltb-false 0 (units_of x) h in omega (arith, tau_some)
      by true h k = let none : units_of x + 0 ≤ 0 = ltb-false 0 (units_of x + 0) k in omega (arith, tau_some)
