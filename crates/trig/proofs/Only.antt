-- A double that is x less a whole multiple of TAU exactly, less than PI in size and not zero, is the reduced angle: that one is x less a
-- multiple of TAU too, and at most PI in size, so the two are less than TAU apart, and a multiple of TAU apart. Assumes nothing.
use mathlib.Core.Path.{◌≡◌, sym, ap, ◌∙◌}
use mathlib.Core.Bool.{Bool, true, false, false≢true}
use Prim.Native.Nat.{ℕ, ◌+◌, ◌*◌, ◌%◌, ◌^◌, ◌≤◌, ◌<◌}
use native.Mathlib.Omega.{arith}
use borrow.Author.Tests.{not-true}
use lib.Arith.{digits_mod}
use lib.Dec.{T}
use lib.Pow.{pow_pos}
use lib.Ieee.{Float, binary64, of_bits, neg, ne, fits}
use lib.Ieee.Scale.{finite}
use Rattle.exact.specs.Doubles.{nought}
use Rattle.exact.specs.Value.{sign_of, units_of, value_of}
use Rattle.exact.specs.Signed.{Signed, Same, signed, times, plus_s}
use Rattle.exact.proofs.Value.{own, unique}
use Rattle.exact.proofs.Signed.{alike}
use Rattle.exact.proofs.Compare.{between, inside, some}
use Rattle.trig.specs.Reduce.{TAU, PI, reduced, Inside}
use Rattle.trig.proofs.Reducing.{pi-value, tau_doubles}
use Rattle.trig.proofs.Multiple.{reduces}

-- ---- in signed whole numbers: r and p, each x less a multiple of t, and less than t apart, are one
only : (t : ℕ) (x r p q k : Signed) → Same (plus_s r (times t q)) x → Same (plus_s p (times t k)) x → r.plus + p.less < t
    → p.plus + r.less < t → Same r p
only t x r p q k e g l m =
    sym (digits_mod (q.plus + k.less) l)
    ∙ ap (λ (n : ℕ). n % t) (sums q.plus q.less k.plus k.less e g)
    ∙ digits_mod (k.plus + q.less) m
  where
    sums : (a b c d : ℕ) → r.plus + t * a + x.less ≡ x.plus + (r.less + t * b)
        → p.plus + t * c + x.less ≡ x.plus + (p.less + t * d)
        → (a + d) * t + (r.plus + p.less) ≡ (c + b) * t + (p.plus + r.less)
    sums a b c d e g = omega arith

-- of sizes below h and up to h, where t is h doubled, they are
close : (s u : Bool) (a b h t : ℕ) → t ≡ h * 2 → a < h → b ≤ h
    → ((signed s a).plus + (signed u b).less < t) × ((signed u b).plus + (signed s a).less < t)
close true true a b h t e l m = (omega arith, omega arith)
close true false a b h t e l m = (omega arith, omega arith)
close false true a b h t e l m = (omega arith, omega arith)
close false false a b h t e l m = (omega arith, omega arith)

-- ---- what the tests of r say
module _ (r : Float) (f : T (fits binary64 r)) (i : Inside r) where
  pub inside-finite : T (finite r)
  unfolding of_bits neg
  inside-finite = between (neg PI) r PI tt tt i.above i.below

  pub inside-small : units_of r < units_of PI
  inside-small = inside r PI (units_of PI) f inside-finite pi-value i.below i.above

  inside-some : 0 < units_of r
  unfolding ne
  inside-some = some r f inside-finite (not-true _ i.some)

pub zero-outside : Inside nought → ⊥
unfolding ne of_bits
zero-outside i = false≢true i.some

-- ---- the law
pub settled : (x r : Float) (q : Signed) → T (fits binary64 x) → T (finite x) → T (fits binary64 r) → Inside r
    → Same (plus_s (value_of r) (times (units_of TAU) q)) (value_of x) → r ≡ reduced x
settled x r q f t g i e =
    let p = reduced x in
    let R = reduces x f t in
    let l = close (sign_of r) (sign_of p) (units_of r) (units_of p) (units_of PI) (units_of TAU) tau_doubles (inside-small r g i) R.small in
    let a = alike (sign_of r) (sign_of p) (units_of r) (units_of p) (inside-some r g i)
    (only (units_of TAU) (value_of x) (value_of r) (value_of p) q R.k e R.exact l.0 l.1) in
    unique r p (sign_of p) (units_of p) (2 ^ 1074) (pow_pos 1074) g R.fit (rw (a.0, a.1) at (own r g (inside-finite r g i)))
    (own p R.fit R.known)
