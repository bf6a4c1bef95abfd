-- Knuth's two-sum: six rounded sums and differences give the error of the first, whichever term is the larger. Where a is the larger one, x - a is exact, so that
-- the later steps are. Else the sum is exact, or x is no smaller than a: then x and -a are such a pair again, and what is left, v - b, is small beside b,
-- so that it is exact too. Assumes nothing.
use mathlib.Core.Path.{◌≡◌, subst}
use mathlib.Core.Logic.{inl, inr}
use Prim.Native.Nat.{ℕ, ◌+◌, ◌*◌, ◌^◌, ◌≤◌, ◌<◌}
use native.Mathlib.Nat.{le_of_lt}
use native.Mathlib.Omega.{arith}
use lib.Dec.{T}
use lib.Ieee.{Float, binary64, fits, add, sub}
use lib.Ieee.Fits.{add-fits, sub-fits}
use lib.Ieee.Scale.{finite}
use Rattle.exact.specs.Value.{value_of}
use Rattle.exact.specs.Signed.{Signed, Same, Apart, times, plus_s, less_s, dist, mag}
use Rattle.exact.specs.Rounds.{Rounds}
use Rattle.exact.proofs.Naturals.{below_or}
use Rattle.exact.proofs.Few.{Few}
use Rattle.exact.proofs.Sizes.{mag-over, mag-under, mag-le}
use Rattle.exact.proofs.Nearest.{few-none}
use Rattle.exact.proofs.Rounds.{Double, rounds-exact, rounds-to, rounds-double, rounds-error}
use Rattle.exact.proofs.Valued.{double-of, add-finite, sub-finite, add-value, sub-value}
use Rattle.roundoff.specs.Roundoff.{sum_off}
use Rattle.roundoff.proofs.Errors.{error-double, sterbenz, fast, no-smaller}

-- the same size, with the other sign
turned : (x y : Signed) → Double (less_s x y) → Double (less_s y x)
turned x y f = subst Few (by x.plus x.less y.plus y.less) f
  where
    by : (a b c d : ℕ) → dist (a + d) (b + c) ≡ dist (c + b) (d + a)
    by a b c d = omega arith

abbrev opposite : Signed → Signed
opposite x = record { plus = x.less; less = x.plus }

abbrev none : Signed
none = record { plus = 0; less = 0 }

-- v is x - a, x is a + b, each but for a part in 2 ^ 53: b and v are close
close : (a b x v : Signed) → mag a ≤ mag b → Apart (times (2 ^ 53) x) (times (2 ^ 53) (plus_s a b)) (mag (plus_s a b))
    → Apart (times (2 ^ 53) v) (times (2 ^ 53) (less_s x a)) (mag (less_s x a)) → mag (less_s b v) * 2 ≤ mag b
close a b x v l h k =
    let M : mag (plus_s a b) ≤ mag b * 2 = two a b (mag a) (mag b) (mag-over a) (mag-under a) (mag-over b) (mag-under b) l in
    let N : mag (less_s x a) ≤ mag b * 4 = four a b x (mag a) (mag b) (mag (plus_s a b)) (mag-over a) (mag-under a) (mag-over b) (mag-under b) l M h.over h.under in
    third (mag (less_s b v)) (mag b) (mag (plus_s a b)) (mag (less_s x a)) M N (mag-half b v (six a b x v (mag (plus_s a b)) (mag (less_s x a)) h k))
  where
    two : (a b : Signed) (m n : ℕ) → a.plus ≤ a.less + m → a.less ≤ a.plus + m → b.plus ≤ b.less + n → b.less ≤ b.plus + n → m ≤ n → mag (plus_s a b) ≤ n * 2
    two a b m n p q r s l = mag-le (plus_s a b) (n * 2) (omega arith) (omega arith)

    four : (a b x : Signed) (m n o : ℕ) → a.plus ≤ a.less + m → a.less ≤ a.plus + m → b.plus ≤ b.less + n → b.less ≤ b.plus + n → m ≤ n → o ≤ n * 2
        → 2 ^ 53 * x.plus + 2 ^ 53 * (a.less + b.less) ≤ 2 ^ 53 * (a.plus + b.plus) + 2 ^ 53 * x.less + o
        → 2 ^ 53 * (a.plus + b.plus) + 2 ^ 53 * x.less ≤ 2 ^ 53 * x.plus + 2 ^ 53 * (a.less + b.less) + o → mag (less_s x a) ≤ n * 4
    four a b x m n o p q r s l M h k = mag-le (less_s x a) (n * 4) (omega arith) (omega arith)

    six : (a b x v : Signed) (m n : ℕ) → Apart (times (2 ^ 53) x) (times (2 ^ 53) (plus_s a b)) m → Apart (times (2 ^ 53) v) (times (2 ^ 53) (less_s x a)) n
        → Apart (times (2 ^ 53) b) (times (2 ^ 53) v) (m + n)
    six a b x v m n h k = record { over = omega (arith, h.over, h.under, k.over, k.under); under = omega (arith, h.over, h.under, k.over, k.under) }

    mag-half : (b v : Signed) {e : ℕ} → Apart (times (2 ^ 53) b) (times (2 ^ 53) v) e → mag (less_s b v) * 2 ^ 53 ≤ e
    mag-half b v {e} h = by b.plus b.less v.plus v.less h.over h.under
      where
        by : (p q r s : ℕ) → 2 ^ 53 * p + 2 ^ 53 * s ≤ 2 ^ 53 * r + 2 ^ 53 * q + e → 2 ^ 53 * r + 2 ^ 53 * q ≤ 2 ^ 53 * p + 2 ^ 53 * s + e → dist (p + s) (q + r) * 2 ^ 53 ≤ e
        by p q r s h k = omega arith

    third : (d n o p : ℕ) → o ≤ n * 2 → p ≤ n * 4 → d * 2 ^ 53 ≤ o + p → d * 2 ≤ n
    third d n o p h k l = omega arith

-- ---- THE SIX STEPS, of numbers
pub record Steps (a b x v u w z t : Signed) : Type 0 where
  pub sum : Rounds (plus_s a b) x
  pub second : Rounds (less_s x a) v
  pub first : Rounds (less_s x v) u
  pub first_off : Rounds (less_s u a) w
  pub second-off : Rounds (less_s v b) z
  pub off : Rounds (plus_s w z) t

pub two-sum : (a b x v u w z t : Signed) → Double a → Double b → Steps a b x v u w z t → Same (less_s x t) (plus_s a b)
two-sum a b x v u w z t f g s = elim (below_or (mag a) (mag b)) [ inl l ↦ elim (no-smaller a b x f g (le_of_lt l) s.sum) [ inl e ↦ nothing e | inr m ↦ smaller l m ] | inr l ↦ larger l ]
  where
    -- x less the exact sum
    error : Double (less_s x (plus_s a b))
    error = error-double a b x f g s.sum

    larger : mag b ≤ mag a → Same (less_s x t) (plus_s a b)
    larger l =
        let vi : Same v (less_s x a) = rounds-exact (less_s x a) v s.second (fast a b x f g l s.sum) in
        let ui : Same u a = rounds-to (less_s x v) u a s.first (omega arith) f in
        let wi : Same w none = rounds-to (less_s u a) w none s.first_off (omega arith) few-none in
        let zi : Same z (less_s x (plus_s a b)) = rounds-to (less_s v b) z (less_s x (plus_s a b)) s.second-off (omega arith) error in
        let ti : Same t (less_s x (plus_s a b)) = rounds-to (plus_s w z) t (less_s x (plus_s a b)) s.off (omega arith) error in
        omega arith

    nothing : Double (plus_s a b) → Same (less_s x t) (plus_s a b)
    nothing e =
        let xi : Same x (plus_s a b) = rounds-exact (plus_s a b) x s.sum e in
        let vi : Same v b = rounds-to (less_s x a) v b s.second (omega arith) g in
        let ui : Same u a = rounds-to (less_s x v) u a s.first (omega arith) f in
        let wi : Same w none = rounds-to (less_s u a) w none s.first_off (omega arith) few-none in
        let zi : Same z none = rounds-to (less_s v b) z none s.second-off (omega arith) few-none in
        let ti : Same t none = rounds-to (plus_s w z) t none s.off (omega arith) few-none in
        omega arith

    smaller : mag a < mag b → mag a ≤ mag x → Same (less_s x t) (plus_s a b)
    smaller l m =
        let y = rounds-double (plus_s a b) x s.sum in
        let n = opposite-double f in
        let ui : Same u (less_s x v) = rounds-exact (less_s x v) u s.first (turned v x (fast x (opposite a) v y n (size m) s.second)) in
        let wi : Same w (less_s (less_s x a) v) = rounds-to (less_s u a) w (less_s (less_s x a) v) s.first_off (omega arith) (turned v (less_s x a) (error-double x (opposite a) v y n s.second)) in
        let zi : Same z (less_s v b) =
        rounds-exact (less_s v b) z s.second-off
        (turned b v (sterbenz b v g (rounds-double (less_s x a) v s.second) (close a b x v (le_of_lt l) (rounds-error (plus_s a b) x s.sum) (rounds-error (less_s x a) v s.second)))) in
        let ti : Same t (less_s x (plus_s a b)) = rounds-to (plus_s w z) t (less_s x (plus_s a b)) s.off (omega arith) error in
        omega arith
      where
        flip : (p q : ℕ) → dist p q ≡ dist q p
        flip p q = omega arith

        opposite-double : Double a → Double (opposite a)
        opposite-double f = subst Few (flip a.plus a.less) f

        size : mag a ≤ mag x → mag (opposite a) ≤ mag x
        size h = subst (λ (k : ℕ). k ≤ mag x) (flip a.plus a.less) h

-- ---- TWO-SUM, of doubles: where the last result is finite, the sum less it is a + b
pub two-sum-exact : (a b : Float) → T (fits binary64 a) → T (fits binary64 b) → T (finite (sum_off a b)) → Same (less_s (value_of (add binary64 a b)) (value_of (sum_off a b))) (plus_s (value_of a) (value_of b))
two-sum-exact a b f g t =
    let s = add binary64 a b in
    let v = sub binary64 s a in
    let u = sub binary64 s v in
    let w = sub binary64 u a in
    let z = sub binary64 v b in
    let sf = add-fits binary64 a b in
    let vf = sub-fits binary64 s a in
    let uf = sub-fits binary64 s v in
    let wf = sub-fits binary64 u a in
    let zf = sub-fits binary64 v b in
    let wz = add-finite binary64 w z t in
    let ua = sub-finite binary64 u a wz.0 in
    let vb = sub-finite binary64 v b wz.1 in
    let sv = sub-finite binary64 s v ua.0 in
    two-sum (value_of a) (value_of b) (value_of s) (value_of v) (value_of u) (value_of w) (value_of z) (value_of (add binary64 w z))
    (double-of a f ua.1) (double-of b g vb.1)
    record {
      sum = add-value a b f g sv.0;
      second = sub-value s a sf f sv.1;
      first = sub-value s v sf vf ua.0;
      first_off = sub-value u a uf f wz.0;
      second-off = sub-value v b vf g wz.1;
      off = add-value w z wf zf t;
    }
