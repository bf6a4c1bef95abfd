-- THE BOUND: cosine and sine of every finite double lie within 2 ^ -48 of every partial sum of 21 terms or more of their power series
-- at the reduced angle. The two lists of coefficients meet the chain's test, and what is lost in all, as antt computes it, is 0.927 and
-- 0.814 of 2 ^ -48. Assumes nothing.
-- A law on the sum of the two squares would start here: of the answers it needs only these two laws, at one n; the rest is about the two
-- partial sums.
use mathlib.Core.Path.{◌≡◌, refl, ap, ◌∙◌, subst}
use mathlib.Core.List.{List, [], ◌∷◌}
use mathlib.Core.Bool.{Bool, true, false, ◌&&◌}
use Prim.Native.Nat.{ℕ, suc, ◌+◌, ◌-◌, ◌*◌, ◌^◌, ◌≤◌}
use native.Mathlib.Nat.{one-mul, pow-zero, pow-suc}
use native.Mathlib.Omega.{arith}
use lib.Dec.{T, lit≤}
use lib.Pow.{pow_pos}
use lib.Ieee.{Float, nan, binary64, of_bits, fits, size, mul}
use lib.Ieee.Scale.{finite}
use Rattle.exact.specs.Doubles.{one}
use Rattle.exact.specs.Value.{Units, sign_of, units_of}
use Rattle.exact.specs.Signed.{Signed, Same, Apart, signed, times}
use Rattle.exact.proofs.Value.{own, units-are, sign-is}
use Rattle.exact.proofs.Few.{value-finite}
use Rattle.trig.specs.Reduce.{PI, reduced}
use Rattle.trig.specs.Trig.{horner, evens, odds, cosine_at, sine_at, cosine_of, sine_of}
use Rattle.trig.specs.Series.{factorial, odd, Fraction, partial, cosine_sum, sine_sum, within}
use Rattle.trig.proofs.Multiple.{reduces}
use Rattle.trig.proofs.Series.{ratios, ratios_some, folded}
use Rattle.trig.proofs.Partial.{facing, partial-is}
use Rattle.trig.proofs.Chain.{Q, most, half_times, fine, count}
use Rattle.trig.proofs.Answer.{squared, Inner, loss, inner, from_v, Outer, outer, settles}

-- ---- the two lists: the coefficient of term 1, and the others
abbrev first_of : List Float → Float
first_of [] = nan
first_of (c ∷ cs) = c

abbrev others_of : List Float → List Float
others_of [] = []
others_of (c ∷ cs) = cs

-- they stand for 14 terms, the one of 1 counted
evens-count : (n : ℕ) → 21 ≤ n → suc (count (others_of evens) (n - 14)) ≡ n
unfolding count
evens-count n h = omega arith

odds-count : (n : ℕ) → 21 ≤ n → suc (count (others_of odds) (n - 14)) ≡ n
unfolding count
odds-count n h = omega arith

-- what antt computes of them: they meet the test; the last product is at most 1 + 4, and 1 + 1; what is lost in all is at most 2 ^ -48
cosine_loss : ℕ
unfolding loss
cosine_loss = 2 ^ 1022 + loss 0 (first_of evens) (others_of evens)

sine_loss : ℕ
unfolding loss from_v
sine_loss = 2 ^ 1022 + from_v (2 ^ 1020 + loss 1 (first_of odds) (others_of odds))

evens-fine : T (fine (first_of evens) (others_of evens))
unfolding of_bits fine fits size
evens-fine = tt

evens-last : 987 * most (first_of evens) + 100 * 2 ^ half_times (first_of evens) ≤ 100 * (Q + 2 ^ (54 + 1022))
unfolding of_bits most half_times
evens-last = lit≤ tt

evens_loss : 2 ^ 48 * cosine_loss ≤ Q
unfolding of_bits cosine_loss
evens_loss = lit≤ tt

odds-fine : T (fine (first_of odds) (others_of odds))
unfolding of_bits fine fits size
odds-fine = tt

odds-last : 987 * most (first_of odds) + 100 * 2 ^ half_times (first_of odds) ≤ 100 * (Q + 2 ^ (54 + 1020))
unfolding of_bits most half_times
odds-last = lit≤ tt

odds_loss : 2 ^ 48 * sine_loss ≤ Q
unfolding of_bits sine_loss
odds_loss = lit≤ tt

-- ---- the partial sums in Horner's form
even_sum : (s : Bool) (q w b y : ℕ) (t n : Signed) → y ≡ 1 → Same (times (1 * w) t) (times b (facing (s && false) (times y n)))
    → Same (times (q * w) t) (times b (times q n))
even_sum s q w b y t n e h = by s (subst (λ (z : ℕ). Same (times (1 * w) t) (times b (facing (s && false) (times z n)))) e h)
  where
    scaled : Same (times (1 * w) t) (times b (times 1 n)) → Same (times (q * w) t) (times b (times q n))
    scaled g =
        let k : q * (1 * w * t.plus + b * (1 * n.less)) ≡ q * (b * (1 * n.plus) + 1 * w * t.less) = ap (λ (z : ℕ). q * z) g in
        omega arith

    by : (s : Bool) → Same (times (1 * w) t) (times b (facing (s && false) (times 1 n))) → Same (times (q * w) t) (times b (times q n))
    by true g = scaled g
    by false g = scaled g

odd-sum : (s : Bool) (w b x y : ℕ) (t n : Signed) → y ≡ x → Same (times w t) (times b (facing (s && true) (times y n)))
    → Same (times w t) (times b (facing s (times x n)))
odd-sum s w b x y t n e h = by s (subst (λ (z : ℕ). Same (times w t) (times b (facing (s && true) (times z n)))) e h)
  where
    by : (s : Bool) → Same (times w t) (times b (facing (s && true) (times x n))) → Same (times w t) (times b (facing s (times x n)))
    by true g = g
    by false g = g

module _ (s : Bool) (x n : ℕ) where
  cosine-sum : Same (times (Q * ratios Q 0 n 0) (partial s x Q 0 n).top) (times (partial s x Q 0 n).bottom (times Q (folded Q 0 x n 0)))
  unfolding factorial odd
  cosine-sum =
      let f = partial s x Q 0 n in
      even_sum s Q (ratios Q 0 n 0) f.bottom (x ^ 0) f.top (folded Q 0 x n 0) (pow-zero x) (partial-is s Q 0 x n)

  sine-sum : Same (times (Q * ratios Q 1 n 0) (partial s x Q 1 n).top)
      (times (partial s x Q 1 n).bottom (facing s (times x (folded Q 1 x n 0))))
  unfolding factorial odd
  sine-sum =
      let f = partial s x Q 1 n in
      odd-sum s (Q * ratios Q 1 n 0) f.bottom x (x ^ 1) f.top (folded Q 1 x n 0)
      (pow-suc x 0 ∙ ap (λ (y : ℕ). y * x) (pow-zero x) ∙ one-mul x)
      (partial-is s Q 1 x n)

-- ---- at a reduced angle r of ± x units
lies : (v : Float) (z : Bool) (m : ℕ) (f : Fraction) → Units v z m
    → Apart (times (2 ^ 48 * f.bottom) (signed z m)) (times (2 ^ 48 * Q) f.top) (Q * f.bottom) → within v f
lies v z m f u a = record { known = value-finite v z m u; near = rw (sign-is v z m u, units-are v z m u) a }

module _ (r : Float) (s : Bool) (x : ℕ) (v : Units r s x) (h : x ≤ units_of PI) (n : ℕ) (k : 21 ≤ n) where
  cosine-form : Inner 0 x n cosine_loss (2 ^ (54 + 1022) + 2 ^ 1022) (cosine_at r)
  unfolding cosine_at factorial cosine_loss
  cosine-form =
      subst (λ (d : ℕ). Inner 0 x d cosine_loss (2 ^ (54 + 1022) + 2 ^ 1022) (cosine_at r)) (evens-count n k)
      (inner 0 x (mul binary64 r r) (squared r s x v h) (first_of evens) (others_of evens) 1022 refl evens-fine (lit≤ tt) evens-last (lit≤ tt)
      (n - 14))

  cosine-lies : within (cosine_at r) (partial s x Q 0 n)
  cosine-lies =
      let f = partial s x Q 0 n in
      let I = cosine-form in
      lies (cosine_at r) I.sign I.size f I.value
      (settles (2 ^ 48) Q (ratios Q 0 n 0) f.bottom cosine_loss (signed I.sign I.size) (times Q (folded Q 0 x n 0)) f.top
      (ratios_some Q 0 n 0 (pow_pos 1074)) evens_loss I.near (cosine-sum s x n))

  sine-form : Outer s x n sine_loss (sine_at r)
  unfolding sine_at factorial sine_loss
  sine-form =
      let v' = horner (mul binary64 r r) one odds in
      let e = 2 ^ 1020 + loss 1 (first_of odds) (others_of odds) in
      outer r v' s x n e (2 ^ (54 + 1020) + 2 ^ 1020) v h
      (subst (λ (d : ℕ). Inner 1 x d e (2 ^ (54 + 1020) + 2 ^ 1020) v') (odds-count n k)
      (inner 1 x (mul binary64 r r) (squared r s x v h) (first_of odds) (others_of odds) 1020 refl odds-fine (lit≤ tt) odds-last (lit≤ tt)
      (n - 14))) (lit≤ tt)

  sine-lies : within (sine_at r) (partial s x Q 1 n)
  sine-lies =
      let f = partial s x Q 1 n in
      let O = sine-form in
      lies (sine_at r) O.sign O.size f O.value
      (settles (2 ^ 48) Q (ratios Q 1 n 0) f.bottom sine_loss (signed O.sign O.size) (facing s (times x (folded Q 1 x n 0))) f.top
      (ratios_some Q 1 n 0 (pow_pos 1074)) odds_loss O.near (sine-sum s x n))

-- ---- THE TWO LAWS, of every finite double x and every number n of terms from 21 on
module _ (x : Float) (f : T (fits binary64 x)) (t : T (finite x)) where
  angle : Units (reduced x) (sign_of (reduced x)) (units_of (reduced x))
  angle = let R = reduces x f t in own (reduced x) R.fit R.known

  pub cosine-near : (n : ℕ) → 21 ≤ n → within (cosine_of x) (cosine_sum (reduced x) n)
  unfolding cosine_of cosine_sum
  cosine-near n k = cosine-lies (reduced x) (sign_of (reduced x)) (units_of (reduced x)) angle (reduces x f t).small n k

  pub sine-near : (n : ℕ) → 21 ≤ n → within (sine_of x) (sine_sum (reduced x) n)
  unfolding sine_of sine_sum
  sine-near n k = sine-lies (reduced x) (sign_of (reduced x)) (units_of (reduced x)) angle (reduces x f t).small n k
