-- The offset is exact and lies in [0, 1). An aligned index is a whole number of steps of 2^-20 samples, since no level is below -20; so is its ceiling, and a difference below
-- 2 ^ 20 steps has few digits. Assumes nothing.
use Rattle.quant.specs.declared.aligned.Misplaced.TheVariants.{Before}
use Rattle.std.specs.Prelude.{Some, None, Result, Ok, Err}
use Rattle.quant.specs.declared.aligned.Misplaced.{Misplaced}
use Rattle.quant.specs.declared.aligned.Start.{Start}
use mathlib.Core.Path.{◌≡◌, refl, sym, ap, ◌∙◌, subst}
use mathlib.Core.Logic.{◌⊎◌, inl, inr}
use mathlib.Core.Bool.{Bool, true, false, not, cond, true≢false}
use Prim.Native.Nat.{ℕ, suc, ◌+◌, ◌-◌, ◌*◌, ◌^◌, ◌≤◌, ◌<◌}
use native.Mathlib.Nat.{le_trans, le_of_eq, lt_of_lt_of_le, eq-or-lt_of_le, eq-zero-or-pos, mul_assoc, mul-one, one-mul, zero-mul, mul_right_comm, mul-pos, mul-le-mul_right, not-le_of_lt, sub_self, eq_of_mul-eq-mul_right}
use native.Mathlib.Omega.{arith}
use lib.Dec.{T, leb→le, leb, nleb→lt, lit<, lit≤}
use lib.IntN.{ℤ, pos, negsuc}
use lib.Pow.{pow-add, pow_pos, pow_mono, shl_lt}
use lib.Signed.{◌≤ℤ◌}
use lib.Ieee.{Float, binary64, up, down, round, sum, mul, sub, below, lt, fits, of_bits}
use lib.Ieee.Exact.{HasValue}
use lib.Ieee.Fits.{down_pos, mul-fits}
use lib.Ieee.Scale.{finite}
use Rattle.exact.specs.Value.{Units, sign_of}
use Rattle.exact.proofs.Order.{ltb_yes}
use Rattle.exact.proofs.Compare.{lt-is}
use Rattle.exact.proofs.Operation.{mul-rounds, sub-rounds}
use Rattle.exact.proofs.Rounding.{round-finite, round-none}
use Rattle.exact.proofs.Sum.{sum_first, sum-none}
use Rattle.exact.proofs.Value.{digits_of, pow-split, rescale, units-are}
use Rattle.exact.proofs.Truth.{like-false}
use Rattle.ieee.specs.Ceiling.{ceiling}
use Rattle.ieee.specs.Exp2.{exp2_of}
use Rattle.ieee.proofs.Ceiling.{ceiling-at, ceiling-fits, ceiling-finite}
use Rattle.ieee.proofs.Powers.{level-value}
use Rattle.ieee.specs.Cut.{cut_of}
use Rattle.ieee.specs.declared.cut.Cut.{Cut}
use Rattle.ieee.specs.declared.cut.Cut.TheVariants as cut
use Rattle.quant.specs.Aligned.{scaled_rate, steps_at, aligned_at, aligned_of, cut_to, start_of, placed_of, Offset, starts_at}

zero-value : HasValue (of_bits binary64 0) false 0 1
unfolding of_bits
zero-value = (refl, refl)

-- ---- a whole number n, at most 53 digits and a shift, times 2 ^ l: again at most 53 digits and a shift
record Shifted (n : ℕ) (l : ℤ) : Type 0 where
  digits : ℕ
  shift : ℕ
  few : digits < 2 ^ 53
  is : n * up l * 2 ^ 1074 ≡ digits * 2 ^ shift * (1 * down l)

small : (p j n : ℕ) → p < 2 ^ 53 → j ≤ 20 → p * 2 ^ j ≡ n * 2 ^ 1074 → n ≡ 0
small p j n h k e = elim (eq-zero-or-pos n) [
  | inl z ↦ z
  | inr q ↦ absurd (not-le_of_lt (lt_of_lt_of_le (shl_lt 53 j h) (le_trans (pow_mono (sum j k)) (lit≤ {m = 2 ^ 73} {n = 2 ^ 1074} tt))) (le_trans (le_of_eq (sym (one-mul (2 ^ 1074)))) (le_trans (mul-le-mul_right (2 ^ 1074) q) (le_of_eq (sym e)))))
]
  where
    sum : (j : ℕ) → j ≤ 20 → 53 + j ≤ 73
    sum j k = omega arith

shift_by : (p j n : ℕ) (l : ℤ) → p < 2 ^ 53 → p * 2 ^ j ≡ n * 2 ^ 1074 → negsuc 19 ≤ℤ l → Shifted n l
shift_by p j n (pos k) h e l =
    record {
      digits = p;
      shift = j + k;
      few = h;
      is = mul_right_comm n (2 ^ k) (2 ^ 1074) ∙ ap (λ (x : ℕ). x * 2 ^ k) (sym e) ∙ mul_assoc p (2 ^ j) (2 ^ k) ∙ ap (λ (x : ℕ). p * x) (sym (pow-add 2 j k)) ∙ sym (mul-one (p * 2 ^ (j + k)));
    }
shift_by p j n (negsuc k) h e l = by (leb (suc k) j) (leb→le (suc k) j) (nleb→lt (suc k) j)
  where
    k-le : k ≤ 19
    k-le = leb→le k 19 l.le

    at_most : (j k : ℕ) → j < suc k → k ≤ 19 → j ≤ 20
    at_most j k a b = omega arith

    by : (b : Bool) → (T b → suc k ≤ j) → (T (not b) → j < suc k) → Shifted n (negsuc k)
    by true f g =
        record {
          digits = p;
          shift = j - suc k;
          few = h;
          is =
              ap (λ (x : ℕ). x * 2 ^ 1074) (mul-one n)
              ∙ sym e
              ∙ ap (λ (x : ℕ). p * x) (sym (pow-split (suc k) j (f tt)))
              ∙ sym (mul_assoc p (2 ^ (j - suc k)) (2 ^ suc k))
              ∙ ap (λ (x : ℕ). p * 2 ^ (j - suc k) * x) (sym (one-mul (2 ^ suc k)));
        }
    by false f g =
        let z : n ≡ 0 = small p j n h (at_most j k (g tt) k-le) e in
        record { digits = 0; shift = 0; few = lit< tt; is = ap (λ (x : ℕ). x * 1 * 2 ^ 1074) z ∙ sym (zero-mul (1 * 2 ^ suc k)) }

-- ---- n * 2 ^ l in steps of 2 ^ -20
record Steps (n : ℕ) (l : ℤ) : Type 0 where
  w : ℕ
  is : w * (1 * down l) ≡ n * up l * 2 ^ 20

steps : (n : ℕ) (l : ℤ) → negsuc 19 ≤ℤ l → Steps n l
steps n (pos k) l = record { w = n * 2 ^ k * 2 ^ 20; is = mul-one (n * 2 ^ k * 2 ^ 20) }
steps n (negsuc k) l =
    record {
      w = n * 2 ^ (20 - suc k);
      is = ap (λ (x : ℕ). n * 2 ^ (20 - suc k) * x) (one-mul (2 ^ suc k)) ∙ mul_assoc n (2 ^ (20 - suc k)) (2 ^ suc k) ∙ ap (λ (x : ℕ). n * x) (pow-split (suc k) 20 (more k (leb→le k 19 l.le))) ∙ ap (λ (x : ℕ). x * 2 ^ 20) (sym (mul-one n));
    }
  where
    more : (k : ℕ) → k ≤ 19 → suc k ≤ 20
    more k h = omega arith

-- ---- a whole number i of samples, times 2 ^ level, is exact
record Samples (a : Float) : Type 0 where
  s : Bool
  w : ℕ
  value : HasValue a s w (2 ^ 20)

index_is : (i : Float) (l : ℤ) → T (fits binary64 i) → T (finite i) → (s : Bool) (n : ℕ) → HasValue i s n 1 → negsuc 19 ≤ℤ l → l ≤ℤ pos 20 → T (finite (mul binary64 i (exp2_of l))) → Samples (mul binary64 i (exp2_of l))
index_is i l f t s n v lo hi fin-a =
    let D = digits_of i f t in
    let same : D.digits * 2 ^ D.shift ≡ n * 2 ^ 1074 =
    sym (units-are i (sign_of i) (D.digits * 2 ^ D.shift) D.value) ∙ units-are i s (n * 2 ^ 1074) (rescale i s n 1 (n * 2 ^ 1074) (2 ^ 1074) (lit< tt) (mul-one (n * 2 ^ 1074)) v) in
    let S = shift_by D.digits D.shift n l D.few same lo in
    let is : mul binary64 i (exp2_of l) ≡ round binary64 s (n * up l) (1 * down l) =
    mul-rounds binary64 i (exp2_of l) s false n 1 (up l) (down l) (lit< tt) (down_pos l) v (level-value l lo hi) ∙ ap (λ (b : Bool). round binary64 b (n * up l) (1 * down l)) (like-false s) in
    let C : 0 < 1 * down l = mul-pos (lit< tt) (down_pos l) in
    let u : Units (round binary64 s (n * up l) (1 * down l)) s (S.digits * 2 ^ S.shift) =
    round-finite s (n * up l) (1 * down l) S.digits S.shift C S.few S.is (subst (λ (x : Float). T (finite x)) is fin-a) in
    let W = steps n l lo in
    record {
      s = s;
      w = W.w;
      value =
          subst (λ (x : Float). HasValue x s W.w (2 ^ 20)) (sym is)
          (rescale (round binary64 s (n * up l) (1 * down l)) s (S.digits * 2 ^ S.shift) (2 ^ 1074) W.w (2 ^ 20) (pow_pos 1074) (cross W.w (n * up l) (S.digits * 2 ^ S.shift) (1 * down l) (2 ^ 1074) (2 ^ 20) C W.is S.is) u);
    }
  where
    -- w c = a T and a P = d c, so w P = d T
    cross : (w a d c P T' : ℕ) → 0 < c → w * c ≡ a * T' → a * P ≡ d * c → w * P ≡ d * T'
    cross w a d c P T' C e g =
        eq_of_mul-eq-mul_right c C (w * P) (d * T')
        (mul_right_comm w P c ∙ ap (λ (x : ℕ). x * P) e ∙ mul_right_comm a T' P ∙ ap (λ (x : ℕ). x * T') g ∙ mul_right_comm d c T')

-- ---- not below 0: not negative, or a zero
not_negative : (a : Float) (s : Bool) (w c : ℕ) → 0 < c → HasValue a s w c → lt a (of_bits binary64 0) ≡ false → (s ≡ false) ⊎ (w ≡ 0)
not_negative a s w c C v h =
    by s (sym (lt-is a (of_bits binary64 0) s false w 0 c C v (rescale (of_bits binary64 0) false 0 1 0 c (lit< tt) (zero-mul 1 ∙ sym (zero-mul c)) zero-value)) ∙ h)
  where
    by : (s : Bool) → below s w false 0 ≡ false → (s ≡ false) ⊎ (w ≡ 0)
    by false g = inl refl
    by true g = elim (eq-zero-or-pos w) [ inl z ↦ inr z | inr p ↦ absurd (true≢false (sym (ltb_yes 0 (w + 0) (some w p)) ∙ g)) ]
      where
        some : (w : ℕ) → 0 < w → 0 < w + 0
        some w p = omega arith

-- ---- the difference of n samples and w steps
module _ (x : Float) (d : ℕ) (is : x ≡ round binary64 false d (2 ^ 20)) (l : d < 2 ^ 20) where
  difference : HasValue x false d (2 ^ 20)
  difference =
      subst (λ (y : Float). HasValue y false d (2 ^ 20)) (sym is)
      (rescale (round binary64 false d (2 ^ 20)) false (d * 2 ^ 1054) (2 ^ 1074) d (2 ^ 20) (pow_pos 1074) (sym same)
      (round-none false d (2 ^ 20) d 1054 (pow_pos 20) (lt_of_lt_of_le l (lit≤ tt)) (sym same) (lt_of_lt_of_le (shl_lt 20 1054 l) (lit≤ tt))))
    where
      same : d * 2 ^ 1054 * 2 ^ 20 ≡ d * 2 ^ 1074
      same = mul_assoc d (2 ^ 1054) (2 ^ 20) ∙ ap (λ (z : ℕ). d * z) (sym (pow-add 2 1054 20))

positive : (a : Float) (w n : ℕ) → HasValue a false w (2 ^ 20) → HasValue (ceiling a) false n 1 → w ≤ n * 2 ^ 20 → n * 2 ^ 20 < w + 2 ^ 20 → Offset a (sub binary64 (ceiling a) a)
positive a w n v u lo hi =
    let N = n * 2 ^ 20 in
    let d = N - w in
    let is : sub binary64 (ceiling a) a ≡ sum binary64 false N true w (2 ^ 20) = sub-rounds binary64 (ceiling a) a false false N w (2 ^ 20) (pow_pos 20) (rescale (ceiling a) false n 1 N (2 ^ 20) (lit< tt) (mul-one N) u) v in
    let one : sum binary64 false N true w (2 ^ 20) ≡ round binary64 false d (2 ^ 20) =
    elim (eq-or-lt_of_le lo) [
      | inl e ↦ sum-none binary64 false true N w (2 ^ 20) refl (sym e) ∙ ap (λ (z : ℕ). round binary64 false z (2 ^ 20)) (sym (ap (λ (z : ℕ). N - z) e ∙ sub_self N))
      | inr h ↦ sum_first binary64 false true N w (2 ^ 20) refl h
    ] in
    let small' : d < 2 ^ 20 = under N w lo hi in
    record {
      s = false;
      w = w;
      n = n;
      d = d;
      index = v;
      above = u;
      offset = difference (sub binary64 (ceiling a) a) d (is ∙ one) small';
      exact = back N w lo;
      less = small';
    }
  where
    under : (N w : ℕ) → w ≤ N → N < w + 2 ^ 20 → N - w < 2 ^ 20
    under N w h k = omega arith

    back : (N w : ℕ) → w ≤ N → w + (N - w) ≡ N
    back N w h = omega arith

-- -0, whose ceiling is -0
minus-zero : (a : Float) (n : ℕ) → HasValue a true 0 (2 ^ 20) → HasValue (ceiling a) true n 1 → n * 2 ^ 20 ≤ 0 → Offset a (sub binary64 (ceiling a) a)
minus-zero a n v u h =
    let z : n ≡ 0 = none n h in
    let u0 : HasValue (ceiling a) true 0 1 = subst (λ (k : ℕ). HasValue (ceiling a) true k 1) z u in
    let is : sub binary64 (ceiling a) a ≡ sum binary64 true 0 false 0 (2 ^ 20) = sub-rounds binary64 (ceiling a) a true true 0 0 (2 ^ 20) (pow_pos 20) (rescale (ceiling a) true 0 1 0 (2 ^ 20) (lit< tt) refl u0) v in
    record {
      s = true;
      w = 0;
      n = 0;
      d = 0;
      index = v;
      above = u0;
      offset = difference (sub binary64 (ceiling a) a) 0 (is ∙ sum-none binary64 true false 0 0 (2 ^ 20) refl refl) (lit< tt);
      exact = refl;
      less = lit< tt;
    }
  where
    none : (n : ℕ) → n * 2 ^ 20 ≤ 0 → n ≡ 0
    none n h = omega arith

by_sign : (a : Float) (s : Bool) (w : ℕ) → T (fits binary64 a) → HasValue a s w (2 ^ 20) → (s ≡ false) ⊎ (w ≡ 0) → Offset a (sub binary64 (ceiling a) a)
by_sign a false w f v o = let c = ceiling-at a false w (2 ^ 20) (pow_pos 20) f v in positive a w c.n v c.value c.toward.reaches c.toward.near
by_sign a true w f v (inl e) = absurd (true≢false e)
by_sign a true w f v (inr z) =
    let v0 : HasValue a true 0 (2 ^ 20) = subst (λ (k : ℕ). HasValue a true k (2 ^ 20)) z v in
    let c = ceiling-at a true 0 (2 ^ 20) (pow_pos 20) f v0 in
    minus-zero a c.n v0 c.value c.toward.reaches

-- THE LAW: whatever time, rate and level (from -20 to 20) align to, if it is finite and not below 0, the offset is exact and lies in [0, 1).
pub offset-exact : (time rate : Float) (level : ℤ) → negsuc 19 ≤ℤ level → level ≤ℤ pos 20 → T (finite (steps_at time rate level)) → T (finite (aligned_at time rate level)) → lt (aligned_at time rate level) (of_bits binary64 0) ≡ false
    → Offset (aligned_at time rate level) (sub binary64 (ceiling (aligned_at time rate level)) (aligned_at time rate level))
offset-exact time rate level lo hi t u h =
    let x = steps_at time rate level in
    let f : T (fits binary64 x) = mul-fits binary64 time (scaled_rate rate level) in
    let D = digits_of x f t in
    let c = ceiling-at x (sign_of x) (D.digits * 2 ^ D.shift) (2 ^ 1074) (pow_pos 1074) f D.value in
    let a = aligned_at time rate level in
    let k = index_is (ceiling x) level (ceiling-fits x) (ceiling-finite x f t) (sign_of x) c.n c.value lo hi u in
    by_sign a k.s k.w (mul-fits binary64 (ceiling x) (exp2_of level)) k.value (not_negative a k.s k.w (2 ^ 20) (pow_pos 20) k.value h)

-- ---- the same, said of what `place` answers
abbrev offset_in : Result Start Misplaced → Float
offset_in (Ok p) = p.offset
offset_in (Err e) = of_bits binary64 0

cut-start : (a x : Float) (c : Cut) (k : ℕ) → cut_to a c ≡ starts_at k x → x ≡ sub binary64 (ceiling a) a
cut-start a x (cut.Index w) k e = sym (ap offset_in e)
cut-start a x cut.Below k e = let z : ◌≡◌ {A = ℕ} 0 1 = cc in absurd (omega arith)
cut-start a x cut.Above k e = let z : ◌≡◌ {A = ℕ} 0 1 = cc in absurd (omega arith)
cut-start a x cut.NotANumber k e = let z : ◌≡◌ {A = ℕ} 0 1 = cc in absurd (omega arith)

-- what the four tests were, where there is a start
record Started (p q : Bool) (a x : Float) : Type 0 where
  steps-finite : T p
  index-finite : T q
  not-below : lt a (of_bits binary64 0) ≡ false
  offset-is : x ≡ sub binary64 (ceiling a) a

started : (b p q r : Bool) (a x : Float) (k : ℕ) → r ≡ lt a (of_bits binary64 0) → placed_of (cond b (cond p (cond q (Some a) None) None) None) ≡ starts_at k x → cond r (Err Before) (cut_to a (cut_of a)) ≡ start_of a → Started p q a x
started false p q r a x k f e g = let z : ◌≡◌ {A = ℕ} 0 1 = cc in absurd (omega arith)
started true false q r a x k f e g = let z : ◌≡◌ {A = ℕ} 0 1 = cc in absurd (omega arith)
started true true false r a x k f e g = let z : ◌≡◌ {A = ℕ} 0 1 = cc in absurd (omega arith)
started true true true true a x k f e g = let z : ◌≡◌ {A = ℕ} 0 1 = cc in absurd (omega arith)
started true true true false a x k f e g = record { steps-finite = tt; index-finite = tt; not-below = sym f; offset-is = cut-start a x (cut_of a) k (g ∙ e) }

-- Wherever `place` answers a start and an offset, at a level from -20 to 20, the offset is exact and lies in [0, 1).
pub place-exact : (time rate : Float) (level : ℤ) (k : ℕ) (x : Float) → negsuc 19 ≤ℤ level → level ≤ℤ pos 20 → placed_of (aligned_of time rate level) ≡ starts_at k x → Offset (aligned_at time rate level) x
place-exact time rate level k x lo hi e =
    let a = aligned_at time rate level in
    let r = lt a (of_bits binary64 0) in
    let s = started (finite (scaled_rate rate level)) (finite (steps_at time rate level)) (finite a) r a x k refl e refl in
    subst (Offset a) (sym s.offset-is) (offset-exact time rate level lo hi s.steps-finite s.index-finite s.not-below)
