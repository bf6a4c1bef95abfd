-- Points between the first and the last. A point is i*dx + x, exact, rounded once, and that lies between the first and the last; so a property that
-- goes from a rounding to each smaller one, as "is finite" does, holds of every point where it holds of these two. Assumes nothing.
use Rattle.std.proofs.Common.{◌≡◌, ℕ, ◌+◌, ◌-◌, ◌*◌, ◌^◌, ◌<◌, ◌≤◌, Bool, true, false, T, ℤ, sym, refl, ap, ◌∙◌, subst, mul-le-mul_right, mul_comm, mul-pos, zero-mul, arith}
use Prim.Native.Nat.{compare, Ordering}
use mathlib.Core.Bool.{beq}
use lib.Ieee.{Float, nan, inf, fin, binary64, up, down, unlike, round, sum, add, mul, of_int}
use lib.Ieee.Fits.{down_pos}
use lib.Ieee.Exact.{HasValue}
use lib.Ieee.Scale.{finite}
use Rattle.exact.proofs.Order.{compared, Stands}
use Rattle.exact.proofs.Sum.{sum_like, sum_first, sum-second, sum-none}
use Rattle.exact.proofs.Value.{scale}
use Rattle.fma.specs.Fused.{fma}
use Rattle.fma.proofs.Fusing.{fma-at}
use Rattle.points.specs.Points.{number, point_at}
use Rattle.points.proofs.Fused.{index-value}

-- such a property
pub record Shrinks (P : Float → Type 0) : Type 0 where
  pub smaller : (s t : Bool) (a b q : ℕ) → 0 < q → a ≤ b → P (round binary64 t b q) → P (round binary64 s a q)
  pub known : (z : Float) → P z → T (finite z)

-- ---- sums with one sign or two: r lo + u c between u c and r hi + u c
module _ (fine : Float → Type 0) (S : Shrinks fine) (r u : Bool) (lo hi c q : ℕ) (Q : 0 < q) (h : lo ≤ hi) (first : fine (sum binary64 r 0 u c q))
    (last : fine (sum binary64 r hi u c q)) where
  like : beq r u ≡ true → fine (sum binary64 r lo u c q)
  like e =
      let top : fine (round binary64 r (hi + c) q) = subst fine (sum_like binary64 r u hi c q e) last in
      subst fine (sym (sum_like binary64 r u lo c q e)) (S.smaller r r (lo + c) (hi + c) q Q (omega arith) top)

  -- below c: of the first's sign, and smaller
  under : beq r u ≡ false → lo < c → fine (sum binary64 r lo u c q)
  under e l =
      let top : fine (round binary64 u (c - 0) q) = subst fine (sum-second binary64 r u 0 c q e (omega arith)) first in
      subst fine (sym (sum-second binary64 r u lo c q e l)) (S.smaller u u (c - lo) (c - 0) q Q (omega arith) top)

  -- where hi is above c, so is the last, and whatever is at most hi - c is finite
  below_last : beq r u ≡ false → c < hi → (s : Bool) (a : ℕ) → a ≤ hi - c → fine (round binary64 s a q)
  below_last e l s a k = S.smaller s r a (hi - c) q Q k (subst fine (sum_first binary64 r u hi c q e l) last)

  -- at c: zero
  zero-fine : beq r u ≡ false → lo ≡ c → fine (round binary64 false 0 q)
  zero-fine e l = by (compare hi c) (compared hi c)
    where
      by : (o : Ordering) → Stands o hi c → fine (round binary64 false 0 q)
      by Ordering.lt k = absurd (omega arith)
      by Ordering.eq k = subst fine (sum-none binary64 r u hi c q e k) last
      by Ordering.gt k = below_last e k false 0 (omega arith)

  unlike-signs : beq r u ≡ false → fine (sum binary64 r lo u c q)
  unlike-signs e = by (compare lo c) (compared lo c)
    where
      by : (o : Ordering) → Stands o lo c → fine (sum binary64 r lo u c q)
      by Ordering.lt k = under e k
      by Ordering.eq k = subst fine (sym (sum-none binary64 r u lo c q e k)) (zero-fine e k)
      by Ordering.gt k = subst fine (sym (sum_first binary64 r u lo c q e k)) (below_last e (omega arith) r (lo - c) (omega arith))

  between : fine (sum binary64 r lo u c q)
  between = by (beq r u) refl
    where
      by : (b : Bool) → beq r u ≡ b → fine (sum binary64 r lo u c q)
      by true e = like e
      by false e = unlike-signs e

-- ---- points

module _ (fine : Float → Type 0) (S : Shrinks fine) (t u : Bool) (n w : ℕ) (d g : ℤ) where
  abbrev p : ℕ
  p = down d * down g

  abbrev step : ℕ
  step = n * up d * down g

  abbrev start : ℕ
  start = w * up g * down d

  positive : 0 < p
  positive = mul-pos (down_pos d) (down_pos g)

  point-is : (i : ℕ) → i ≤ 2 ^ 53 → point_at (fin u w g) (fin t n d) i ≡ sum binary64 (unlike false t) (i * p * step) u (start * p) (p * p)
  point-is i h =
      let of-step : HasValue (fin t n d) t step p = scale (fin t n d) t (n * up d) (down d) (down g) (refl, refl) in
      let of-start : HasValue (fin u w g) u start p = subst (HasValue (fin u w g) u start) (mul_comm (down g) (down d)) (scale (fin u w g) u (w * up g) (down g) (down d) (refl, refl)) in
      fma-at (number i) (fin t n d) (fin u w g) false t u (i * p) step start p positive (index-value i p h) of-step of-start

  between_ends : (i m : ℕ) → i ≤ m → m ≤ 2 ^ 53 → fine (point_at (fin u w g) (fin t n d) 0) → fine (point_at (fin u w g) (fin t n d) m) → fine (point_at (fin u w g) (fin t n d) i)
  between_ends i m h l first last =
      let nothing : 0 * p * step ≡ 0 = ap (λ (x : ℕ). x * step) (zero-mul p) ∙ zero-mul step in
      let a : fine (sum binary64 (unlike false t) 0 u (start * p) (p * p)) = subst (λ (x : ℕ). fine (sum binary64 (unlike false t) x u (start * p) (p * p))) nothing (subst fine (point-is 0 (omega arith)) first) in
      let b : fine (sum binary64 (unlike false t) (m * p * step) u (start * p) (p * p)) = subst fine (point-is m l) last in
      subst fine (sym (point-is i (omega arith)))
      (between fine S (unlike false t) u (i * p * step) (m * p * step) (start * p) (p * p) (mul-pos positive positive) (mul-le-mul_right step (mul-le-mul_right p h)) a b)

-- A first point is finite only where x and dx are.
pub points-between : (P : Float → Type 0) → Shrinks P → (x dx : Float) (i m : ℕ) → i ≤ m → m ≤ 2 ^ 53 → P (point_at x dx 0) → P (point_at x dx m) → P (point_at x dx i)
unfolding fma of_int round add mul
points-between P S x nan i m h l first last = absurd (S.known nan first)
points-between P S x (inf t) i m h l first last = absurd (S.known (point_at x (inf t) 0) first)
points-between P S nan (fin t n d) i m h l first last = absurd (S.known nan first)
points-between P S (inf u) (fin t n d) i m h l first last = absurd (S.known (inf u) first)
points-between P S (fin u w g) (fin t n d) i m h l first last = between_ends P S t u n w d g i m h l first last
