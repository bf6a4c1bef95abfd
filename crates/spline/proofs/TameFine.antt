-- A spline of which all controls and knots are at most 2^1000 in size and no knot falls is fine at every point: lo <= x <= hi in each step, so that
-- no difference overflows and no share is above 1, and each of at most five rounds makes the numbers at most 4 times larger. Assumes nothing.
use Rattle.std.proofs.Common.{◌≡◌, ℕ, zero, suc, ◌+◌, ◌-◌, ◌*◌, ◌^◌, ◌<◌, ◌≤◌, Bool, true, false, cond, T, ◌⊎◌, List, sym, refl, ap, ◌∙◌, inl, inr, ⊎_elim, le_trans, le_of_eq, mul-le-mul_right, mul_assoc, mul_comm, eq-or-lt_of_le, mul-pos, arith, pow_pos}
use lib.Ieee.{Float, nan, inf, fin, up, down, lt, le, eq}
use lib.Ieee.Fits.{down_pos}
use lib.Ieee.Exact.{HasValue}
use lib.Ieee.Scale.{finite}
use Rattle.exact.specs.Value.{AtMost, sign_of, units_of}
use Rattle.exact.specs.Signed.{Signed, signed}
use Rattle.exact.proofs.Value.{own, scale}
use Rattle.exact.proofs.Truth.{both, neither}
use Rattle.spline.specs.Spline.{Sizes, knot_at, in_domain, span_to, span_at, d_at}
use Rattle.spline.specs.Value.{spline_fine}
use Rattle.spline.specs.Walk.{Tame}
use Rattle.spline.proofs.Judged.{Wide, same-wide, finite-fine}
use Rattle.spline.proofs.StepSizes.{known-finite, step_tame}
use Rattle.spline.proofs.Places.{NotMore, on}
use Rattle.spline.proofs.KnotOrder.{upto, upto_le, from-to, Differences, differences}

-- ---- the span k: t[k] <= x, and t[k+1] is not, unless k is the last
record Found (row : List Float) (p : ℕ) (x : Float) (m k : ℕ) : Type 0 where
  from : p ≤ k
  to : k ≤ p + m
  at : le (knot_at row k) x ≡ true
  next : (k ≡ p + m) ⊎ (le (knot_at row (k + 1)) x ≡ false)

found : (row : List Float) (p : ℕ) (x : Float) (m : ℕ) → le (knot_at row p) x ≡ true → Found row p x m (span_to row p x m)
unfolding span_to
found row p x zero h = record { from = omega arith; to = omega arith; at = h; next = inl (omega arith) }
found row p x (suc m) h = by (found row p x m h) (le (knot_at row (p + suc m)) x) refl
  where
    by : Found row p x m (span_to row p x m) → (t : Bool) → le (knot_at row (p + suc m)) x ≡ t
        → Found row p x (suc m) (cond t (p + suc m) (span_to row p x m))
    by f true e = record { from = omega arith; to = omega arith; at = e; next = inl refl }
    by f false e =
        let k = span_to row p x m in
        record {
          from = f.from;
          to = omega (arith, f.to);
          at = f.at;
          next = elim f.next [
            | inl g ↦ let i : k + 1 ≡ p + suc m = omega arith in inr (rw i e)
            | inr g ↦ inr g
          ];
        }

-- ---- the knots over the denominator 2 ^ 1074 d
module _ (row : List Float) (p n : ℕ) (tame : Tame row p n) (d : ℕ) (D : 0 < d) where
  abbrev over : ℕ
  over = 2 ^ 1074 * d

  over-pos : 0 < over
  over-pos = mul-pos (pow_pos 1074) D

  abbrev size : ℕ → ℕ
  size i = units_of (knot_at row i) * d

  abbrev worth : ℕ → Signed
  worth i = signed (sign_of (knot_at row i)) (size i)

  has : (i : ℕ) → i ≤ n + p → HasValue (knot_at row i) (sign_of (knot_at row i)) (size i) over
  has i h =
      let t = tame.knot i h in
      scale (knot_at row i) (sign_of (knot_at row i)) (units_of (knot_at row i)) (2 ^ 1074) d (own (knot_at row i) t.fit t.known)

  small : (i : ℕ) → i ≤ n + p → size i * 2 ^ 1074 ≤ 2 ^ 2074 * over
  small i h = most (units_of (knot_at row i)) (2 ^ 2074) d (2 ^ 1074) (tame.knot i h).small
    where
      most : (u m d q : ℕ) → u ≤ m → u * d * q ≤ m * (q * d)
      most u m d q l = le_trans (le_of_eq (mul_assoc u d q ∙ ap (λ (z : ℕ). u * z) (mul_comm d q))) (mul-le-mul_right (q * d) l)

  -- no knot is below an earlier one
  knots-rise : (i j : ℕ) → i ≤ j → j ≤ n + p → NotMore (worth i) (worth j)
  knots-rise i j h g = ⊎_elim (λ (e : i ≡ j). rw e (omega arith)) (λ (l : i < j). up_to j l g) (eq-or-lt_of_le h)
    where
      up_to : (j : ℕ) → i < j → j ≤ n + p → NotMore (worth i) (worth j)
      up_to zero h g = absurd (omega arith)
      up_to (suc j) h g =
          let next : j + 1 ≡ suc j = omega arith in
          let step : NotMore (worth j) (worth (suc j)) =
          upto (knot_at row j) (knot_at row (suc j)) (sign_of (knot_at row j)) (sign_of (knot_at row (suc j))) (size j) (size (suc j)) over over-pos
          (has j (omega arith)) (has (suc j) g) (rw next at (tame.rises j (omega arith))) in
          let near : i ≤ j = omega arith in
          ⊎_elim (λ (e : i ≡ j). rw e step) (λ (l : i < j). on (worth i) (worth j) (worth (suc j)) (up_to j l (omega arith)) step)
          (eq-or-lt_of_le near)

  -- ---- a point of the domain, and its span
  module _ (sizes : Sizes p n) (x : Float) (s : Bool) (a : ℕ) (v : HasValue x s a over) (domain : in_domain row p n x ≡ true) where
    abbrev span : ℕ
    span = span_at row p n x

    starts : le (knot_at row p) x ≡ true
    unfolding in_domain
    starts = (both (le (knot_at row p) x) (le x (knot_at row n)) domain).0

    ends : le x (knot_at row n) ≡ true
    unfolding in_domain
    ends = (both (le (knot_at row p) x) (le x (knot_at row n)) domain).1

    here : Found row p x (n - 1 - p) span
    here = found row p x (n - 1 - p) starts

    below : span < n
    below = omega (arith, here.to, sizes.some)

    span-low : (i : ℕ) → i ≤ span → NotMore (worth i) (signed s a)
    span-low i h =
        let b = below in
        let k : span ≤ n + p = omega arith in
        on (worth i) (worth span) (signed s a) (knots-rise i span h k)
        (upto_le (knot_at row span) x (sign_of (knot_at row span)) s (size span) a over over-pos (has span k) v here.at)

    next-high : span + 1 ≤ n + p → NotMore (signed s a) (worth (span + 1))
    unfolding le
    next-high k = elim here.next [
      | inl e ↦
          let i : span + 1 ≡ n = omega (arith, sizes.some) in
          let last : n ≤ n + p = omega arith in
          rw i (upto_le x (knot_at row n) s (sign_of (knot_at row n)) a (size n) over over-pos v (has n last) ends)
      | inr e ↦
          let t = knot_at row (span + 1) in
          upto x t s (sign_of t) a (size (span + 1)) over over-pos v (has (span + 1) k) (neither (lt t x) (eq t x) e).0
    ]

    span-high : (i : ℕ) → span + 1 ≤ i → i ≤ n + p → NotMore (signed s a) (worth i)
    span-high i h g =
        let b = below in
        let k : span + 1 ≤ n + p = omega arith in
        on (signed s a) (worth (span + 1)) (worth i) (next-high k) (knots-rise (span + 1) i h g)

    -- the differences of a step
    stepped : (i j : ℕ) → i ≤ span → span + 1 ≤ j → j ≤ n + p → Differences x (knot_at row i) (knot_at row j)
    stepped i j h g l =
        let b = below in
        let k : i ≤ n + p = omega arith in
        differences x (knot_at row i) (knot_at row j) s (sign_of (knot_at row i)) (sign_of (knot_at row j)) a (size i) (size j) over over-pos v (has i k)
        (has j l) (small i k) (small j l) (span-low i h) (span-high j g l)

    at-step : (r j : ℕ) → r < j → j ≤ p → Differences x (knot_at row (j + span - p)) (knot_at row (j + 1 + span - suc r))
    at-step r j h g =
        let b = below in
        let l = here.from in
        stepped (j + span - p) (j + 1 + span - suc r) (omega arith) (omega arith) (omega arith)

    wide : (r j : ℕ) → r < j → j ≤ p → Wide row p span r j
    wide r j h g = sym (ap finite (same-wide row p span x r j)) ∙ known-finite (at-step r j h g).wide

    -- ---- the numbers after r rounds are at most 2 ^ (grown r) units in size
    grown : ℕ → ℕ
    grown zero = 2074
    grown (suc r) = suc (suc (grown r))

    grown-is : (r : ℕ) → grown r ≡ 2074 + 2 * r
    unfolding grown
    grown-is zero = refl
    grown-is (suc r) = omega (arith, grown-is r)

    d_tame : (r j : ℕ) → r ≤ j → j ≤ p → AtMost (2 ^ grown r) (d_at row p span x r j)
    unfolding d_at grown
    d_tame zero j h g =
        let b = below in
        let l = here.from in
        tame.control (j + span - p) (omega arith)
    d_tame (suc r) j h g =
        let f = at-step r j h g in
        let few : suc (suc (grown r)) < 2098 = omega (arith, grown-is r, sizes.degree) in
        step_tame x (knot_at row (j + span - p)) (knot_at row (j + 1 + span - suc r)) (d_at row p span x r (j - 1)) (d_at row p span x r j) (2 ^ 2075)
        (grown r) few f.from f.wide f.order (d_tame r (j - 1) (omega arith) (omega arith)) (d_tame r j (omega arith) g)

    fine-there : spline_fine row p n x ≡ true
    unfolding spline_fine
    fine-there = rw domain (finite-fine row p span x wide p p (omega arith) (omega arith) (known-finite (d_tame p p (omega arith) (omega arith))))

pub tame_fine : (row : List Float) (p n : ℕ) (x : Float) → Sizes p n → Tame row p n → spline_fine row p n x ≡ true
unfolding spline_fine in_domain
tame_fine row p n x sizes tame = by (in_domain row p n x) refl
  where
    inside : (x : Float) → T (finite x) → in_domain row p n x ≡ true → spline_fine row p n x ≡ true
    inside nan t e = absurd t
    inside (inf s) t e = absurd t
    inside (fin s m k) t e =
        let value : HasValue (fin s m k) s (m * up k * 2 ^ 1074) (2 ^ 1074 * down k) = (refl, sym (mul_assoc (m * up k) (2 ^ 1074) (down k))) in
        fine-there row p n tame (down k) (down_pos k) sizes (fin s m k) s (m * up k * 2 ^ 1074) value e

    by : (t : Bool) → in_domain row p n x ≡ t → spline_fine row p n x ≡ true
    by true e =
        let h = both (le (knot_at row p) x) (le x (knot_at row n)) e in
        let first : p ≤ n + p = omega arith in
        let last : n ≤ n + p = omega arith in
        inside x (from-to (knot_at row p) x (knot_at row n) (tame.knot p first).known (tame.knot n last).known h.0 h.1) e
    by false e = rw e
