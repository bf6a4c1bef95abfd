-- Of all numbers of the recurrence only the widths hi - lo and the last sum need to be judged: a sum is finite only where both products are, a
-- product only where both factors are, a share only where x - lo is. Assumes nothing.
use Rattle.std.proofs.Common.{◌≡◌, ℕ, zero, suc, ◌+◌, ◌-◌, ◌<◌, ◌≤◌, Bool, true, false, ◌&&◌, T, List, sym, refl, ap, ◌∙◌, subst, ⊎_elim, eq-or-lt_of_le, arith}
use lib.Ieee.{Float, nan, inf, fin, binary64, add, sub, mul, div, eq, of_bits}
use lib.Ieee.Bits.{is_true}
use lib.Ieee.Scale.{finite}
use Rattle.exact.specs.Doubles.{one}
use Rattle.exact.proofs.Truth.{both}
use Rattle.exact.proofs.Valued.{add-finite, mul-finite}
use Rattle.spline.specs.Spline.{knot_at, alpha_of, share, blend_of, fine_step, d_at, fine_at}
use Rattle.spline.specs.Walk.{Within, wide_at, wide_round, wide_rounds}

-- ---- what a finite result says of the operands
sum-known : (x y : Float) → finite (add binary64 x y) ≡ true → (finite x ≡ true) × (finite y ≡ true)
sum-known x y e = let o = add-finite binary64 x y (subst T (sym e) tt) in (is_true (finite x) o.0, is_true (finite y) o.1)

product-known : (x y : Float) → finite (mul binary64 x y) ≡ true → (finite x ≡ true) × (finite y ≡ true)
product-known x y e = let o = mul-finite binary64 x y (subst T (sym e) tt) in (is_true (finite x) o.0, is_true (finite y) o.1)

alpha_from : (f w : Float) → finite (alpha_of f w) ≡ true → finite f ≡ true
unfolding div eq of_bits
alpha_from nan w e = e
alpha_from (inf s) nan e = e
alpha_from (inf s) (inf t) e = e
alpha_from (inf s) (fin t n d) e = e
alpha_from (fin s m k) w e = refl

-- the second and the last of seven
second-of : (a b c d e f g : Bool) → (a && b && c && d && e && f && g) ≡ true → b ≡ true
second-of a true c d e f g h = refl
second-of true false c d e f g h = h
second-of false false c d e f g h = h

last_of : (a b c d e f g : Bool) → (a && b && c && d && e && f && g) ≡ true → g ≡ true
last_of a b c d e f g h = (both (a && b && c && d && e && f) g h).1

module _ (x lo hi a b : Float) where
  record Parts : Type 0 where
    left : finite a ≡ true
    right : finite b ≡ true
    fine : finite (sub binary64 hi lo) ≡ true → fine_step x lo hi a b ≡ true

  -- a finite sum comes of finite operands, and of a fine step where hi - lo is finite
  parts : finite (blend_of x lo hi a b) ≡ true → Parts
  unfolding blend_of fine_step
  parts e =
      let s = share x lo hi in
      let r = sub binary64 one s in
      let sum = sum-known (mul binary64 r a) (mul binary64 s b) e in
      let one-l : finite (mul binary64 r a) ≡ true = sum.0 in
      let two-l : finite (mul binary64 s b) ≡ true = sum.1 in
      let r-l : finite r ≡ true = (product-known r a one-l).0 in
      let s-l : finite s ≡ true = (product-known s b two-l).0 in
      let f-l : finite (sub binary64 x lo) ≡ true = alpha_from (sub binary64 x lo) (sub binary64 hi lo) s-l in
      record {
        left = (product-known r a one-l).1;
        right = (product-known s b two-l).1;
        fine = λ w. rw (f-l, w, s-l, r-l, one-l, two-l, e);
      }

  step-wide : fine_step x lo hi a b ≡ true → finite (sub binary64 hi lo) ≡ true
  unfolding fine_step
  step-wide e = second-of (finite (sub binary64 x lo)) (finite (sub binary64 hi lo)) (finite (share x lo hi)) _ _ _ _ e

  step_sum : fine_step x lo hi a b ≡ true → finite (blend_of x lo hi a b) ≡ true
  unfolding fine_step
  step_sum e = last_of (finite (sub binary64 x lo)) (finite (sub binary64 hi lo)) (finite (share x lo hi)) _ _ _ _ e

-- ---- the widths of the rounds
module _ (row : List Float) (p k : ℕ) where
  abbrev pub Wide : ℕ → ℕ → Type 0
  Wide r j = finite (wide_at row p k r j) ≡ true

  round-all : (r m : ℕ) → wide_round row p k r m ≡ true → (j : ℕ) → r < j → j ≤ r + m → Wide r j
  unfolding wide_round
  round-all r zero e j h g = absurd (omega arith)
  round-all r (suc m) e j h g =
      let q = both (wide_round row p k r m) _ e in
      ⊎_elim (λ (i : j ≡ r + suc m). rw i q.1) (λ (l : j < r + suc m). round-all r m q.0 j h (omega arith)) (eq-or-lt_of_le g)

  all-round : (r m : ℕ) → ((j : ℕ) → r < j → j ≤ r + m → Wide r j) → wide_round row p k r m ≡ true
  unfolding wide_round
  all-round r zero f = refl
  all-round r (suc m) f = rw (all-round r m (λ j h g. f j h (omega arith)), f (r + suc m) (omega arith) (omega arith))

  rounds-all : (q : ℕ) → wide_rounds row p k q ≡ true → (r j : ℕ) → r < q → r < j → j ≤ p → Wide r j
  unfolding wide_rounds
  rounds-all zero e r j l h g = absurd (omega arith)
  rounds-all (suc q) e r j l h g =
      let b = both (wide_rounds row p k q) _ e in
      let near : r ≤ q = omega arith in
      ⊎_elim (λ (i : r ≡ q). round-all r (p - r) (rw i b.1) j h (omega arith)) (λ (s : r < q). rounds-all q b.0 r j s h g)
      (eq-or-lt_of_le near)

  all-rounds : (q : ℕ) → q ≤ p → ((r j : ℕ) → r < j → j ≤ p → Wide r j) → wide_rounds row p k q ≡ true
  unfolding wide_rounds
  all-rounds zero l f = refl
  all-rounds (suc q) l f = rw (all-rounds q (omega arith) f, all-round q (p - q) (λ j h g. f q j h (omega arith)))

-- ---- d[p]
module _ (row : List Float) (p k : ℕ) (x : Float) where
  -- the width of a step, as the recurrence and as the rounds have it
  pub same-wide : (r j : ℕ) → sub binary64 (knot_at row (j + 1 + k - suc r)) (knot_at row (j + k - p)) ≡ wide_at row p k r j
  same-wide r j = let e : j + 1 + k - suc r ≡ j + k - r = omega arith in rw e

  -- what is fine d rounds later comes of what is fine
  down : (d r i j : ℕ) → i ≤ j → j ≤ i + d → fine_at row p k x (d + r) j ≡ true → fine_at row p k x r i ≡ true
  unfolding fine_at
  down zero r i j a b e =
      let same : j ≡ i = omega arith in
      let none : 0 + r ≡ r = omega arith in
      rw (none, same) at e
  down (suc d) r i j a b e =
      let one : suc d + r ≡ suc (d + r) = omega arith in
      let h = both _ _ (both _ _ (ap (λ (s : ℕ). fine_at row p k x s j) (sym one) ∙ e)).0 in
      ⊎_elim (λ (q : i ≡ j). down d r i j a (omega arith) h.1) (λ (q : i < j). down d r i (j - 1) (omega arith) (omega arith) h.0)
      (eq-or-lt_of_le a)

  fine-wide : fine_at row p k x p p ≡ true → (r j : ℕ) → r < j → j ≤ p → Wide row p k r j
  unfolding fine_at
  fine-wide e r j h g =
      let same : p - suc r + suc r ≡ p = omega arith in
      let f = down (p - suc r) (suc r) j p g (omega arith) (ap (λ (s : ℕ). fine_at row p k x s p) same ∙ e) in
      sym (ap finite (same-wide r j)) ∙ step-wide _ _ _ _ _ (both (fine_at row p k x r (j - 1) && fine_at row p k x r j) _ f).1

  fine-finite : (r j : ℕ) → fine_at row p k x r j ≡ true → finite (d_at row p k x r j) ≡ true
  unfolding fine_at d_at
  fine-finite zero j e = e
  fine-finite (suc r) j e = step_sum _ _ _ _ _ (both (fine_at row p k x r (j - 1) && fine_at row p k x r j) _ e).1

  pub finite-fine : ((r j : ℕ) → r < j → j ≤ p → Wide row p k r j) → (r j : ℕ) → r ≤ j → j ≤ p → finite (d_at row p k x r j) ≡ true
      → fine_at row p k x r j ≡ true
  unfolding fine_at d_at
  finite-fine w zero j h g e = e
  finite-fine w (suc r) j h g e =
      let q = parts _ _ _ _ _ e in
      rw (
        finite-fine w r (j - 1) (omega arith) (omega arith) q.left,
        finite-fine w r j (omega arith) g q.right,
        q.fine (ap finite (same-wide r j) ∙ w r j h g),
      )

same-verdict : (a b : Bool) → (a ≡ true → b ≡ true) → (b ≡ true → a ≡ true) → a ≡ b
same-verdict true b f g = sym (f refl)
same-verdict false true f g = g refl
same-verdict false false f g = refl

pub judged : (row : List Float) (p k : ℕ) (x : Float) → Within p k → fine_at row p k x p p ≡ (wide_rounds row p k p && finite (d_at row p k x p p))
judged row p k x w =
    same-verdict _ _
    (λ e. rw (all-rounds row p k p (omega arith) (fine-wide row p k x e), fine-finite row p k x p p e))
    (λ e.
    let q = both (wide_rounds row p k p) _ e in
    finite-fine row p k x (λ r j h g. rounds-all row p k p q.0 r j (omega arith) h g) p p (omega arith) (omega arith) q.1)
