-- At a clamped end the value equals the end control as a number: where the first p + 1 knots, or the last, are equal, and no step there overflows.
-- Outside the domain the value is 0. Assumes nothing.
use Rattle.std.proofs.Common.{◌≡◌, ℕ, zero, suc, ◌+◌, ◌-◌, ◌<◌, ◌≤◌, Bool, true, false, cond, ◌&&◌, T, List, sym, refl, ap, ◌∙◌, subst, le_refl, add-zero, arith}
use lib.Ieee.{Float, binary64, fits, lt, le, eq}
use Rattle.exact.specs.Doubles.{nought}
use Rattle.exact.specs.Signed.{Signed, Same}
use Rattle.spline.specs.Spline.{control_at, knot_at, in_domain, span_to, span_at, d_at, fine_at}
use Rattle.spline.specs.Value.{spline_at, spline_fine}
use Rattle.spline.proofs.Places.{Number, place, Less, via, back, on, over, under, not_more, like}
use Rattle.spline.proofs.Places.{lt_yes, eq_yes, same-eq, le_yes, le-no, known-eq}
use Rattle.spline.proofs.Steps.{left_step, right-step}
use Rattle.spline.proofs.Knots.{Rising, same-control, parts, fine-known, number-at, ordered, on-span, fine-on-span}

-- ---- outside the domain
pub outside : (row : List Float) (p n : ℕ) (x : Float) → in_domain row p n x ≡ false → spline_at row p n x ≡ nought
unfolding spline_at
outside row p n x e = ap (λ (b : Bool). cond b (d_at row p (span_at row p n x) x p p) nought) e

-- ---- where the ends are clamped
-- the first p + 1 knots are equal, and the next one is above them
pub record ClampedLeft (row : List Float) (p : ℕ) : Type 0 where
  pub equal : (i : ℕ) → i ≤ p → eq (knot_at row i) (knot_at row p) ≡ true
  pub above : lt (knot_at row p) (knot_at row (p + 1)) ≡ true

-- the last p + 1 knots are equal, and the one before is below them
pub record ClampedRight (row : List Float) (p n : ℕ) : Type 0 where
  pub equal : (i : ℕ) → i ≤ p → eq (knot_at row (n + i)) (knot_at row n) ≡ true
  pub below : lt (knot_at row (n - 1)) (knot_at row n) ≡ true

module _ (row : List Float) (p n : ℕ) (K : Rising row p n) (x : Float) (f : T (fits binary64 x)) where
  abbrev t : ℕ → Signed
  t i = place (knot_at row i)

  -- ---- the left end
  module _ (C : ClampedLeft row p) (at : eq x (knot_at row p) ≡ true) where
    left-x : Number x
    left-x = record { fit = f; known = known-eq x (knot_at row p) (K.knot p (omega arith)).known at }

    at_left : Same (place x) (t p)
    at_left = eq_yes x (knot_at row p) left-x (K.knot p (omega arith)) at

    later : (j : ℕ) → p < j → j ≤ n + p → Less (place x) (t j)
    later j h k =
        under (place x) (t p) (t j) (like (place x) (t p) at_left)
        (over (t p) (t (p + 1)) (t j)
        (lt_yes (knot_at row p) (knot_at row (p + 1)) (K.knot p (omega arith)) (K.knot (p + 1) (omega arith)) C.above)
        (ordered row p n K (p + 1) j (omega arith) k))

    left_in : in_domain row p n x ≡ true
    unfolding in_domain
    left_in =
        let first = le_yes (knot_at row p) x (K.knot p (omega arith)) left-x (like (t p) (place x) (back (place x) (t p) at_left)) in
        let last = le_yes x (knot_at row n) left-x (K.knot n (omega arith)) (not_more (place x) (t n) (later n K.some (omega arith))) in
        λ i. first i && last i

    left-span : (m : ℕ) → p + m ≤ n → span_to row p x m ≡ p
    unfolding span_to
    left-span zero h = refl
    left-span (suc m) h =
        ap (λ (b : Bool). cond b (p + suc m) (span_to row p x m))
        (le-no (knot_at row (p + suc m)) x (K.knot (p + suc m) (omega arith)) left-x (later (p + suc m) (omega arith) (omega arith)))
        ∙ left-span m (omega arith)

    left_at : (r j : ℕ) → j ≤ p → fine_at row p p x r j ≡ true → Same (place (d_at row p p x r j)) (place (control_at row (j - r)))
    unfolding d_at
    left_at zero j h e = same-control row (j + p - p) (j - 0) (omega arith)
    left_at (suc r) j h e =
        let g = parts row p p x r j e in
        let l : j + p - p ≤ p = omega arith in
        let L = K.knot (j + p - p) (omega arith) in
        let A = number-at row p p x r (j - 1) (K.control (j - 1 + p - p) (omega (arith, K.some))) g.before in
        let before = d_at row p p x r (j - 1) in
        let equal = eq_yes (knot_at row (j + p - p)) (knot_at row p) L (K.knot p (omega arith)) (C.equal (j + p - p) l) in
        via (place (d_at row p p x (suc r) j)) (place before) (place (control_at row (j - suc r)))
        (left_step x (knot_at row (j + p - p)) (knot_at row (j + 1 + p - suc r)) before (d_at row p p x r j) left-x L
        A (fine-known row p p x r j g.here) g.wide (via (place x) (t p) (t (j + p - p)) at_left (back (t (j + p - p)) (t p) equal)))
        (via (place before) (place (control_at row (j - 1 - r))) (place (control_at row (j - suc r))) (left_at r (j - 1) (omega arith) g.before)
        (same-control row (j - 1 - r) (j - suc r) (omega arith)))

    pub left_end : spline_fine row p n x ≡ true → eq (spline_at row p n x) (control_at row 0) ≡ true
    left_end e =
        let span = left-span (n - 1 - p) (omega (arith, K.some)) in
        let fine = fine-on-span row p n x p left_in span e in
        let d = d_at row p p x p p in
        ap (λ (z : Float). eq z (control_at row 0)) (on-span row p n x p left_in span)
        ∙ same-eq d (control_at row 0) (number-at row p p x p p (K.control (p + p - p) (omega (arith, K.some))) fine)
        (K.control 0 (omega (arith, K.some)))
        (via (place d) (place (control_at row (p - p))) (place (control_at row 0)) (left_at p p (le_refl p) fine)
        (same-control row (p - p) 0 (omega arith)))

  -- ---- the right end
  module _ (C : ClampedRight row p n) (at : eq x (knot_at row n) ≡ true) where
    right-x : Number x
    right-x = record { fit = f; known = known-eq x (knot_at row n) (K.knot n (omega arith)).known at }

    at_right : Same (place x) (t n)
    at_right = eq_yes x (knot_at row n) right-x (K.knot n (omega arith)) at

    earlier : (j : ℕ) → j < n → Less (t j) (t n)
    earlier j h =
        under (t j) (t (n - 1)) (t n) (ordered row p n K j (n - 1) (omega arith) (omega arith))
        (lt_yes (knot_at row (n - 1)) (knot_at row n) (K.knot (n - 1) (omega arith)) (K.knot n (omega arith)) C.below)

    beneath : (j : ℕ) → j < n → le (knot_at row j) x ≡ true
    beneath j h =
        le_yes (knot_at row j) x (K.knot j (omega arith)) right-x
        (on (t j) (t n) (place x) (not_more (t j) (t n) (earlier j h)) (like (t n) (place x) (back (place x) (t n) at_right)))

    right_in : in_domain row p n x ≡ true
    unfolding in_domain
    right_in =
        let first = beneath p K.some in
        let last = le_yes x (knot_at row n) right-x (K.knot n (omega arith)) (like (place x) (t n) at_right) in
        λ i. first i && last i

    right-span : (m : ℕ) → p + m < n → span_to row p x m ≡ p + m
    unfolding span_to
    right-span zero h = sym (add-zero p)
    right-span (suc m) h = ap (λ (b : Bool). cond b (p + suc m) (span_to row p x m)) (beneath (p + suc m) h)

    right-at : (r j : ℕ) → r ≤ j → j ≤ p → fine_at row p (n - 1) x r j ≡ true
        → Same (place (d_at row p (n - 1) x r j)) (place (control_at row (j + (n - 1) - p)))
    unfolding d_at
    right-at zero j l h e = refl
    right-at (suc r) j l h e =
        let g = parts row p (n - 1) x r j e in
        let i = j + (n - 1) - p in
        let k = j + 1 + (n - 1) - suc r in
        let some = K.some in
        let I : i < n = omega arith in
        let H = K.knot k (omega arith) in
        let m = j - suc r in
        let equal = eq_yes (knot_at row (n + m)) (knot_at row n) (K.knot (n + m) (omega arith)) (K.knot n (omega arith)) (C.equal m (omega arith)) in
        let there : Same (t n) (t k) = subst (λ (m : ℕ). Same (t n) (t m)) (place_of j n r some l) (back (t (n + m)) (t n) equal) in
        via (place (d_at row p (n - 1) x (suc r) j)) (place (d_at row p (n - 1) x r j)) (place (control_at row i))
        (right-step x (knot_at row i) (knot_at row k) (d_at row p (n - 1) x r (j - 1)) (d_at row p (n - 1) x r j) right-x (K.knot i (omega arith)) H
        (fine-known row p (n - 1) x r (j - 1) g.before) (number-at row p (n - 1) x r j (K.control i I) g.here) g.wide
        (via (place x) (t n) (t k) at_right there) (over (t i) (t n) (t k) (earlier i I) (like (t n) (t k) there)))
        (right-at r j (omega arith) h g.here)
      where
        place_of : (j n r : ℕ) → p < n → suc r ≤ j → n + (j - suc r) ≡ j + 1 + (n - 1) - suc r
        place_of j n r s l = omega arith

    pub right_end : spline_fine row p n x ≡ true → eq (spline_at row p n x) (control_at row (n - 1)) ≡ true
    right_end e =
        let span : span_at row p n x ≡ n - 1 = right-span (n - 1 - p) (omega (arith, K.some)) ∙ last p n K.some in
        let fine = fine-on-span row p n x (n - 1) right_in span e in
        let d = d_at row p (n - 1) x p p in
        let c = control_at row (p + (n - 1) - p) in
        ap (λ (z : Float). eq z (control_at row (n - 1))) (on-span row p n x (n - 1) right_in span)
        ∙ same-eq d (control_at row (n - 1)) (number-at row p (n - 1) x p p (K.control (p + (n - 1) - p) (omega (arith, K.some))) fine)
        (K.control (n - 1) (omega (arith, K.some)))
        (via (place d) (place c) (place (control_at row (n - 1))) (right-at p p (le_refl p) (le_refl p) fine)
        (same-control row (p + (n - 1) - p) (n - 1) (omega arith)))
      where
        last : (p n : ℕ) → p < n → p + (n - 1 - p) ≡ n - 1
        last p n h = omega arith
