-- The ends of a spline that was stored: where its knots are clamped, its value at the domain's ends equals its first and its last control.
-- Assumes nothing.
use Rattle.std.proofs.Common.{◌≡◌, ℕ, ◌+◌, ◌-◌, ◌<◌, ◌≤◌, true, false, T, List, length, get_or, sym, ap, ◌∙◌, subst, add-one, arith}
use lib.Ieee.{Float, nan, binary64, fits, lt, eq}
use Rattle.exact.proofs.Truth.{both}
use Rattle.spline.specs.Spline.{not_falling, counts_fit, is_spline, knot_at}
use Rattle.spline.specs.Row.{row_of}
use Rattle.spline.specs.Value.{value_in, fine_in}
use Rattle.spline.proofs.Falls.{not-falling-at}
use Rattle.spline.proofs.Places.{Number}
use Rattle.spline.proofs.Stored.{Counts, counts_of, spline-counts, stored-control, stored-knot, stored_at, stored-fine}
use Rattle.spline.proofs.Knots.{Rising}
use Rattle.spline.proofs.Clamped.{left_end, right_end}

module _ (p : ℕ) (c t : List Float) (e : is_spline p (length c) t ≡ true)
    (C : (i : ℕ) → i < length c → Number (get_or c i nan)) (N : (i : ℕ) → i < length t → Number (get_or t i nan)) where
  abbrev row : List Float
  row = row_of p c t

  abbrev n : ℕ
  n = length c

  counts : counts_fit p n (length t) ≡ true
  counts = spline-counts p n t e

  fit : Counts p n (length t)
  fit = counts_of p n (length t) counts

  knot-at : (i : ℕ) → i ≤ n + p → knot_at row i ≡ get_or t i nan
  knot-at i h = stored-knot p c t counts i (omega (arith, fit.known))

  pub stored-rising : Rising row p n
  unfolding is_spline
  stored-rising =
      record {
        some = fit.sizes.some;
        control = λ i h. subst Number (sym (stored-control p c t counts i h)) (C i h);
        knot = λ i h. subst Number (sym (knot-at i h)) (N i (omega (arith, fit.known)));
        rises = step;
      }
    where
      step : (i : ℕ) → i < n + p → lt (knot_at row (i + 1)) (knot_at row i) ≡ false
      step i h =
          (λ k. lt (knot-at (i + 1) (omega arith) k) (knot-at i (omega arith) k))
          ∙ rw add-one (not-falling-at t i (both (counts_fit p n (length t)) (not_falling t) e).1 (omega (arith, fit.known)))

  module _ (x : Float) (f : T (fits binary64 x)) (fine : fine_in row x ≡ true) where
    -- the first p + 1 knots are equal, the next one is above them, and x equals them
    pub stored-left : ((i : ℕ) → i ≤ p → eq (get_or t i nan) (get_or t p nan) ≡ true) → lt (get_or t p nan) (get_or t (p + 1) nan) ≡ true
        → eq x (get_or t p nan) ≡ true → eq (value_in row x) (get_or c 0 nan) ≡ true
    stored-left equal above at =
        let some = fit.sizes.some in
        let end = knot-at p (omega arith) in
        (λ i. eq (stored_at p c t counts x i) (sym (stored-control p c t counts 0 (omega arith)) i))
        ∙ left_end row p n stored-rising x f
        (record {
          equal = λ i h. (λ k. eq (knot-at i (omega arith) k) (end k)) ∙ equal i h;
          above = (λ k. lt (end k) (knot-at (p + 1) (omega arith) k)) ∙ above;
        }) (ap (λ (z : Float). eq x z) end ∙ at) (sym (stored-fine p c t counts x) ∙ fine)

    -- the last p + 1 knots are equal, the one before is below them, and x equals them
    pub stored-right : ((i : ℕ) → i ≤ p → eq (get_or t (n + i) nan) (get_or t n nan) ≡ true) → lt (get_or t (n - 1) nan) (get_or t n nan) ≡ true
        → eq x (get_or t n nan) ≡ true → eq (value_in row x) (get_or c (n - 1) nan) ≡ true
    stored-right equal below at =
        let some = fit.sizes.some in
        let end = knot-at n (omega arith) in
        (λ i. eq (stored_at p c t counts x i) (sym (stored-control p c t counts (n - 1) (omega arith)) i))
        ∙ right_end row p n stored-rising x f
        (record {
          equal = λ i h. (λ k. eq (knot-at (n + i) (omega arith) k) (end k)) ∙ equal i h;
          below = (λ k. lt (knot-at (n - 1) (omega arith) k) (end k)) ∙ below;
        }) (ap (λ (z : Float). eq x z) end ∙ at) (sym (stored-fine p c t counts x) ∙ fine)
