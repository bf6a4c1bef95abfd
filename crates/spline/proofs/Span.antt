-- The search for the span, a knot at a time from above, and the value on it. Assumes nothing.
use Rattle.std.proofs.Common.{◌≡◌, ℕ, suc, ◌+◌, ◌-◌, ◌<◌, Bool, true, false, cond, List, ap, ◌∙◌, arith}
use lib.Ieee.{Float, le}
use Rattle.exact.specs.Doubles.{nought}
use Rattle.spline.specs.Spline.{knot_at, in_domain, span_to, span_at, d_at}
use Rattle.spline.specs.Value.{spline_at}

pub span-turn : (row : List Float) (p : ℕ) (x : Float) (k : ℕ) (b : Bool) → p < k → le (knot_at row k) x ≡ b
    → span_to row p x (k - p) ≡ cond b k (span_to row p x (k - 1 - p))
unfolding span_to
span-turn row p x k b h t =
    let m = k - 1 - p in
    let e : k - p ≡ suc m = omega arith in
    let g : p + suc m ≡ k = omega arith in
    ap (span_to row p x) e ∙ ap (λ (q : ℕ). cond (le (knot_at row q) x) q (span_to row p x m)) g ∙ ap (λ (s : Bool). cond s k (span_to row p x m)) t

-- ---- the value on the span, and outside of the domain
module _ (row : List Float) (p n : ℕ) (x : Float) where
  pub value-inside : (k : ℕ) (y : Float) → in_domain row p n x ≡ true → k ≡ span_at row p n x → y ≡ d_at row p k x p p → y ≡ spline_at row p n x
  unfolding spline_at
  value-inside k y h e f = rw (h, ← e) f

  pub value-outside : in_domain row p n x ≡ false → nought ≡ spline_at row p n x
  unfolding spline_at
  value-outside h = rw h
