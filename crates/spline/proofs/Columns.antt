-- The six numbers of the triangle, a store at a time. Assumes nothing.
use Rattle.std.proofs.Common.{◌≡◌, ℕ, suc, ◌+◌, ◌-◌, ◌<◌, ◌≤◌, List, length, get_or, set, ◌∙◌, ⊎_elim, eq-or-lt_of_le, arith, length-set, get_or-set_other, get_or-set_same}
use lib.Ieee.{Float, nan}
use Rattle.spline.specs.Spline.{control_at, knot_at, blend_of, d_at}
use Rattle.spline.specs.Walk.{Column, Within}

-- the first j controls of the span are loaded
pub record Loaded (row : List Float) (p k : ℕ) (d : List Float) (j : ℕ) : Type 0 where
  pub within : j ≤ p + 1
  pub six : length d ≡ 6
  pub at : (m : ℕ) → m < j → get_or d m nan ≡ control_at row (m + k - p)

pub loaded-all : (row : List Float) (p k : ℕ) (x : Float) (d : List Float) (j : ℕ) → p < j → Loaded row p k d j → Column row p k x 0 d
unfolding d_at
loaded-all row p k x d j h i = record { six = i.six; at = λ m _ l. i.at m (omega arith) }

-- from column r to the next, those above j are done
pub record Turned (row : List Float) (p k : ℕ) (x : Float) (r : ℕ) (d : List Float) (j : ℕ) : Type 0 where
  pub from : r ≤ j
  pub to : j ≤ p
  pub six : length d ≡ 6
  pub done : (m : ℕ) → j < m → m ≤ p → get_or d m nan ≡ d_at row p k x (suc r) m
  pub left : (m : ℕ) → r ≤ m → m ≤ j → get_or d m nan ≡ d_at row p k x r m

module _ (row : List Float) (p k : ℕ) (x : Float) (r : ℕ) (d : List Float) (j : ℕ) (w : Within p k) (h : r < j) (i : Turned row p k x r d j) where
  at_least : (m : ℕ) → j - 1 < m → j ≤ m
  at_least m l = omega arith

  node : (lo hi v : Float) → lo ≡ knot_at row (j + k - p) → hi ≡ knot_at row (j + k - r) → v ≡ blend_of x lo hi (get_or d (j - 1) nan) (get_or d j nan)
      → v ≡ d_at row p k x (suc r) j
  unfolding d_at
  node lo hi v a b e =
      let place : j + k - r ≡ j + 1 + k - suc r = omega arith in
      e ∙ rw (a, b, place, i.left (j - 1) (omega arith) (omega arith), i.left j (omega arith) (omega arith))

  stored : (v : Float) → v ≡ d_at row p k x (suc r) j → (m : ℕ) → j ≡ m → get_or (set d j v) m nan ≡ d_at row p k x (suc r) m
  stored v e m q = rw (← q) (get_or-set_same d j v nan (omega (arith, i.six, i.to, w.degree)) ∙ e)

  pub turned_more : (lo hi v : Float) → lo ≡ knot_at row (j + k - p) → hi ≡ knot_at row (j + k - r)
      → v ≡ blend_of x lo hi (get_or d (j - 1) nan) (get_or d j nan) → Turned row p k x r (set d j v) (j - 1)
  turned_more lo hi v a b e =
      record {
        from = omega arith;
        to = omega (arith, i.to);
        six = length-set d j v ∙ i.six;
        done = λ m l u.
            ⊎_elim (stored v (node lo hi v a b e) m) (λ (q : j < m). get_or-set_other d j m v nan (λ z. omega arith) ∙ i.done m q u)
            (eq-or-lt_of_le (at_least m l));
        left = λ m l u. get_or-set_other d j m v nan (λ z. omega arith) ∙ i.left m l (omega arith);
      }
