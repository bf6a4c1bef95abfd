-- What the tests of all controls and of all knots of a row say of it. Assumes nothing.
use Rattle.std.proofs.Common.{◌≡◌, ℕ, ◌+◌, ◌<◌, ◌≤◌, true, List, length, get_or, add-one, arith}
use Rattle.std.specs.List.{between}
use Rattle.std.proofs.lemmas.List.Edits.{get_or-between, length-between}
use lib.Ieee.{Float, nan}
use Rattle.spline.specs.Spline.{Sizes, not_falling}
use Rattle.spline.specs.Walk.{Tamed, Tame}
use Rattle.spline.proofs.Falls.{not-falling-at}

abbrev pub AllTamed : List Float → Type 0
AllTamed l = (i : ℕ) → i < length l → Tamed (get_or l i nan)

part-tamed : (l : List Float) (i j k : ℕ) → j ≤ length l → i + k < j → AllTamed (between i j l) → Tamed (get_or l (i + k) nan)
part-tamed l i j k h g t = rw get_or-between at (t k (omega (arith, length-between l i j h)))

pub tested : (row : List Float) (p n : ℕ) → length row ≡ 72 → Sizes p n → AllTamed (between 2 (2 + n) row) → AllTamed (between 34 (35 + n + p) row)
    → not_falling (between 34 (35 + n + p) row) ≡ true → Tame row p n
tested row p n l s c t f =
    record {
      control = λ i h. part-tamed row 2 (2 + n) i (omega arith) (omega arith) c;
      knot = λ i h. part-tamed row 34 (35 + n + p) i (omega arith) (omega arith) t;
      rises = λ i h.
          let e = 35 + n + p in
          rw (← get_or-between row 34 e (i + 1) nan (omega arith), ← get_or-between row 34 e i nan (omega arith), add-one)
          (not-falling-at _ i f (omega (arith, length-between row 34 e (omega arith))));
    }
