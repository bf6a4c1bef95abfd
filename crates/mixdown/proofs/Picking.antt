-- The picking of the next pulse, list by list from the last to the first. Assumes nothing.
use Rattle.std.specs.Prelude.{Option, Some, None}
use Prim.Native.Nat.{ℕ, ◌+◌, ◌≤◌, ◌<◌}
use native.Mathlib.Omega.{arith}
use native.Mathlib.Numerals.{add-one}
use mathlib.Core.Path.{◌≡◌, refl, ap}
use mathlib.Core.Bool.{Bool, true, false, cond}
use mathlib.Core.List.{List}
use lib.Dec.{ltb}
use lib.Ieee.{Float}
use lib.ListN.{length, take, drop, get_or}
use borrow.Author.Tests.{ltb-true}
use Rattle.tables.proofs.Finding.{none_left, next-left}
use Rattle.mixdown.specs.declared.runs.Run.{Run}
use Rattle.mixdown.specs.declared.runs.Picked.{Picked}
use Rattle.mixdown.specs.Runs.{InRows, no_run, picked, is_earlier, advanced_by, better, picked_from}

-- what is picked from none, and from one list more
module _ (work : List (List Float)) (marks : List ℕ) (count : ℕ) (runs : List Run) where
  pub picked_none : None ≡ picked_from work marks count (drop count (take count runs))
  unfolding picked_from
  picked_none = rw (none_left runs count count (omega arith))

  pub picked_more : (k : ℕ) → k < count → k < length runs → better work k (advanced_by marks (get_or runs k no_run)) (get_or runs k no_run).end (picked_from work marks (k + 1) (drop (k + 1) (take count runs))) ≡ picked_from work marks k (drop k (take count runs))
  unfolding picked_from
  picked_more k h e = rw (next-left runs count k no_run h e, add-one k) refl

-- its row is one of the work rows
abbrev at_or : Option Picked → ℕ
at_or (Some q) = q.at
at_or None = 0

pub better-within : (work : List (List Float)) (k at end n : ℕ) (best : Option Picked) → InRows n best → end ≤ n → InRows n (better work k at end best)
better-within work k at end n best h e = record { row = go (ltb at end) refl (is_earlier work best at) }
  where
    go : (b : Bool) → ltb at end ≡ b → (d : Bool) → (q : Picked) → cond b (cond d best (picked k at)) best ≡ Some q → q.at < n
    go false t d q f = h.row q f
    go true t true q f = h.row q f
    go true t false q f = let under = ltb-true at end t in let same : at ≡ q.at = ap at_or f in omega (arith, e, under, same)

pub none-within : (n : ℕ) → InRows n None
none-within n = record { row = λ q e. let z : ◌≡◌ {A = ℕ} 0 1 = cc in absurd (omega arith) }
