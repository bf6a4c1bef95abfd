-- Joined lists one pulse at a time: the best head comes first, and what follows it is the lists joined without it. Of any lists, sorted or
-- not, by induction on how many there are. Assumes nothing.
use Prim.Native.Nat.{ℕ, suc}
use mathlib.Core.Path.{◌≡◌, refl}
use mathlib.Core.Bool.{Bool, true, false, cond}
use mathlib.Core.List.{List, [], ◌∷◌}
use mathlib.Core.Option.{Option, none, some}
use lib.Ieee.{lt}
use Rattle.pulse.specs.declared.list.Pulse.{Pulse}
use Rattle.merge.specs.Join.{joined_two, joined}
use Rattle.merge.specs.Next.{passed, against, best_from, popped}

pub joined-none : (l : List Pulse) → joined_two l [] ≡ l
unfolding joined_two
joined-none [] = refl
joined-none (x ∷ l) = refl

-- one list joined is itself
pub joined-one : (l : List Pulse) → joined (l ∷ []) ≡ l
unfolding joined
joined-one l = joined-none l

-- the pulse at hand, then the lists without it joined
abbrev pub taken : Option (ℕ × Pulse) → List (List Pulse) → List Pulse
taken none ls = []
taken (some (k, x)) ls = x ∷ joined (popped k ls)

past : (best : Option (ℕ × Pulse)) (ls : List (List Pulse)) → joined ls ≡ taken best ls → joined ([] ∷ ls) ≡ taken (passed best) ([] ∷ ls)
unfolding joined joined_two popped
past none ls e = e
past (some (k, x)) ls e = e

held : (x : Pulse) (l : List Pulse) (best : Option (ℕ × Pulse)) (ls : List (List Pulse)) → joined ls ≡ taken best ls → joined ((x ∷ l) ∷ ls) ≡ taken (against x best) ((x ∷ l) ∷ ls)
unfolding joined joined_two popped
held x l none ls e = rw (e, joined-none l)
held x l (some (k, y)) ls e = rw e (either (lt y.time.0 x.time.0)) where
  either : (b : Bool) → cond b (y ∷ joined_two (x ∷ l) (joined (popped k ls))) (x ∷ joined_two l (y ∷ joined (popped k ls))) ≡ taken (cond b (some (suc k, y)) (some (0, x))) ((x ∷ l) ∷ ls)
  either true = refl
  either false = rw e

pub next-joined : (ls : List (List Pulse)) → joined ls ≡ taken (best_from ls) ls
unfolding best_from joined
next-joined [] = refl
next-joined ([] ∷ ls) = past (best_from ls) ls (next-joined ls)
next-joined ((x ∷ l) ∷ ls) = held x l (best_from ls) ls (next-joined ls)

-- the same by cases
pub joined-done : (ls : List (List Pulse)) → best_from ls ≡ none → joined ls ≡ []
joined-done ls e = rw e at (next-joined ls)

pub joined-next : (ls : List (List Pulse)) (k : ℕ) (x : Pulse) → best_from ls ≡ some (k, x) → joined ls ≡ x ∷ joined (popped k ls)
joined-next ls k x e = rw e at (next-joined ls)
