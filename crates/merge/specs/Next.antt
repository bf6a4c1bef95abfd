-- Joined lists, taken one pulse at a time: which list's head comes next, and the lists without it. Definitions only; that this is `joined` is
-- a law (`proofs/Next.antt`).
use Rattle.std.specs.Prelude.{ℕ, zero, suc, cond, List, [], ◌∷◌}
use Rattle.std.proofs.Math.Option.{Option, none, some}
use Rattle.std.specs.Float.Ieee.{lt}
use Rattle.pulse.specs.declared.list.Pulse.{Pulse}

-- a list before those that `best` was found in: empty, or with the head x, which takes over unless the best is earlier
abbrev pub passed : Option (ℕ × Pulse) → Option (ℕ × Pulse)
passed none = none
passed (some (k, y)) = some (suc k, y)

abbrev pub against : Pulse → Option (ℕ × Pulse) → Option (ℕ × Pulse)
against x none = some (0, x)
against x (some (k, y)) = cond (lt y.time.0 x.time.0) (some (suc k, y)) (some (0, x))

-- the place of the list whose head comes next, and the head
unfoldable pub best_from : List (List Pulse) → Option (ℕ × Pulse)
best_from [] = none
best_from ([] ∷ ls) = passed (best_from ls)
best_from ((x ∷ l) ∷ ls) = against x (best_from ls)

-- the lists without the head of list k
unfoldable pub popped : ℕ → List (List Pulse) → List (List Pulse)
popped k [] = []
popped zero ([] ∷ ls) = [] ∷ ls
popped zero ((x ∷ l) ∷ ls) = l ∷ ls
popped (suc k) (l ∷ ls) = l ∷ popped k ls
