-- Document 01, "Lists and merging": "lists join by time, ties by name position". Definitions only.
use Rattle.std.specs.Prelude.{cond, List, [], ◌∷◌}
use Rattle.std.specs.Float.Ieee.{lt}
use Rattle.pulse.specs.declared.list.Pulse.{Pulse}

-- two lists by time; of equal times the first list's pulse comes first
unfoldable pub joined_two : List Pulse → List Pulse → List Pulse
joined_two [] ys = ys
joined_two (x ∷ xs) [] = x ∷ xs
joined_two (x ∷ xs) (y ∷ ys) = cond (lt y.time.0 x.time.0) (y ∷ joined_two (x ∷ xs) ys) (x ∷ joined_two xs (y ∷ ys))

-- any number of lists
unfoldable pub joined : List (List Pulse) → List Pulse
joined [] = []
joined (l ∷ ls) = joined_two l (joined ls)
