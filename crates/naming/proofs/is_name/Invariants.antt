-- `naming::is_name` meets its contract. The invariant: every byte that was passed is in its place. Assumes nothing.
use Prim.Native.Nat.{ℕ, ◌<◌}
use mathlib.Core.Path.{◌≡◌}
use mathlib.Core.Bool.{true}
use lib.ListN.{get_or}
use Rattle.naming.specs.Name.{sixteen, in_place}
use Rattle.naming.proofs.is_name.Given as goal

abbrev pub invariant-loop-i : goal.invariant-loop-i
invariant-loop-i l = (k : ℕ) → k < l.i → in_place l.len k (get_or (sixteen l.first l.second) k 0) ≡ true
