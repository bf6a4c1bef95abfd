-- `naming::all_stand` meets its contract. The invariant: every byte that was passed may stand in a name. Assumes nothing.
use Prim.Native.Nat.{ℕ, ◌<◌}
use mathlib.Core.Path.{◌≡◌}
use mathlib.Core.Bool.{true}
use lib.ListN.{get_or}
use Rattle.naming.specs.Name.{name_byte}
use Rattle.naming.proofs.all_stand.Given as goal

abbrev pub invariant-loop-b : goal.invariant-loop-b
invariant-loop-b l = (k : ℕ) → k < l.b-index → name_byte (get_or l.text k 0) ≡ true
