-- `naming::write` meets its contract. The invariant: the first `put` bytes of the name stand in the text that came. Assumes nothing.
use Prim.Native.Nat.{ℕ, ◌≤◌}
use mathlib.Core.Path.{◌≡◌}
use mathlib.Core.List.{List}
use lib.ListN.{length}
use lib.Seq.{paste}
use Rattle.naming.specs.Name.{sixteen}
use Rattle.naming.proofs.write.Given as goal

-- what is known once i of len bytes are written
pub record Put (bytes text : List ℕ) (at len : ℕ) (out : List ℕ) (i : ℕ) : Type 0 where
  pub within : i ≤ len
  pub long : length out ≡ length text
  pub is : out ≡ paste text at bytes i

abbrev pub invariant-loop-put : goal.invariant-loop-put
invariant-loop-put l = Put (sixteen l.first l.second) l.initial.out l.at l.len l.out l.put
