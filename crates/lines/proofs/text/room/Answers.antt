-- `lines::text::room` meets its contract, by the library's law of a repeated element. Assumes nothing.
use Prim.Native.Nat.{ℕ}
use mathlib.Core.Path.{sym}
use lib.ListN.{length-replicate}
use Rattle.lines.proofs.text.room.Goals as goal

pub returns-clause-value : goal.returns-clause-value
returns-clause-value c = sym (length-replicate {0} {A = ℕ} 1048576 0)
