-- `sheet::print::needed` meets its contract. The invariant: with the lines that are left the size is the whole. Assumes nothing.
use Prim.Native.Nat.{◌+◌, ◌*◌}
use mathlib.Core.Path.{◌≡◌}
use lib.ListN.{drop}
use Rattle.sheet.specs.Puts.{names_size}
use Rattle.sheet.proofs.print.needed.Given as goal

abbrev pub invariant-loop-n : goal.invariant-loop-n
invariant-loop-n l = l.size + names_size (drop l.n-index l.n-items) ≡ 11 + 24 * (l.count * l.count) + names_size l.n-items
