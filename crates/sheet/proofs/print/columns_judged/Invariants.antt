-- `sheet::print::columns_judged` meets its contract. The invariant: the first bad line is the first of those from k on. Assumes nothing.
use Prim.Native.Nat.{◌≤◌}
use mathlib.Core.List.{[]}
use mathlib.Core.Path.{◌≡◌}
use lib.ListN.{take, drop}
use Rattle.sheet.specs.Sheet.{columns_judged}
use Rattle.sheet.proofs.print.columns_judged.Given as goal

abbrev pub invariant-loop-k : goal.invariant-loop-k
invariant-loop-k l = (l.k ≤ l.count) × (columns_judged [] (take l.count l.names) ≡ columns_judged (take l.k l.names) (drop l.k (take l.count l.names)))
