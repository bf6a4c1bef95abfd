-- `sheet::print::factors_judged` meets its contract. The invariant: the first bad line is the first of those from i on. Assumes nothing.
use Prim.Native.Nat.{◌≤◌}
use mathlib.Core.Path.{◌≡◌}
use lib.ListN.{length, drop}
use Rattle.sheet.specs.Sheet.{factors_judged}
use Rattle.sheet.proofs.print.factors_judged.Given as goal

abbrev pub invariant-loop-i : goal.invariant-loop-i
invariant-loop-i l = (l.i ≤ length l.numbers) × (factors_judged l.count 0 l.numbers ≡ factors_judged l.count l.i (drop l.i l.numbers))
