-- `iir::filter::in_cascade` meets its contract. The invariant: the row as it came through all sections is the row now through those from k
-- on. Assumes nothing.
use Prim.Native.Nat.{◌-◌, ◌≤◌}
use mathlib.Core.Path.{◌≡◌}
use lib.ListN.{length}
use Rattle.iir.specs.Section.{sections_from}
use Rattle.iir.specs.Filter.{cascade}
use Rattle.iir.proofs.filter.in_cascade.Given as goal

abbrev pub invariant-loop-k : goal.invariant-loop-k
invariant-loop-k l = (l.k ≤ l.count) × (length l.row ≡ length l.initial.row) × (cascade (sections_from l.numbers (l.count - l.k) l.k) l.row ≡ cascade (sections_from l.numbers l.count 0) l.initial.row)

abbrev pub decreases-loop-k : goal.decreases-loop-k
decreases-loop-k l = l.count - l.k
