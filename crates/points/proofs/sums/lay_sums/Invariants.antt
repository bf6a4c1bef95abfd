-- The points stored so far and those that are left make up the part, and high and low stand where the exact sums do before the next point.
use Rattle.std.proofs.Common.{◌≡◌, ◌-◌, ◌≤◌, ◌++◌, length, take}
use Rattle.points.specs.Points.{points}
use Rattle.points.specs.Grid.{OnGrid}
use Rattle.points.proofs.Adding.{At}
use Rattle.points.proofs.sums.lay_sums.Given as goal

abbrev pub invariant-loop-p : goal.invariant-loop-p
invariant-loop-p l =
    (l.p-index ≤ length l.part)
    × (length l.part ≡ length l.fn.part)
    × (take l.p-index l.part ++ points (length l.fn.part - l.p-index) l.p-index l.x l.dx ≡ points (length l.fn.part - 0) 0 l.x l.dx)
    × ((o : OnGrid (length l.fn.part) l.x l.dx) → At (length l.fn.part) l.x l.dx o l.p-index l.high l.low)
