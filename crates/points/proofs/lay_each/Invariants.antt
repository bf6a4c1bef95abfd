-- The points stored so far and those that are left make up the part.
use Rattle.std.proofs.Common.{◌≡◌, ◌-◌, ◌≤◌, ◌++◌, length, take}
use Rattle.points.specs.Points.{points}
use Rattle.points.proofs.lay_each.Given as goal

abbrev pub invariant-loop-i : goal.invariant-loop-i
invariant-loop-i l = (l.i ≤ length l.part) × (length l.part ≡ length l.fn.part) × (take l.i l.part ++ points (length l.fn.part - l.i) l.i l.x l.dx ≡ points (length l.fn.part) 0 l.x l.dx)
