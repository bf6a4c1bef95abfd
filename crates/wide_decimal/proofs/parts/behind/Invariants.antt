-- The digits stand for the figures from i on, behind a point.
use Prim.Native.Nat.{◌-◌, ◌*◌, ◌^◌, ◌≤◌}
use mathlib.Core.Path.{◌≡◌}
use lib.ListN.{length, drop}
use Rattle.wide_decimal.specs.Figures.{worth, without}
use Rattle.wide_decimal.specs.Limbs.{value, weight}
use Rattle.wide_decimal.specs.Near.{Near}
use Rattle.wide_decimal.proofs.parts.behind.Given as goal

abbrev pub invariant-loop-i : goal.invariant-loop-i
invariant-loop-i l =
    (l.first ≤ l.i)
    × (l.i ≤ length (without l.point l.text))
    × (length l.low ≡ length l.fn.low)
    × Near (value l.low) (10 ^ (length (without l.point l.text) - l.i)) (worth (drop l.i (without l.point l.text)) * weight (length l.fn.low))

abbrev pub decreases-loop-i : goal.decreases-loop-i
decreases-loop-i l = l.i
