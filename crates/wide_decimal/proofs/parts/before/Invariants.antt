-- The digits are the first i figures as a whole number.
use Prim.Native.Nat.{◌-◌, ◌≤◌}
use mathlib.Core.Path.{◌≡◌}
use lib.ListN.{length, take}
use Rattle.wide_decimal.specs.Figures.{worth, without}
use Rattle.wide_decimal.specs.Limbs.{value}
use Rattle.wide_decimal.proofs.parts.before.Given as goal

abbrev pub invariant-loop-i : goal.invariant-loop-i
invariant-loop-i l = (l.i ≤ l.first) × (length l.high ≡ length l.fn.high) × (value l.high ≡ worth (take l.i (without l.point l.text)))

abbrev pub decreases-loop-i : goal.decreases-loop-i
decreases-loop-i l = l.first - l.i
