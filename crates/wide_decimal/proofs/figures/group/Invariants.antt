-- The figures before the i-th are gone through.
use Prim.Native.Nat.{◌-◌}
use mathlib.Core.Path.{◌≡◌}
use lib.ListN.{take, drop}
use Rattle.wide_decimal.specs.Figures.{worth, without}
use Rattle.wide_decimal.proofs.figures.group.Given as goal

abbrev pub invariant-loop-i : goal.invariant-loop-i
invariant-loop-i l = l.all ≡ worth (take (l.i - l.k) (drop l.k (without l.point l.text)))
