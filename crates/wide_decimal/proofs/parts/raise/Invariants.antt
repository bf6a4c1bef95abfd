-- i zeros stand behind it.
use Prim.Native.Nat.{◌-◌, ◌*◌, ◌^◌, ◌≤◌, ◌<◌}
use mathlib.Core.Path.{◌≡◌}
use lib.ListN.{length}
use Rattle.wide_decimal.specs.Limbs.{value, weight}
use Rattle.wide_decimal.proofs.parts.raise.Given as goal

abbrev pub invariant-loop-i : goal.invariant-loop-i
invariant-loop-i l =
    (l.i ≤ l.most) × (length l.high ≡ length l.fn.high) × (value l.high ≡ value l.fn.high * 10 ^ l.i) × (0 < l.i → value l.high < weight (length l.fn.high))

abbrev pub decreases-loop-i : goal.decreases-loop-i
decreases-loop-i l = l.most - l.i
