-- `decimal::digits::follow` meets its contract. The invariant: what is read from here on is what was to be read, and there is room for the digits left. Assumes nothing.
use Prim.Native.Nat.{◌+◌, ◌-◌, ◌*◌, ◌^◌, ◌≤◌}
use mathlib.Core.Path.{◌≡◌}
use lib.ListN.{length, drop}
use Rattle.decimal.specs.Digits.{digits_from}
use Rattle.decimal.proofs.digits.follow.Given as goal

abbrev pub invariant-loop-b : goal.invariant-loop-b
invariant-loop-b l =
    ((l.n + 1) * l.base ^ (length l.text - l.b-index) ≤ 2 ^ 64)
    × (digits_from l.base l.n (drop l.b-index l.text) ≡ digits_from l.base l.start l.text)
