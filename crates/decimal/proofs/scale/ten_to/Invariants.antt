-- `decimal::scale::ten_to` meets its contract. The invariant: p is the power of ten so far, exactly, since 5 ^ 22 is below 2 ^ 53. Assumes nothing.
use Prim.Native.Nat.{◌^◌}
use mathlib.Core.Bool.{false}
use lib.Ieee.Exact.{HasValue}
use Rattle.decimal.proofs.scale.ten_to.Given as goal

abbrev pub invariant-loop : goal.invariant-loop
invariant-loop l = HasValue l.p false (10 ^ l.counter) 1
