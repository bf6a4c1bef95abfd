-- What is told of all sections is what is told of those from k on.
use Prim.Native.Nat.{◌-◌, ◌/◌}
use mathlib.Core.Path.{◌≡◌}
use lib.ListN.{length}
use Rattle.iir.specs.Section.{a0s_from}
use Rattle.iir.proofs.biquad.a0s_judged.Given as goal

abbrev pub invariant-loop-k : goal.invariant-loop-k
invariant-loop-k l = let count = length l.numbers / 6 in a0s_from l.numbers count 0 ≡ a0s_from l.numbers (count - l.k) l.k
