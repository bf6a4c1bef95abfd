-- `bench::show::fill` is safe and ends. Assumes nothing.
use Rattle.std.proofs.Common.{◌≡◌, ◌-◌, length}
use Rattle.bench.proofs.show.fill.Given as goal

abbrev pub invariant-loop-k : goal.invariant-loop-k
invariant-loop-k l = length l.out ≡ length l.initial.out

abbrev pub decreases-loop-k : goal.decreases-loop-k
decreases-loop-k l = length l.part - l.k
