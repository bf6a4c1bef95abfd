-- `bench::sentence::line_at` is safe and ends. Assumes nothing.
use Rattle.std.proofs.Common.{◌-◌, length}
use Rattle.bench.proofs.sentence.line_at.Given as goal

abbrev pub invariant-loop-k : goal.invariant-loop-k
invariant-loop-k l = Unit {0}

abbrev pub decreases-loop-k : goal.decreases-loop-k
decreases-loop-k l = length l.text - l.k
