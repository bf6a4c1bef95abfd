-- `bench::words::misnamed` is safe and ends: at most eight names are passed. Assumes nothing.
use Rattle.std.proofs.Common.{◌-◌}
use Rattle.bench.proofs.words.misnamed.Given as goal

abbrev pub invariant-loop-k : goal.invariant-loop-k
invariant-loop-k l = Unit {0}

abbrev pub decreases-loop-k : goal.decreases-loop-k
decreases-loop-k l = 8 - l.k
