-- Each turn passes a word of the form.
use Rattle.std.proofs.Common.{◌-◌}
use Rattle.bench.proofs.fault.first_fault.Given as goal

abbrev pub decreases-loop-k : goal.decreases-loop-k
decreases-loop-k l = l.wanted - l.k
