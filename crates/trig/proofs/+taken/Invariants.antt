-- The measure: d doubles, and is at most r where the call goes on.
use Rattle.std.proofs.Common.{◌+◌, ◌-◌}
use Rattle.exact.specs.Value.{units_of}
use Rattle.trig.proofs.+taken.Given as goal

abbrev pub decreases-taken : goal.decreases-taken
decreases-taken l = units_of l.r + 1 - units_of l.d
