-- What is left to run is always `still` of the commands behind the first k, the tables and the two lent slices.
use Rattle.std.proofs.Common.{◌≡◌}
use Rattle.commands.specs.Run.{executed}
use Rattle.commands.proofs.Turns.{still}
use Rattle.commands.proofs.execute.execute.Given as goal

abbrev pub invariant-loop-k : goal.invariant-loop-k
invariant-loop-k l =
    still l.commands l.k l.u l.splines l.bins l.pulses ≡ executed l.fn.t l.fn.splines l.fn.commands l.fn.bins l.fn.pulses
