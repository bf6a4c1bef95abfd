-- What is left to do is always `among` of the records up to the slot i.
use Rattle.std.proofs.Common.{◌≡◌, ◌+◌, ◌-◌, ◌≤◌}
use Rattle.pulse.specs.List.{among}
use Rattle.pulse.proofs.list.store.Given as goal

abbrev pub invariant-loop-i : goal.invariant-loop-i
invariant-loop-i l = record {
  above : l.from ≤ l.i;
  within : l.i ≤ l.from + l.count;
  rest : among l.from (l.i - l.from) l.p l.pulses ≡ among l.from l.count l.p l.initial.pulses;
}

abbrev pub decreases-loop-i : goal.decreases-loop-i
decreases-loop-i l = l.i - l.from
