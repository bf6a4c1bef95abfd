-- The invariant: what is left after k lists is laid over the rows from `at` on, and over the ends from k on.
use Rattle.std.proofs.Common.{◌≡◌, ◌*◌, ◌≤◌, length}
use Rattle.merge.specs.Taking.{parts_in}
use Rattle.merge.specs.Work.{gathered_of}
use Rattle.merge.specs.Keep.{lists_in}
use Rattle.merge.proofs.Lists.{lists, still}
use Rattle.merge.proofs.work.sum_lists.Given as goal

abbrev pub invariant-loop-k : goal.invariant-loop-k
invariant-loop-k l = record {
  within : l.k ≤ lists_in l.taking;
  near : l.at ≤ 1024 * l.k;
  long_e : length l.ends.ends ≡ 8;
  left : still (lists l.t l.taking l.pulses) l.k l.at l.work l.marks l.ends.ends
      ≡ gathered_of l.t (parts_in l.taking) l.pulses l.initial.work l.initial.marks;
}
