-- `mixdown::lists::sample_list` meets its contract. Assumes nothing.
use Rattle.mixdown.proofs.Listed.{Listing}
use Rattle.mixdown.specs.Sampled.{rowed, ran_bins}
use Rattle.mixdown.specs.Starts.{merged_in}
use Rattle.mixdown.specs.Bins.{all_rows, firsts_after}
use Rattle.merge.specs.Taking.{parts_in}
use Rattle.commands.specs.Play.{rows_of}
use lib.ListN.{take}
use Prim.Native.Nat.{◌-◌}
use Rattle.mixdown.proofs.lists.sample_list.Given as goal

abbrev pub invariant-loop-p : goal.invariant-loop-p
invariant-loop-p l =
    let merged = merged_in l.t l.bins l.work l.marks (parts_in l.taking) l.ends.ends in
    let before = all_rows l.t l.bins (take l.k (parts_in l.taking)) in
    Listing l.s l.rows merged before (rows_of l.t l.bins l.at) (ran_bins l.s l.rows merged (firsts_after before (rows_of l.t l.bins l.at)) l.added (rowed l.initial.i l.initial.q l.initial.scratch)) (rowed l.initial.i l.initial.q l.initial.scratch) l.added (rowed l.i l.q l.scratch) l.n l.p

abbrev pub decreases-loop-p : goal.decreases-loop-p
decreases-loop-p l =
    l.many - l.p
