-- `mixdown::lists::sample_lists` meets its contract. Assumes nothing.
use Rattle.mixdown.proofs.Allbins.{Listings}
use Rattle.mixdown.specs.Sampled.{rowed, ran_bins}
use Rattle.mixdown.specs.Starts.{merged_in}
use Rattle.mixdown.specs.Bins.{all_rows, firsts_after}
use Rattle.merge.specs.Taking.{parts_in}
use Prim.Native.Nat.{◌-◌}
use mathlib.Core.List.{[]}
use Rattle.mixdown.proofs.lists.sample_lists.Given as goal

abbrev pub invariant-loop-k : goal.invariant-loop-k
invariant-loop-k l =
    let merged = merged_in l.t l.bins l.work l.marks (parts_in l.taking) l.ends.ends in
    Listings l.s l.rows merged l.t l.bins (parts_in l.taking) (ran_bins l.s l.rows merged (firsts_after [] (all_rows l.t l.bins (parts_in l.taking))) 0 (rowed l.initial.i l.initial.q l.initial.scratch)) (rowed l.initial.i l.initial.q l.initial.scratch) (rowed l.i l.q l.scratch) l.n l.k

abbrev pub decreases-loop-k : goal.decreases-loop-k
decreases-loop-k l = l.taking.count - l.k
