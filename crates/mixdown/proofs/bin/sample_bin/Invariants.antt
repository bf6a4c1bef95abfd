-- `mixdown::bin::sample_bin` meets its contract. The invariant: the kept pulse and what the runs have left, run from here, come to what the
-- contract says. Assumes nothing.
use Rattle.std.specs.Prelude.{Float, List, length, take, drop}
use Rattle.mixdown.specs.Sampled.{rowed}
use Rattle.mixdown.proofs.Picks.{left}
use Rattle.mixdown.proofs.Binned.{todo, Going}
use Rattle.mixdown.proofs.bin.sample_bin.Given as goal

-- the numbers behind the row's head, as a pulse's addition is handed them
abbrev pub given : List Float → List Float
given row = take 72 (drop 5 row)

abbrev pub invariant-loop-p : goal.invariant-loop-p
invariant-loop-p l =
    let st₀ = rowed l.initial.i l.initial.q l.initial.scratch in
    Going l.s l.b (given l.row) l.tolerance.0 l.work l.marks l.rows (todo l.s l.b (given l.row) l.tolerance.0 l.work l.marks l.rows l.initial.kept l.initial.r l.added st₀) st₀ (rowed l.i l.q l.scratch) l.r l.kept l.held l.n

abbrev pub decreases-loop-p : goal.decreases-loop-p
decreases-loop-p l =
    length (left l.work l.marks l.r)
