use Rattle.mixdown.proofs.Listed.{by_runs, merged-few, seen_step, new-step, refused-step, list-end}
use Rattle.mixdown.proofs.Held.{rows-many, rows_at}
use Rattle.mixdown.proofs.Appeared.{parts-length}
use Rattle.mixdown.proofs.Sizes.{eight-places, eight-factors}
use Rattle.mixdown.specs.Starts.{bins_held, merged_in}
use Rattle.mixdown.specs.Sampled.{rowed, out, ran_pulses}
use Rattle.tables.proofs.Sizes.{eight_channels}
use Rattle.tables.specs.declared.Tables.{Tables}
use Rattle.quant.proofs.Judging.{taken, passed}
use Rattle.quant.specs.Refusal.{Answer}
use Rattle.pulse.specs.Bin.{bin_of, numbers_of}
use Rattle.merge.specs.Taking.{parts_in}
use Rattle.commands.specs.Play.{rows_of}
use mathlib.Core.Bool.{not}
use Rattle.std.specs.Prelude.{Float, Err}
use Rattle.std.proofs.Common.{◌≡◌, ℕ, ◌+◌, ◌*◌, ◌<◌, List, [], length, get_or, sym, ap, ◌∙◌, arith, rules}
use Rattle.mixdown.proofs.lists.sample_list.Goals.{then-not-seen+in_ok-n, else-not-seen}
use Rattle.mixdown.proofs.lists.sample_list.Goals as goal

-- a bin that is left is one of the list's
module _ (t : Tables) (bins : List (List Float)) (place p many : ℕ) (eight : length t.channels ≡ 8) (whole : length bins ≡ 512) (is : many ≡ bins_held t place) (h : p < many) where
  in-its : p < length (rows_of t bins place)
  in-its = let long = rows-many t bins place eight whole in omega (arith, long, is, h)

  row_is : get_or bins (64 * place + p) [] ≡ get_or (rows_of t bins place) p []
  row_is = sym (rows_at t bins place p (rw (← is) h))

pub loop-p-preserved : goal.loop-p-preserved
loop-p-preserved c =
    let a = c.args in
    let place = get_or a.taking.places a.k 0 in
    let p = c.loop-p.p in
    let eight = eight_channels a.t _ c.well_formed.1.0 in
    let inside = in-its a.t a.bins.now place p _ eight c.requires.bins_len.0 c.bins_held-many.ensures c.loop-p-test.true in
    let row = row_is a.t a.bins.now place p _ eight c.requires.bins_len.0 c.bins_held-many.ensures c.loop-p-test.true in
    let here = get_or (rows_of a.t a.bins.now place) p [] in
    let parts = parts_in a.taking in
    elim c.if-not-seen.branch [
      | then-not-seen+in_ok-n w ↦
          let many = parts-length a.taking (eight-places a.taking _ c.well_formed.1.1.0) (eight-factors a.taking _ c.well_formed.1.1.0) c.requires.bins_len.3 in
          let few = merged-few a.t a.bins.now a.work.now a.marks.now parts a.ends.ends here c.requires.bins_len.1 c.requires.bins_len.2 (omega (arith, many, c.requires.bins_len.3)) in
          let after = rowed w.sample_bin.new.i w.sample_bin.new.q w.sample_bin.new.scratch in
          let came_to : out w.sample_bin.result after ≡ ran_pulses a.s (bin_of here) (numbers_of here) a.rows (merged_in a.t a.bins.now a.work.now a.marks.now parts a.ends.ends here) c.loop-p.n (rowed c.loop-p.i c.loop-p.q c.loop-p.scratch) =
          by_runs a.s a.t a.bins.now a.work.now a.marks.now parts a.ends.ends a.rows c.loop-p.n _ w.runs_for-runs.result _ _ w.runs_for-runs.ensures.0 w.sample_bin.ensures
          ∙ ap (λ (r : List Float). ran_pulses a.s (bin_of r) (numbers_of r) a.rows (merged_in a.t a.bins.now a.work.now a.marks.now parts a.ends.ends r) c.loop-p.n (rowed c.loop-p.i c.loop-p.q c.loop-p.scratch)) row in
          rw (w.i-is, w.q-is, w.scratch-is, w.n-is) (new-step c.loop-p.invariant c.requires.q_value.1 few inside (rw (← row) (taken _ _ c.seen.ensures (ap not w.if-not-seen.true))) _ _ (ap (λ (x : Answer). out x after) (sym w.in_ok-n.was) ∙ came_to))
      | else-not-seen w ↦ rw (w.i-is, w.q-is, w.scratch-is, w.n-is) (seen_step c.loop-p.invariant inside (rw (← row) (passed _ _ c.seen.ensures (ap not w.if-not-seen.false))))
    ]

pub returns-in_err-n : goal.returns-in_err-n
returns-in_err-n c =
    let a = c.args in
    let place = get_or a.taking.places a.k 0 in
    let p = c.loop-p.p in
    let eight = eight_channels a.t _ c.well_formed.1.0 in
    let inside = in-its a.t a.bins.now place p _ eight c.requires.bins_len.0 c.bins_held-many.ensures c.loop-p-test.true in
    let row = row_is a.t a.bins.now place p _ eight c.requires.bins_len.0 c.bins_held-many.ensures c.loop-p-test.true in
    let here = get_or (rows_of a.t a.bins.now place) p [] in
    let parts = parts_in a.taking in
    let after = rowed c.sample_bin.new.i c.sample_bin.new.q c.sample_bin.new.scratch in
    let came_to : out c.sample_bin.result after ≡ ran_pulses a.s (bin_of here) (numbers_of here) a.rows (merged_in a.t a.bins.now a.work.now a.marks.now parts a.ends.ends here) c.loop-p.n (rowed c.loop-p.i c.loop-p.q c.loop-p.scratch) =
    by_runs a.s a.t a.bins.now a.work.now a.marks.now parts a.ends.ends a.rows c.loop-p.n _ c.runs_for-runs.result _ _ c.runs_for-runs.ensures.0 c.sample_bin.ensures
    ∙ ap (λ (r : List Float). ran_pulses a.s (bin_of r) (numbers_of r) a.rows (merged_in a.t a.bins.now a.work.now a.marks.now parts a.ends.ends r) c.loop-p.n (rowed c.loop-p.i c.loop-p.q c.loop-p.scratch)) row in
    let same : c.from_residual.result ≡ Err c.in_err-n.field-0.0 = search rules in
    rw same (refused-step c.loop-p.invariant inside (rw (← row) (taken _ _ c.seen.ensures (ap not c.if-not-seen.true))) _ _ (ap (λ (x : Answer). out x after) (sym c.in_err-n.was) ∙ came_to))

pub returns : goal.returns
returns c =
    let a = c.args in
    let long = rows-many a.t a.bins.now (get_or a.taking.places a.k 0) (eight_channels a.t _ c.well_formed.1.0) c.requires.bins_len.0 in
    list-end c.loop-p.invariant (omega (arith, long, c.bins_held-many.ensures, c.loop-p-test.false))
