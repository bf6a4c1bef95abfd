use Rattle.mixdown.proofs.Numbers.{numbers-all}
use Rattle.mixdown.proofs.Sizes.{eight-runs}
use Rattle.mixdown.proofs.Marked.{pulses-length}
use Rattle.mixdown.proofs.Picks.{left, pulse_of, Ready, picked-list, picked-row, picked_next, picked_none, ready-next}
use Rattle.mixdown.proofs.Binned.{todo, less, near-turn, on-turn, refused-turn, on-last, refused-last, few, summed-first, summed-none, ran-none}
use Rattle.mixdown.proofs.bin.sample_bin.Invariants.{given}
use Rattle.mixdown.specs.declared.runs.Runs.{Runs}
use Rattle.mixdown.specs.declared.runs.Picked.{Picked}
use Rattle.mixdown.specs.Runs.{Within, pulses_in, picked_in, moved_on}
use Rattle.mixdown.specs.Sampled.{Rowed, ran_pulses}
use Rattle.merge.specs.Sum.{together, summed_by, summed_again}
use Rattle.pulse.specs.declared.bin.Bin.{Bin}
use Rattle.pulse.specs.declared.list.Pulse.{Pulse}
use Rattle.pulse.specs.Bin.{bin_of, numbers_of}
use Rattle.quant.specs.declared.settings.Settings.{Settings}
use Rattle.std.specs.Prelude.{Float, Some}
use Rattle.std.proofs.Common.{◌≡◌, ℕ, ◌≤◌, List, length, refl, sym, ap, ◌∙◌, arith, rules}
use Rattle.mixdown.proofs.bin.sample_bin.Goals as goal

ready : (work : List (List Float)) (marks : List ℕ) (r : Runs) → (length work ≡ 8192) × (length marks ≡ 8192) × (r.count ≤ 8) × Within r.runs → length r.runs ≡ 8 → Ready work marks r
ready work marks r q eight = record { rows-full = q.0; marks-full = q.1; most = q.2; long = eight; within = q.3 }

-- what was to do before the loop is what the contract says
finish : (s : Settings) (row : List Float) (tolerance : Float) (work : List (List Float)) (marks : List ℕ) (rows : ℕ) (runs : Runs) (p : Picked) (n : ℕ) (st : Rowed) (b : Bin) (kept : Pulse) (r : Runs)
    → length row ≡ 77 → Ready work marks runs → picked_in work marks runs ≡ Some p → b ≡ bin_of row → kept ≡ pulse_of work marks runs p → r ≡ moved_on marks runs p
    → todo s b (given row) tolerance work marks rows kept r n st ≡ ran_pulses s (bin_of row) (numbers_of row) rows (summed_again tolerance (left work marks runs)) n st
finish s row tolerance work marks rows runs p n st b kept r long k picked e f g =
    let falls = together tolerance in
    rw (e, f, g, numbers-all row long) (ap (λ (ps : List Pulse). ran_pulses s (bin_of row) (numbers_of row) rows ps n st) (sym (summed-first falls (pulse_of work marks runs p) _ _) ∙ ap (summed_by falls) (sym (picked_next k p picked))))

pub returns-in_default : goal.returns-in_default
returns-in_default c =
    let a = c.args in
    let k = ready a.work.now a.marks.now a.runs c.requires.work_len (eight-runs a.runs _ c.well_formed.1.1.1.0) in
    rw (picked_none k (sym c.pick.ensures ∙ c.in_default.is), summed-none (together a.tolerance.0)) (sym (ran-none _ _ _ _ _ _))

pub picked_pulse-kept-requires : goal.picked_pulse-kept-requires
picked_pulse-kept-requires c =
    let a = c.args in
    let k = ready a.work.now a.marks.now a.runs c.requires.work_len (eight-runs a.runs _ c.well_formed.1.1.1.0) in
    let e = sym c.pick.ensures ∙ c.in-Some.is in
    (k.rows-full, k.marks-full, picked-list k _ e, picked-row k _ e)

pub move_on-r-requires : goal.move_on-r-requires
move_on-r-requires c =
    let a = c.args in
    let k = ready a.work.now a.marks.now a.runs c.requires.work_len (eight-runs a.runs _ c.well_formed.1.1.1.0) in
    let e = sym c.pick.ensures ∙ c.in-Some.is in
    (picked-list k _ e, picked-row k _ e, k.marks-full, k.within)

pub loop-p-init : goal.loop-p-init
loop-p-init c =
    let a = c.args in
    let k = ready a.work.now a.marks.now a.runs c.requires.work_len (eight-runs a.runs _ c.well_formed.1.1.1.0) in
    let k' = ready-next k _ (sym c.pick.ensures ∙ c.in-Some.is) c.move_on-r.result c.move_on-r.ensures in
    let long = pulses-length a.work.now a.marks.now (k.rows-full ∙ sym k.marks-full) in
    let count = few (pulses_in a.work.now a.marks.now) c.move_on-r.result (omega (arith, long, k.rows-full)) k'.most in
    record {
      same-i = refl;
      same-q = refl;
      same-scratch = refl;
      ready = k';
      holds = λ o e. search rules;
      few-added = omega (arith, count, c.requires.q_value.2);
      whole = refl;
    }

pub picked_pulse-next-requires : goal.picked_pulse-next-requires
picked_pulse-next-requires c =
    let k = c.loop-p.invariant.ready in
    let e = sym c.pick-in-loop-p.ensures ∙ c.in-Some-pick.is in
    (k.rows-full, k.marks-full, picked-list k _ e, picked-row k _ e)

pub move_on-r-requires-in-Some-pick : goal.move_on-r-requires-in-Some-pick
move_on-r-requires-in-Some-pick c =
    let k = c.loop-p.invariant.ready in
    let e = sym c.pick-in-loop-p.ensures ∙ c.in-Some-pick.is in
    (picked-list k _ e, picked-row k _ e, k.marks-full, k.within)

pub loop-p-smaller-then-is_near : goal.loop-p-smaller-then-is_near
loop-p-smaller-then-is_near c = less c.loop-p.invariant _ (sym c.pick-in-loop-p.ensures ∙ c.in-Some-pick.is) _ c.move_on-r-in-Some-pick.ensures

pub loop-p-preserved-then-is_near : goal.loop-p-preserved-then-is_near
loop-p-preserved-then-is_near c =
    let e = sym c.pick-in-loop-p.ensures ∙ c.in-Some-pick.is in
    let next = ready-next c.loop-p.invariant.ready _ e c.move_on-r-in-Some-pick.result c.move_on-r-in-Some-pick.ensures in
    let told = c.is_near.ensures ∙ ap (together c.args.tolerance.0 c.loop-p.kept) c.picked_pulse-next.ensures in
    rw (c.plus-kept.ensures, c.picked_pulse-next.ensures) (near-turn c.loop-p.invariant _ e _ c.move_on-r-in-Some-pick.ensures next (sym told ∙ c.if-is_near.true))

pub loop-p-smaller : goal.loop-p-smaller
loop-p-smaller c = less c.loop-p.invariant _ (sym c.pick-in-loop-p.ensures ∙ c.in-Some-pick.is) _ c.move_on-r-in-Some-pick.ensures

pub loop-p-preserved : goal.loop-p-preserved
loop-p-preserved c =
    let e = sym c.pick-in-loop-p.ensures ∙ c.in-Some-pick.is in
    let next = ready-next c.loop-p.invariant.ready _ e c.move_on-r-in-Some-pick.result c.move_on-r-in-Some-pick.ensures in
    let told = c.is_near.ensures ∙ ap (together c.args.tolerance.0 c.loop-p.kept) c.picked_pulse-next.ensures in
    let onto = rw c.in-Ok.is at c.add_pulse.ensures.told in
    rw c.picked_pulse-next.ensures (on-turn c.loop-p.invariant c.add_pulse.ensures.scratch_after c.requires.q_value.1 _ e _ c.move_on-r-in-Some-pick.ensures next (sym told ∙ c.if-is_near.false) onto.0 _ onto.1)

pub returns-in-Err : goal.returns-in-Err
returns-in-Err c =
    let a = c.args in
    let k = ready a.work.now a.marks.now a.runs c.requires.work_len (eight-runs a.runs _ c.well_formed.1.1.1.0) in
    let done = finish a.s a.row a.tolerance.0 a.work.now a.marks.now a.rows a.runs c.in-Some.first a.added _ _ _ _ c.well_formed.1.0.1.0.1 k (sym c.pick.ensures ∙ c.in-Some.is) c.bin_of-b.ensures c.picked_pulse-kept.ensures c.move_on-r.ensures in
    let told = c.is_near.ensures ∙ ap (together a.tolerance.0 c.loop-p.kept) c.picked_pulse-next.ensures in
    let refused = rw c.in-Err.is at c.add_pulse.ensures.told in
    rw c.at.ensures (refused-turn c.loop-p.invariant c.add_pulse.ensures.scratch_after _ (sym c.pick-in-loop-p.ensures ∙ c.in-Some-pick.is) (sym told ∙ c.if-is_near.false) _ refused ∙ done)

pub returns-in-Ok-add_pulse : goal.returns-in-Ok-add_pulse
returns-in-Ok-add_pulse c =
    let a = c.args in
    let k = ready a.work.now a.marks.now a.runs c.requires.work_len (eight-runs a.runs _ c.well_formed.1.1.1.0) in
    let done = finish a.s a.row a.tolerance.0 a.work.now a.marks.now a.rows a.runs c.in-Some.first a.added _ _ _ _ c.well_formed.1.0.1.0.1 k (sym c.pick.ensures ∙ c.in-Some.is) c.bin_of-b.ensures c.picked_pulse-kept.ensures c.move_on-r.ensures in
    let onto = rw c.in-Ok-add_pulse.is at c.add_pulse-2.ensures.told in
    on-last c.loop-p.invariant c.add_pulse-2.ensures.scratch_after (sym c.pick-in-loop-p.ensures ∙ c.in_default-pick.is) onto.0 ∙ done

pub returns-in-Err-add_pulse : goal.returns-in-Err-add_pulse
returns-in-Err-add_pulse c =
    let a = c.args in
    let k = ready a.work.now a.marks.now a.runs c.requires.work_len (eight-runs a.runs _ c.well_formed.1.1.1.0) in
    let done = finish a.s a.row a.tolerance.0 a.work.now a.marks.now a.rows a.runs c.in-Some.first a.added _ _ _ _ c.well_formed.1.0.1.0.1 k (sym c.pick.ensures ∙ c.in-Some.is) c.bin_of-b.ensures c.picked_pulse-kept.ensures c.move_on-r.ensures in
    let refused = rw c.in-Err-add_pulse.is at c.add_pulse-2.ensures.told in
    rw c.at-in-Err-add_pulse.ensures (refused-last c.loop-p.invariant c.add_pulse-2.ensures.scratch_after (sym c.pick-in-loop-p.ensures ∙ c.in_default-pick.is) _ refused ∙ done)
