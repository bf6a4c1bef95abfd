-- With the work rows as `sum_lists` leaves them, the whole is the document's: the bins by first appearance, each with its lists' summed pulses,
-- scaled, joined by time and summed again. Assumes nothing.
use Prim.Native.Nat.{ℕ, ◌*◌, ◌-◌, ◌≤◌}
use native.Mathlib.Omega.{arith}
use mathlib.Core.Path.{◌≡◌, sym, ap, ◌∙◌}
use mathlib.Core.Bool.{true}
use mathlib.Core.List.{List, [], ◌∷◌, map}
use lib.Ieee.{Float}
use lib.ListN.{length, take, drop, length-map, length-append, length-take}
use Rattle.quant.specs.declared.settings.Settings.{Settings}
use Rattle.rows.specs.Rows.{rows_fit}
use Rattle.pulse.specs.declared.list.Pulse.{Pulse}
use Rattle.tables.specs.declared.Tables.{Tables}
use Rattle.tables.specs.Tables.{channel_at}
use Rattle.merge.specs.declared.taking.Taking.{Taking}
use Rattle.merge.specs.Sum.{together_in_bin, summed_again}
use Rattle.merge.specs.Join.{joined}
use Rattle.merge.specs.Taking.{Part, parts_in, records_of, list_of}
use Rattle.merge.specs.Work.{row_of_pulse, mark_of, over, lists_of, in_one, ends_of}
use Rattle.merge.proofs.Kept.{summed-length}
use Rattle.merge.proofs.Over.{length_over}
use Rattle.mixdown.specs.Bins.{bins_by, merged_of}
use Rattle.mixdown.specs.Starts.{merged_in}
use Rattle.mixdown.specs.Sampled.{Rowed, ran_bins, mixed_down}
use Rattle.mixdown.proofs.Laid.{read_back, all_runs, all-ended}
use Rattle.mixdown.proofs.Listed.{bins-alike, merged-few}
use Rattle.mixdown.proofs.Ending.{fit}

-- ---- room for all lists

list-few : (t : Tables) (pulses : List Pulse) (i : ℕ) → length (list_of t pulses i) ≤ 1024
list-few t pulses i =
    let a = summed-length (together_in_bin t.time.0) (records_of t pulses i) in
    let b = length-take (channel_at t i).pulses (take 1024 (drop (1024 * i) pulses)) in
    let c = length-take 1024 (drop (1024 * i) pulses) in
    omega (arith, a, b, c)

lists-few : (t : Tables) (pulses : List Pulse) (parts : List Part) → length (in_one (lists_of t pulses parts)) ≤ length parts * 1024
unfolding in_one
lists-few t pulses [] = omega arith
lists-few t pulses (p ∷ ps) =
    let a = length-append (list_of t pulses p.place) (in_one (lists_of t pulses ps)) in
    let b = list-few t pulses p.place in
    let c = lists-few t pulses ps in
    omega (arith, a, b, c)

module _ (s : Settings) (t : Tables) (taking : Taking) (bins : List (List Float)) (pulses : List Pulse) (work : List (List Float)) (marks : List ℕ) (rows : ℕ) (st : Rowed)
    (few : taking.count ≤ 8) (parts-few : length (parts_in taking) ≤ 8) (bins-many : length bins ≡ 512) (work-many : length work ≡ 8192) (marks-many : length marks ≡ 8192)
    (rows_fit_lem : rows_fit rows (length st.i) (length st.q) ≡ true) (long : length st.i ≤ length st.scratch) where
  abbrev parts : List Part
  parts = parts_in taking

  abbrev lists : List (List Pulse)
  lists = lists_of t pulses parts

  abbrev laid-rows : List (List Float)
  laid-rows = over 0 (map row_of_pulse (in_one lists)) work

  abbrev laid-marks : List ℕ
  laid-marks = over 0 (map mark_of (in_one lists)) marks

  fit_in : length (in_one lists) ≤ 8192
  fit_in = let a = lists-few t pulses parts in omega (arith, a, parts-few)

  rows_same : length laid-rows ≡ 8192
  rows_same = length_over 0 (map row_of_pulse (in_one lists)) work (let a = length-map (in_one lists) row_of_pulse in omega (arith, a, fit_in, work-many)) ∙ work-many

  marks-same : length laid-marks ≡ 8192
  marks-same = length_over 0 (map mark_of (in_one lists)) marks (let a = length-map (in_one lists) mark_of in omega (arith, a, fit_in, marks-many)) ∙ marks-many

  each-bin : (row : List Float) → merged_in t bins laid-rows laid-marks parts (ends_of lists).ends row ≡ merged_of t bins pulses parts row
  each-bin row = ap (λ (ls : List (List Pulse)). summed_again t.time.0 (joined ls)) (all_runs t bins pulses row laid-rows laid-marks (rows_same ∙ sym marks-same) parts [] _ _ (read_back (in_one lists) work marks))

  -- a bin has at most 65,536 pulses
  pub whole-few : (row : List Float) → length (merged_of t bins pulses parts row) ≤ 65536
  whole-few row = let same = ap length (each-bin row) in let few-here = merged-few t bins laid-rows laid-marks parts (ends_of lists).ends row rows_same marks-same parts-few in omega (arith, same, few-here)

  pub rows_long : length laid-rows ≡ length work
  rows_long = rows_same ∙ sym work-many

  pub marks-long : length laid-marks ≡ length marks
  marks-long = marks-same ∙ sym marks-many

  pub mixed-whole : mixed_down s t taking (ends_of lists) bins laid-rows laid-marks rows st ≡ ran_bins s rows (merged_of t bins pulses parts) (bins_by t bins parts) 0 st
  unfolding mixed_down
  mixed-whole =
      rw (fit taking (ends_of lists) (length bins) (length laid-rows) (length laid-marks) rows (length st.i) (length st.q) (length st.scratch) (record { its-bins = bins-many; its-work = rows_same; its-marks = marks-same; few-lists = few; its-ends = all-ended lists (8 - length lists) fit_in; its-rows = rows_fit_lem; long = long }))
      (bins-alike s rows (merged_in t bins laid-rows laid-marks parts (ends_of lists).ends) (merged_of t bins pulses parts) each-bin (bins_by t bins parts) 0 st)
