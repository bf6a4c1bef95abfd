-- The work rows hold the summed lists one behind the other; so the runs of a bin over them are the lists' pulses of that bin, each times its
-- list's factor. By the lists in turn: each stands behind those before it. Assumes nothing.
use Rattle.std.specs.Prelude.{Some, None}
use Prim.Native.Nat.{ℕ, zero, suc, ◌+◌, ◌-◌, ◌≤◌}
use native.Mathlib.Omega.{arith}
use mathlib.Core.Path.{◌≡◌, refl, sym, ap, ◌∙◌}
use mathlib.Core.Bool.{Bool, true, false, cond}
use mathlib.Core.List.{List, [], ◌∷◌, ◌++◌, map, append_assoc}
use lib.Ieee.{Float}
use lib.ListN.{length, take, drop, get_or, length-append, replicate}
use lib.Seq.{take_at, drop_at}
use Rattle.pulse.specs.declared.list.Pulse.{Pulse}
use Rattle.pulse.specs.Bin.{place_of}
use Rattle.tables.specs.declared.Tables.{Tables}
use Rattle.commands.specs.Play.{rows_of}
use Rattle.merge.specs.Sum.{scaled_p}
use Rattle.merge.specs.Taking.{Part, list_of}
use Rattle.merge.specs.Work.{row_of_pulse, mark_of, over, lists_of, in_one, ends_from}
use Rattle.mixdown.specs.Runs.{pulses_in, of_mark, run_in}
use Rattle.mixdown.specs.Bins.{is_among, run_of}
use Rattle.mixdown.specs.Starts.{target_of, run_for, runs_for_from, Ended}
use Rattle.mixdown.proofs.Spans.{span_none}
use Rattle.mixdown.proofs.Marked.{pulses-length, front}

-- ---- pulses laid down and read again

rows_back : (ps : List Pulse) (rows : List (List Float)) (marks : List ℕ) → pulses_in (map row_of_pulse ps ++ rows) (map mark_of ps ++ marks) ≡ ps ++ pulses_in rows marks
unfolding pulses_in
rows_back [] rows marks = refl
rows_back (p ∷ ps) rows marks = ap (λ (l : List Pulse). p ∷ l) (rows_back ps rows marks)

pub over_first : {A : Type 0} (xs old : List A) → over 0 xs old ≡ xs ++ drop (length xs) old
unfolding over
over_first xs old = let none : 0 + length xs ≡ length xs = omega arith in rw none refl

-- the work rows, with some pulses from the first row on, begin with them
pub read_back : (ps : List Pulse) (rows : List (List Float)) (marks : List ℕ) → pulses_in (over 0 (map row_of_pulse ps) rows) (over 0 (map mark_of ps) marks) ≡ ps ++ pulses_in (drop (length (map row_of_pulse ps)) rows) (drop (length (map mark_of ps)) marks)
read_back ps rows marks = rw (over_first (map row_of_pulse ps) rows, over_first (map mark_of ps) marks) (rows_back ps _ _)

-- ---- the runs of a bin
module _ (t : Tables) (bins : List (List Float)) (pulses : List Pulse) (row : List Float) (rows : List (List Float)) (marks : List ℕ) (same : length rows ≡ length marks) where
  abbrev all : List Pulse
  all = pulses_in rows marks

  -- one list, behind `pre` and before `post`
  module _ (p : Part) (pre post : List Pulse) (is : all ≡ pre ++ (list_of t pulses p.place ++ post)) where
    abbrev list : List Pulse
    list = list_of t pulses p.place

    abbrev begin : ℕ
    begin = length pre

    abbrev end : ℕ
    end = length pre + length list

    abbrev its : List (List Float)
    its = rows_of t bins p.place

    spans : take (end - begin) (drop begin all) ≡ list
    spans =
        let size : end - begin ≡ length list = omega arith in
        rw (is, size, drop_at pre (list ++ post) begin refl) (take_at list post (length list) refl)

    ends : end ≤ length marks
    ends =
        let whole = sym (pulses-length rows marks same) ∙ ap length is ∙ length-append pre (list ++ post) ∙ ap (λ (n : ℕ). length pre + n) (length-append list post) in
        omega (arith, whole, same)

    one-run : run_in all (run_for marks (target_of its row) begin end p.factor) ≡ run_of t bins pulses row p
    unfolding of_mark
    one-run = go (is_among row its)
      where
        go : (b : Bool) → run_in all (run_for marks (cond b (Some (place_of row its)) None) begin end p.factor) ≡ cond b (map (scaled_p p.factor) (of_mark (place_of row its) list)) []
        go true = ap (map (scaled_p p.factor)) (sym (front rows marks same end (place_of row its) ends begin).moved ∙ ap (of_mark (place_of row its)) spans)
        go false = rw (span_none all end end (omega arith)) refl

  pub all_runs : (parts : List Part) (pre post : List Pulse) (pad : List ℕ) → all ≡ pre ++ (in_one (lists_of t pulses parts) ++ post)
      → map (run_in all) (runs_for_from t bins marks row (length pre) parts (ends_from (length pre) (lists_of t pulses parts) ++ pad)) ≡ map (run_of t bins pulses row) parts
  unfolding runs_for_from in_one ends_from
  all_runs [] pre post pad is = refl
  all_runs (p ∷ ps) pre post pad is =
      let list = list_of t pulses p.place in
      let others = in_one (lists_of t pulses ps) in
      let here : all ≡ pre ++ (list ++ (others ++ post)) = is ∙ ap (λ (l : List Pulse). pre ++ l) (append_assoc list others post) in
      let there : all ≡ (pre ++ list) ++ (others ++ post) = here ∙ sym (append_assoc pre list (others ++ post)) in
      let rest = all_runs ps (pre ++ list) post pad there in
      let long : length (pre ++ list) ≡ length pre + length list = length-append pre list in
      ap (λ (l : List Pulse). l ∷ map (run_in all) (runs_for_from t bins marks row (length pre + length list) ps (ends_from (length pre + length list) (lists_of t pulses ps) ++ pad))) (one-run p pre (others ++ post) here) ∙ ap (λ (ls : List (List Pulse)). run_of t bins pulses row p ∷ ls) (ap (λ (n : ℕ). map (run_in all) (runs_for_from t bins marks row n ps (ends_from n (lists_of t pulses ps) ++ pad))) (sym long) ∙ rest)

-- ---- no list ends past the work rows

ended-from : (ls : List (List Pulse)) (at n k : ℕ) → at + length (in_one ls) ≤ 8192 → get_or (ends_from at ls ++ replicate n 0) k 0 ≤ 8192
unfolding in_one ends_from
ended-from [] at zero k h = omega arith
ended-from [] at (suc n) zero h = omega arith
ended-from [] at (suc n) (suc k) h = ended-from [] at n k h
ended-from (l ∷ ls) at n zero h = let long = length-append l (in_one ls) in omega (arith, long, h)
ended-from (l ∷ ls) at n (suc k) h = let long = length-append l (in_one ls) in ended-from ls (at + length l) n k (omega (arith, long, h))

pub all-ended : (ls : List (List Pulse)) (n : ℕ) → length (in_one ls) ≤ 8192 → Ended (ends_from 0 ls ++ replicate n 0)
all-ended ls n h = record { each = λ k. ended-from ls 0 n k (omega arith) }
