-- The runs of a bin, made list by list. Assumes nothing.
use Rattle.std.specs.Prelude.{Option, Some, None}
use Prim.Native.Nat.{ℕ, zero, suc, ◌+◌, ◌<◌, ◌≤◌}
use native.Mathlib.Omega.{arith}
use native.Mathlib.Numerals.{add-one}
use mathlib.Core.Path.{◌≡◌, refl}
use mathlib.Core.List.{List, [], ◌∷◌, ◌++◌, append-nil}
use lib.Ieee.{Float}
use lib.ListN.{length, take, drop, get_or, set, replicate, drop_of_length-le}
use lib.Seq.{drop-cons, take-suc-set, append_snoc}
use Rattle.tables.specs.declared.Tables.{Tables}
use Rattle.commands.specs.Play.{rows_of}
use Rattle.merge.specs.Taking.{Part}
use Rattle.mixdown.specs.declared.runs.Run.{Run}
use Rattle.mixdown.specs.Runs.{no_run, Within}
use Rattle.mixdown.specs.Starts.{target_of, run_for, runs_for_from}

-- ---- no run ends past the work rows

within-nil : Within []
within-nil = record { each = λ k. omega arith }

within-cons : (r : Run) (rs : List Run) → r.end ≤ 8192 → Within rs → Within (r ∷ rs)
within-cons r rs h w = record { each = go }
  where
    go : (k : ℕ) → (get_or (r ∷ rs) k no_run).end ≤ 8192
    go zero = h
    go (suc k) = w.each k

pub within-replicate : (n : ℕ) (r : Run) → r.end ≤ 8192 → Within (replicate n r)
within-replicate zero r h = within-nil
within-replicate (suc n) r h = within-cons r (replicate n r) h (within-replicate n r h)

pub run-end : (marks : List ℕ) (found : Option ℕ) (begin end : ℕ) (factor : Float) → (run_for marks found begin end factor).end ≡ end
run-end marks (Some mark) begin end factor = refl
run-end marks None begin end factor = refl

-- ---- one list more
module _ (t : Tables) (bins : List (List Float)) (marks : List ℕ) (row : List Float) (parts : List Part) (ends : List ℕ) (runs : List Run) (begin k : ℕ) where
  pub start-more : (d : Part) → k < length parts → k < length ends → k < length runs
      → take (k + 1) (set runs k (run_for marks (target_of (rows_of t bins (get_or parts k d).place) row) begin (get_or ends k 0) (get_or parts k d).factor)) ++ runs_for_from t bins marks row (get_or ends k 0) (drop (k + 1) parts) (drop (k + 1) ends)
      ≡ take k runs ++ runs_for_from t bins marks row begin (drop k parts) (drop k ends)
  unfolding runs_for_from
  start-more d p e r = rw (add-one k, drop-cons parts k d p, drop-cons ends k 0 e, take-suc-set runs k (run_for marks (target_of (rows_of t bins (get_or parts k d).place) row) begin (get_or ends k 0) (get_or parts k d).factor) r) (append_snoc (take k runs) _ _)

  pub start-done : length parts ≤ k → take k runs ++ runs_for_from t bins marks row begin (drop k parts) (drop k ends) ≡ take k runs
  unfolding runs_for_from
  start-done h = rw (drop_of_length-le parts h) (append-nil (take k runs))

pub runs-few : (t : Tables) (bins : List (List Float)) (marks : List ℕ) (row : List Float) (begin : ℕ) (parts : List Part) (ends : List ℕ) → length (runs_for_from t bins marks row begin parts ends) ≤ length parts
unfolding runs_for_from
runs-few t bins marks row begin [] ends = omega arith
runs-few t bins marks row begin (p ∷ ps) [] = omega arith
runs-few t bins marks row begin (p ∷ ps) (e ∷ es) = let rest = runs-few t bins marks row e ps es in omega (arith, rest)
