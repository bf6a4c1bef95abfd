-- Pulses laid down one after the other are the list summed: where k stands in the row before `at`, what is still to come is `kept_from` k,
-- laid over that row. Assumes nothing.
use Prim.Native.Nat.{ℕ, suc, ◌+◌, ◌-◌, ◌<◌, ◌≤◌}
use mathlib.Core.Path.{◌≡◌, ◌∙◌}
use mathlib.Core.Bool.{Bool, true, false, cond}
use mathlib.Core.List.{List, [], ◌∷◌, map}
use native.Mathlib.Omega.{arith}
use borrow.Author.Tests.{lt-ltb, le-ltb}
use lib.Ieee.{Float}
use lib.ListN.{length, get_or, set, length-set, length-map}
use lib.Seq.{get_or-set_same}
use Rattle.pulse.specs.declared.list.Pulse.{Pulse}
use Rattle.merge.specs.Sum.{plus_p, together_in_bin, kept_from, summed_by, summed}
use Rattle.merge.specs.Work.{row_of_pulse, mark_of, over, Laid, laid, laid_on}
use Rattle.merge.specs.Keep.{kept_in, kept_all}
use Rattle.merge.proofs.Over.{over-nil, over-set, over-same}

module _ (falls : Pulse → Pulse → Bool) where
  pub kept-some : (k : Pulse) (ps : List Pulse) → 0 < length (kept_from falls k ps)
  unfolding kept_from
  kept-some k [] = omega arith
  kept-some k (p ∷ ps) = either (falls k p) (kept-some (plus_p k p) ps) where
    either : (b : Bool) → 0 < length (kept_from falls (plus_p k p) ps) → 0 < length (cond b (kept_from falls (plus_p k p) ps) (k ∷ kept_from falls p ps))
    either true h = h
    either false h = omega arith

  pub kept-length : (k : Pulse) (ps : List Pulse) → length (kept_from falls k ps) ≤ suc (length ps)
  unfolding kept_from
  kept-length k [] = omega arith
  kept-length k (p ∷ ps) = either (falls k p) (kept-length (plus_p k p) ps) (kept-length p ps) where
    either : (b : Bool) → length (kept_from falls (plus_p k p) ps) ≤ suc (length ps) → length (kept_from falls p ps) ≤ suc (length ps)
        → length (cond b (kept_from falls (plus_p k p) ps) (k ∷ kept_from falls p ps)) ≤ suc (suc (length ps))
    either true g h = omega arith
    either false g h = omega arith

  -- summing makes no list longer
  pub summed-length : (ps : List Pulse) → length (summed_by falls ps) ≤ length ps
  unfolding summed_by
  summed-length [] = omega arith
  summed-length (p ∷ ps) = kept-length p ps

-- a row that is laid over before it is read
over-row : (n : ℕ) (ps : List Pulse) (rows : List (List Float)) (y : List Float) → 0 < length ps → n < length rows → over n (map row_of_pulse ps) (set rows n y) ≡ over n (map row_of_pulse ps) rows
over-row n ps rows y some h = over-set n y (map row_of_pulse ps) rows (rw (length-map ps row_of_pulse) some) h

over-mark : (n : ℕ) (ps : List Pulse) (marks : List ℕ) (y : ℕ) → 0 < length ps → n < length marks → over n (map mark_of ps) (set marks n y) ≡ over n (map mark_of ps) marks
over-mark n ps marks y some h = over-set n y (map mark_of ps) marks (rw (length-map ps mark_of) some) h

module _ (from : ℕ) (t : Float) where
  abbrev falls : Pulse → Pulse → Bool
  falls = together_in_bin t

  one_more : (n : ℕ) (k p : Pulse) (rows : List (List Float)) (marks : List ℕ) → from ≤ n → get_or rows n [] ≡ row_of_pulse k → get_or marks n 0 ≡ mark_of k
      → kept_in from t p (laid rows marks (n + 1))
      ≡ cond (falls k p) (laid (set rows n (row_of_pulse (plus_p k p))) marks (n + 1)) (laid (set rows (n + 1) (row_of_pulse p)) (set marks (n + 1) (mark_of p)) (n + 1 + 1))
  unfolding kept_in
  one_more n k p rows marks h er em = let e : n + 1 - 1 ≡ n = omega arith in rw (lt-ltb from (n + 1) (omega arith), e, er, em)

  kept_on : (n : ℕ) (k : Pulse) (ps : List Pulse) (rows : List (List Float)) (marks : List ℕ) → from ≤ n → n + length ps < length rows → n + length ps < length marks → get_or rows n [] ≡ row_of_pulse k
      → get_or marks n 0 ≡ mark_of k
      → kept_all from t ps (laid rows marks (n + 1)) ≡ laid_on (kept_from falls k ps) n rows marks
  unfolding kept_all kept_from
  kept_on n k [] rows marks h hr hm er em =
      rw (← er, ← em, over-same n [] [] rows (omega arith), over-same n 0 [] marks (omega arith), over-nil (n + 1) rows, over-nil (n + 1) marks)
  kept_on n k (p ∷ ps) rows marks h hr hm er em = rw (one_more n k p rows marks h er em) (either (falls k p)
      (kept_on n (plus_p k p) ps (set rows n (row_of_pulse (plus_p k p))) marks h (rw (length-set rows n (row_of_pulse (plus_p k p))) (omega arith)) (omega arith)
      (get_or-set_same rows n (row_of_pulse (plus_p k p)) [] (omega arith)) em)
      (kept_on (n + 1) p ps (set rows (n + 1) (row_of_pulse p)) (set marks (n + 1) (mark_of p)) (omega arith) (rw (length-set rows (n + 1) (row_of_pulse p)) (omega arith))
      (rw (length-set marks (n + 1) (mark_of p)) (omega arith))
      (get_or-set_same rows (n + 1) (row_of_pulse p) [] (omega arith)) (get_or-set_same marks (n + 1) (mark_of p) 0 (omega arith))))
    where
      added : Laid
      added = laid (set rows n (row_of_pulse (plus_p k p))) marks (n + 1)

      apart : Laid
      apart = laid (set rows (n + 1) (row_of_pulse p)) (set marks (n + 1) (mark_of p)) (n + 1 + 1)

      either : (b : Bool) → kept_all from t ps added ≡ laid_on (kept_from falls (plus_p k p) ps) n (set rows n (row_of_pulse (plus_p k p))) marks
          → kept_all from t ps apart ≡ laid_on (kept_from falls p ps) (n + 1) (set rows (n + 1) (row_of_pulse p)) (set marks (n + 1) (mark_of p))
          → kept_all from t ps (cond b added apart) ≡ laid_on (cond b (kept_from falls (plus_p k p) ps) (k ∷ kept_from falls p ps)) n rows marks
      either true x y = x ∙ rw (over-row n (kept_from falls (plus_p k p) ps) rows (row_of_pulse (plus_p k p)) (kept-some falls (plus_p k p) ps) (omega arith))
      either false x y =
          let e : n + 1 + length (kept_from falls p ps) ≡ n + suc (length (kept_from falls p ps)) = omega arith in
          y ∙ rw (
            over-row (n + 1) (kept_from falls p ps) rows (row_of_pulse p) (kept-some falls p ps) (omega arith),
            over-mark (n + 1) (kept_from falls p ps) marks (mark_of p) (kept-some falls p ps) (omega arith),
            ← er,
            ← em,
            over-same n [] (map row_of_pulse (kept_from falls p ps)) rows (omega arith),
            over-same n 0 (map mark_of (kept_from falls p ps)) marks (omega arith),
            e,
          )

  first : (p : Pulse) (rows : List (List Float)) (marks : List ℕ) → kept_in from t p (laid rows marks from) ≡ laid (set rows from (row_of_pulse p)) (set marks from (mark_of p)) (from + 1)
  unfolding kept_in
  first p rows marks = rw (le-ltb from from (omega arith))

  pub kept-summed : (ps : List Pulse) (rows : List (List Float)) (marks : List ℕ) → from + length ps ≤ length rows → from + length ps ≤ length marks
      → kept_all from t ps (laid rows marks from) ≡ laid_on (summed t ps) from rows marks
  unfolding kept_all summed_by
  kept-summed [] rows marks hr hm = let e : from + 0 ≡ from = omega arith in rw (over-nil from rows, over-nil from marks, e)
  kept-summed (p ∷ ps) rows marks hr hm = rw (
    first p rows marks,
    kept_on from p ps (set rows from (row_of_pulse p)) (set marks from (mark_of p)) (omega arith) (rw (length-set rows from (row_of_pulse p)) (omega arith))
        (rw (length-set marks from (mark_of p)) (omega arith))
        (get_or-set_same rows from (row_of_pulse p) [] (omega arith)) (get_or-set_same marks from (mark_of p) 0 (omega arith)),
    over-row from (kept_from falls p ps) rows (row_of_pulse p) (kept-some falls p ps) (omega arith),
    over-mark from (kept_from falls p ps) marks (mark_of p) (kept-some falls p ps) (omega arith),
  )
