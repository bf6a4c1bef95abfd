-- `place_of`: where it is below the count of rows, that row is the same and none before it is; where any row is the same, it is below the
-- count. By the rows in turn. Assumes nothing.
use Prim.Native.Nat.{ℕ, zero, suc, ◌+◌, ◌<◌, ◌≤◌}
use mathlib.Core.Path.{◌≡◌, refl, sym, ◌∙◌}
use mathlib.Core.Bool.{Bool, true, false, cond, true≢false}
use mathlib.Core.List.{List, [], ◌∷◌}
use native.Mathlib.Omega.{arith}
use lib.Ieee.{Float}
use lib.Dec.{leb, ltb}
use borrow.Author.Tests.{ltb-false, leb-true, leb-false}
use lib.ListN.{length, get_or}
use Rattle.std.specs.List.{position, position_or_len}
use Rattle.std.specs.Prelude.{Some, None, unwrap_or}
use Rattle.std.proofs.lemmas.List.Recursion.{is_position_or_len}
use Rattle.pulse.specs.Bin.{same_row, place_of}

-- the row at n is the same, where n is one of them, and none before it is
pub record FirstSame (row : List Float) (rows : List (List Float)) (n : ℕ) : Type 0 where
  pub within : n ≤ length rows
  pub same : n < length rows → same_row (get_or rows n []) row ≡ true
  pub before : (k : ℕ) → k < n → same_row (get_or rows k []) row ≡ false

pub place-first : (row : List Float) (rows : List (List Float)) → FirstSame row rows (place_of row rows)
unfolding place_of
place-first row [] = record { within = omega arith; same = λ h. absurd (omega arith); before = λ k h. absurd (omega arith) }
place-first row (r ∷ rs) = by_row (same_row r row) refl (place-first row rs) where
  by_row : (b : Bool) → same_row r row ≡ b → FirstSame row rs (place_of row rs) → FirstSame row (r ∷ rs) (cond (same_row r row) 0 (suc (place_of row rs)))
  by_row true e rest = rw e (record { within = omega arith; same = λ h. e; before = λ k h. absurd (omega arith) })
  by_row false e rest = rw e (record { within = omega (arith, rest.within); same = λ h. rest.same (omega arith); before = earlier }) where
    earlier : (k : ℕ) → k < suc (place_of row rs) → same_row (get_or (r ∷ rs) k []) row ≡ false
    earlier zero h = e
    earlier (suc k) h = rest.before k (omega arith)

-- a row that is the same is at the place or after it
pub place-least : (row : List Float) (rows : List (List Float)) (k : ℕ) → k < length rows → same_row (get_or rows k []) row ≡ true → place_of row rows ≤ k
place-least row rows k h e = by-test (leb (place_of row rows) k) refl where
  by-test : (b : Bool) → leb (place_of row rows) k ≡ b → place_of row rows ≤ k
  by-test true t = leb-true (place_of row rows) k t
  by-test false t = absurd (true≢false (sym e ∙ (place-first row rows).before k (leb-false (place_of row rows) k t)))

-- it is where the search of std finds the first row that is the same
module _ (row : List Float) where
  place-from : (rows : List (List Float)) → place_of row rows ≡ position_or_len (λ r. same_row r row) rows
  unfolding place_of
  place-from rows = is_position_or_len (place_of row) (λ r. same_row r row) refl
      (λ r rs. let e : 1 + place_of row rs ≡ suc (place_of row rs) = omega arith in rw e) rows

  pub place-found : (rows : List (List Float)) → unwrap_or (position (λ r. same_row r row) rows) (length rows) ≡ place_of row rows
  place-found rows = rw (← place-from rows) (by-test (ltb (place_of row rows) (length rows)) refl)
    where
      by-test : (b : Bool) → ltb (place_of row rows) (length rows) ≡ b → unwrap_or (cond b (Some (place_of row rows)) None) (length rows) ≡ place_of row rows
      by-test true e = refl
      by-test false e = omega (arith, ltb-false (place_of row rows) (length rows) e, (place-first row rows).within)
