-- Law 4: an accepted sheet names each row and column exactly once. The one idea: as many single rows as columns, all of them columns, leave
-- no column without its row. Assumes nothing.
use Prim.Native.Nat.{ℕ, suc, ◌≤◌}
use mathlib.Core.Path.{◌≡◌, refl, ap, subst, ◌∙◌}
use mathlib.Core.Bool.{Bool, true, false}
use mathlib.Core.Logic.{◌↔◌}
use mathlib.Core.List.{List, [], ◌∷◌}
use native.Mathlib.Omega.{arith}
use lib.ListN.{length}
use Rattle.exact.proofs.Truth.{never}
use Rattle.naming.specs.declared.Name.{Name}
use Rattle.naming.specs.Name.{is_in}
use Rattle.sheet.specs.Sheet.{SoFar, accepts, outcome, Sheet, row_names, single, WellFormed}
use Rattle.sheet_laws.specs.Words.{In, here, there, contents, sheet_read, EachOnce}
use Rattle.sheet_laws.proofs.Accepted.{row-names-long}
use Rattle.sheet_laws.proofs.Names.{in_is, is-in, among_one, single-first, single-rest}
use Rattle.sheet_laws.proofs.Only.{only}

-- a list with one name less: all others are still there
record Less (n : Name) (l : List Name) : Type 0 where
  left : List Name
  long : suc (length left) ≡ length l
  others : (m : Name) → In m l → (m ≡ n → ⊥) → In m left

less : (n : Name) (l : List Name) → In n l → Less n l
less n (x ∷ xs) here = record { left = xs; long = refl; others = λ m h other. go m h other }
  where
    go : (m : Name) → In m (n ∷ xs) → (m ≡ n → ⊥) → In m xs
    go m here other = absurd (other refl)
    go m (there h) other = h
less n (x ∷ xs) (there h) = let r = less n xs h in record { left = x ∷ r.left; long = ap suc r.long; others = λ m k other. go r m k other }
  where
    go : (r : Less n xs) (m : Name) → In m (x ∷ xs) → (m ≡ n → ⊥) → In m (x ∷ r.left)
    go r m here other = here
    go r m (there k) other = there (r.others m k other)
less n [] x' = elim x' [ ]

few : (ns all : List Name) → single ns ≡ true → ((m : Name) → In m ns → In m all) → length ns ≤ length all
few [] all one sub = omega arith
few (n ∷ ns) all one sub =
    let r = less n all (sub n here) in
    let rest =
    few ns r.left (single-rest n ns one)
    (λ m h. r.others m (sub m (there h)) (λ e. single-first n ns one (subst (λ (x : Name). In x ns) e h))) in
    omega (arith, r.long)

pub none-left-out : (ns all : List Name) → single ns ≡ true → ((m : Name) → In m ns → In m all) → length all ≤ length ns → (n : Name) → In n all → In n ns
none-left-out ns all one sub long n h = by (is_in n ns) refl
  where
    by : (t : Bool) → is_in n ns ≡ t → In n ns
    by true e = is-in n ns e
    by false e =
        let r = less n all h in
        let rest = few ns r.left one (λ m k. r.others m (sub m k) (λ same. never (in_is n ns (subst (λ (x : Name). In x ns) same k)) e)) in
        absurd (omega (arith, r.long))

module _ (s : Sheet) (w : WellFormed s) where
  pub rows_are : (n : Name) → In n (row_names s.blocks) ↔ In n s.columns
  rows_are n =
      let sub = among_one s.columns (row_names s.blocks) w.rows_are_columns in
      let long = row-names-long s.blocks in
      let each = w.block_each in
      (sub n, none-left-out (row_names s.blocks) s.columns w.single_rows sub (omega arith) n)

  each-once : EachOnce (contents s)
  unfolding contents
  each-once = record { column_each = refl; row_each = row-names-long s.blocks ∙ w.block_each; columns = w.single_columns; rows = w.single_rows; same = rows_are }

pub named-once : (text : List ℕ) (numbers : ℕ) (t : SoFar) → outcome text numbers ≡ accepts t → EachOnce t
named-once text numbers t e = let f = only text numbers t e in subst EachOnce f.read_is (each-once (sheet_read t) f.formed)
