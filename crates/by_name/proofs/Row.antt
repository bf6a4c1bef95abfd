-- What the sampling call finds in what was read: the names are the columns, and a column's row holds the doubles of its own block.
-- Assumes nothing.
use Rattle.std.specs.Prelude.{Some, None}
use Prim.Native.Nat.{ℕ, zero, suc, ◌+◌, ◌-◌, ◌*◌, ◌≤◌}
use native.Mathlib.Omega.{arith}
use mathlib.Core.Path.{◌≡◌, refl, sym, ap, subst, ◌∙◌}
use mathlib.Core.Bool.{Bool, true, false, cond}
use mathlib.Core.List.{List, [], ◌∷◌}
use borrow.Author.Tests.{leb-true}
use lib.Ieee.{Float, binary64, of_bits}
use lib.ListN.{length, take, drop, replicate}
use lib.Seq.{take_at, take-take}
use Rattle.naming.specs.declared.Name.{Name}
use Rattle.naming.specs.Name.{same_name}
use Rattle.naming.proofs.Named.{same-exactly}
use Rattle.sheet.specs.Sheet.{position, accepts, answer_of, blank, eight, names_of, doubles, under, rows_for, matrix_of, Sheet, WellFormed}
use Rattle.sheet.proofs.Each.{same_self}
use Rattle.sheet.proofs.Filling.{doubles-long}
use Rattle.sheet_laws.specs.Words.{In, here, there, contents, count_in}
use Rattle.sheet_laws.proofs.Factors.{place-below, eight_are, rows_long, under_at, wide}
use Rattle.crosstalk.specs.declared.names.Crosstalk.{Crosstalk}
use Rattle.crosstalk.specs.Crosstalk.{names_in, row_from, row_of, row_at}
use Rattle.crosstalk.proofs.Fitting.{row_within}
use Rattle.by_name.specs.Words.{Given}

-- ---- lists

front : {A : Type 0} (a n m : ℕ) (l : List A) → a + n ≤ m → take n (drop a (take m l)) ≡ take n (drop a l)
front zero n m l h = take-take n m l (omega arith)
front (suc a) n zero l h = absurd (omega arith)
front (suc a) n (suc m) [] h = refl
front (suc a) n (suc m) (x ∷ l) h = front a n m l (omega arith)

doubles-take : (n : ℕ) (l : List ℕ) → take n (doubles l) ≡ doubles (take n l)
unfolding doubles
doubles-take zero l = refl
doubles-take (suc n) [] = refl
doubles-take (suc n) (b ∷ l) = ap (λ (r : List Float). of_bits binary64 b ∷ r) (doubles-take n l)

doubles-drop : (n : ℕ) (l : List ℕ) → drop n (doubles l) ≡ doubles (drop n l)
unfolding doubles
doubles-drop zero l = refl
doubles-drop (suc n) [] = refl
doubles-drop (suc n) (b ∷ l) = doubles-drop n l

-- ---- a row's place

row_from_lem : (k : ℕ) (r : Name) (ns : List Name) → In r ns → row_from k r ns ≡ Some (k + position r ns)
unfolding row_from position
row_from_lem k r (m ∷ ms) here = rw (same_self r) (ap Some (omega arith))
row_from_lem k r (m ∷ ms) (there h) = go (same_name m r) (row_from_lem (suc k) r ms h)
  where
    go : (b : Bool) → row_from (suc k) r ms ≡ Some (suc k + position r ms) → cond b (Some k) (row_from (suc k) r ms) ≡ Some (k + cond b 0 (suc (position r ms)))
    go true e = ap Some (omega arith)
    go false e = e ∙ ap Some (omega arith)
row_from_lem k r [] x' = elim x' [ ]

row-nowhere : (k : ℕ) (r : Name) (ns : List Name) → (In r ns → ⊥) → row_from k r ns ≡ None
unfolding row_from
row-nowhere k r [] out = refl
row-nowhere k r (m ∷ ms) out = go (same_name m r) refl (row-nowhere (suc k) r ms (λ h. out (there h)))
  where
    go : (b : Bool) → same_name m r ≡ b → row_from (suc k) r ms ≡ None → cond b (Some k) (row_from (suc k) r ms) ≡ None
    go true s e = absurd (out (subst (λ (x : Name). In x (m ∷ ms)) ((same-exactly m r).0 s) here))
    go false s e = e

-- ---- what was handed over

module _ (text : List ℕ) (before : List Float) (s : Sheet) (c : Crosstalk) (factors : List Float) (g : Given text before s c factors) where
  abbrev w : WellFormed s
  w = g.reads.formed

  abbrev N : ℕ
  N = length s.columns

  pub most : N ≤ 8
  most = leb-true N 8 w.most

  pub count-is : c.count ≡ N
  unfolding count_in answer_of contents
  count-is = g.handed.count ∙ rw g.reads.answered

  pub names-are : names_in c ≡ s.columns
  unfolding names_of contents
  names-are =
      let eight-names : c.names ≡ eight s.columns = g.handed.names ∙ rw g.reads.answered in
      rw (count-is, eight-names, eight_are s.columns most) (take_at s.columns (take (8 - N) (replicate 8 blank)) N refl)

  abbrev rows : List ℕ
  rows = rows_for (contents s) s.columns

  pub numbers-are : take (N * N) factors ≡ doubles rows
  unfolding matrix_of contents
  numbers-are =
      let long : length (doubles rows) ≡ N * N = doubles-long rows ∙ rows_long (contents s) N s.columns (wide s w) in
      let handed : take (N * N) factors ≡ take (N * N) (matrix_of (accepts (contents s)) before) = rw (count-is, g.reads.answered) at g.handed.numbers in
      handed ∙ take_at (doubles rows) (drop (N * N) before) (N * N) long

  pub row-place : (r : Name) → In r s.columns → row_of r (names_in c) ≡ Some (position r s.columns)
  row-place r h = rw names-are (row_from_lem 0 r s.columns h ∙ ap Some (omega arith))

  pub no_row : (r : Name) → (In r s.columns → ⊥) → row_of r (names_in c) ≡ None
  no_row r out = rw names-are (row-nowhere 0 r s.columns out)

  pub row-numbers : (r : Name) → In r s.columns → row_at (position r s.columns) c.count factors ≡ doubles (under (contents s) r)
  row-numbers r h =
      let p = position r s.columns in
      let within = row_within p N (place-below r s.columns h) in
      rw count-is
      (sym (front (p * N) N (N * N) factors within)
      ∙ ap (λ (l : List Float). take N (drop (p * N) l)) numbers-are
      ∙ ap (take N) (doubles-drop (p * N) rows)
      ∙ doubles-take N (drop (p * N) rows)
      ∙ ap doubles (under_at (contents s) N r s.columns (wide s w) h))
