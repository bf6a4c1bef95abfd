-- A sheet with its rows in column order: it follows the layout, holds the same blocks, and reads to the same matrix. Assumes nothing.
use Prim.Native.Nat.{ℕ, suc, ◌-◌}
use mathlib.Core.Path.{◌≡◌, refl, sym, ap, subst, ◌∙◌}
use mathlib.Core.Bool.{true, ◌&&◌}
use mathlib.Core.List.{List, [], ◌∷◌}
use native.Mathlib.Omega.{arith}
use borrow.Author.Tests.{eq-eqb}
use lib.Dec.{eqb}
use lib.Ieee.{Float}
use lib.ListN.{length}
use Rattle.naming.specs.declared.Name.{Name}
use Rattle.exact.proofs.Truth.{both}
use Rattle.sheet.specs.Sheet.{SoFar, accepts, under, matrix_of, Block, Sheet, row_names, single, among, finite_bits, full_blocks, WellFormed}
use Rattle.sheet_laws.specs.Words.{In, here, there, Permuted, nil, keep, swap, then, contents, InColumnOrder}
use Rattle.sheet_laws.proofs.Factors.{wide}
use Rattle.sheet_laws.proofs.Names.{in_is, single-first, single-rest}
use Rattle.sheet_laws.proofs.Once.{rows_are}
use Rattle.sheet_laws.proofs.Rows.{block-for, matrix-same, row_of, self, under-own}

-- a block for each of some names
unfoldable pub ordered : SoFar → List Name → List Block
ordered t [] = []
ordered t (n ∷ ns) = record { row = n; factors = under t n } ∷ ordered t ns

unfoldable pub arranged : Sheet → Sheet
arranged s = record { columns = s.columns; blocks = ordered (contents s) s.columns }

pub ordered-rows : (t : SoFar) (ns : List Name) → row_names (ordered t ns) ≡ ns
unfolding ordered row_names
ordered-rows t [] = refl
ordered-rows t (n ∷ ns) = ap (λ (l : List Name). n ∷ l) (ordered-rows t ns)

pub ordered-long : (t : SoFar) (ns : List Name) → length (ordered t ns) ≡ length ns
unfolding ordered
ordered-long t [] = refl
ordered-long t (n ∷ ns) = ap suc (ordered-long t ns)

pub ordered_in : (t : SoFar) (n : Name) (ns : List Name) → In n ns → In (record { row = n; factors = under t n }) (ordered t ns)
unfolding ordered
ordered_in t n (m ∷ ms) here = here
ordered_in t n (m ∷ ms) (there h) = there (ordered_in t n ms h)
ordered_in t n [] x' = elim x' [ ]

ordered-full : (t : SoFar) (count : ℕ) (ns : List Name) → ((n : Name) → In n ns → length (under t n) ≡ count)
    → ((n : Name) → In n ns → finite_bits (under t n) ≡ true) → full_blocks count (ordered t ns) ≡ true
unfolding ordered full_blocks
ordered-full t count [] wide fine = refl
ordered-full t count (n ∷ ns) wide fine =
    rw (eq-eqb (length (under t n)) count (wide n here), fine n here, ordered-full t count ns (λ m h. wide m (there h)) (λ m h. fine m (there h)))

among-all : (all ns : List Name) → ((n : Name) → In n ns → In n all) → among all ns ≡ true
unfolding among
among-all all [] sub = refl
among-all all (n ∷ ns) sub = rw (in_is n all (sub n here), among-all all ns (λ m h. sub m (there h)))

block-fine : (count : ℕ) (b : Block) (bs : List Block) → full_blocks count bs ≡ true → In b bs → finite_bits b.factors ≡ true
unfolding full_blocks
block-fine count b (x ∷ xs) full here =
    (both (eqb (length b.factors) count) (finite_bits b.factors) (both (eqb (length b.factors) count && finite_bits b.factors) (full_blocks count xs) full).0).1
block-fine count b (x ∷ xs) full (there h) =
    block-fine count b xs (both (eqb (length x.factors) count && finite_bits x.factors) (full_blocks count xs) full).1 h
block-fine count b [] full x'' = elim x'' [ ]

module _ (s : Sheet) (w : WellFormed s) where
  pub fine : (n : Name) → In n s.columns → finite_bits (under (contents s) n) ≡ true
  fine n h =
      let r = block-for s w n h in
      rw (← r.named, under-own s w r.block r.listed) (block-fine (length s.columns) r.block s.blocks w.full r.listed)

  pub arranged-formed : WellFormed (arranged s)
  unfolding arranged
  arranged-formed =
      let rows = ordered-rows (contents s) s.columns in
      record {
        some = w.some;
        most = w.most;
        names = w.names;
        single_columns = w.single_columns;
        block_each = ordered-long (contents s) s.columns;
        single_rows = rw rows w.single_columns;
        rows_are_columns = rw rows (among-all s.columns s.columns (λ n h. h));
        full = ordered-full (contents s) (length s.columns) s.columns (wide s w) fine;
      }

  arranged-under : (n : Name) → In n s.columns → under (contents (arranged s)) n ≡ under (contents s) n
  unfolding arranged
  arranged-under n h =
      under-own (arranged s) arranged-formed (record { row = n; factors = under (contents s) n }) (ordered_in (contents s) n s.columns h)

  pub arranged-matrix : (before : List Float) → matrix_of (accepts (contents (arranged s))) before ≡ matrix_of (accepts (contents s)) before
  unfolding arranged contents
  arranged-matrix before = matrix-same (contents (arranged s)) (contents s) before refl refl arranged-under

-- ---- the same blocks

-- a list with one block taken out
record Without (b : Block) (l : List Block) : Type 0 where
  left : List Block
  back : Permuted (b ∷ left) l
  long : suc (length left) ≡ length l
  others : (x : Block) → In x l → (x.row ≡ b.row → ⊥) → In x left

without : (b : Block) (l : List Block) → In b l → Without b l
without b (y ∷ ys) here = record { left = ys; back = self (b ∷ ys); long = refl; others = λ x h other. go x h other }
  where
    go : (x : Block) → In x (b ∷ ys) → (x.row ≡ b.row → ⊥) → In x ys
    go x here other = absurd (other refl)
    go x (there h) other = h
without b (y ∷ ys) (there h) =
    let r = without b ys h in
    record { left = y ∷ r.left; back = then swap (keep r.back); long = ap suc r.long; others = λ x k other. go r x k other }
  where
    go : (r : Without b ys) (x : Block) → In x (y ∷ ys) → (x.row ≡ b.row → ⊥) → In x (y ∷ r.left)
    go r x here other = here
    go r x (there k) other = there (r.others x k other)
without b [] x' = elim x' [ ]

all_moved : (l m : List Block) → single (row_names l) ≡ true → length l ≡ length m → ((x : Block) → In x l → In x m) → Permuted l m
unfolding row_names
all_moved [] [] one long sub = nil
all_moved [] (y ∷ ys) one long sub = absurd (omega arith)
all_moved (b ∷ bs) m one long sub =
    let r = without b m (sub b here) in
    let rest =
    all_moved bs r.left (single-rest b.row (row_names bs) one) (omega (arith, r.long))
    (λ x h. r.others x (sub x (there h)) (λ e. single-first b.row (row_names bs) one (subst (λ (n : Name). In n (row_names bs)) e (row_of x bs h)))) in
    then (keep rest) r.back

pub in_order : (s : Sheet) → WellFormed s → InColumnOrder s (arranged s)
unfolding arranged
in_order s w =
    record {
      columns = refl;
      blocks =
          all_moved s.blocks (ordered (contents s) s.columns) w.single_rows (w.block_each ∙ sym (ordered-long (contents s) s.columns))
          (λ b h.
          let column = (rows_are s w b.row).0 (row_of b s.blocks h) in
          let own = under-own s w b h in
          subst (λ (fs : List ℕ). In (record { row = b.row; factors = fs }) (ordered (contents s) s.columns)) own
          (ordered_in (contents s) b.row s.columns column));
      rows = ordered-rows (contents s) s.columns;
    }
