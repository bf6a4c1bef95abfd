-- Law 2: what is read under a row's name is its own block's factors, wherever the block stands; so the order of the blocks says nothing.
-- Assumes nothing.
use Prim.Native.Nat.{ℕ, suc, ◌+◌, ◌*◌}
use mathlib.Core.Path.{◌≡◌, refl, sym, ap, subst, ◌∙◌}
use mathlib.Core.Bool.{Bool, true, false, ◌&&◌}
use mathlib.Core.List.{List, [], ◌∷◌, ◌++◌}
use native.Mathlib.Omega.{arith}
use native.Mathlib.Nat.{suc-mul, zero-mul}
use borrow.Author.Tests.{eqb-true}
use lib.Dec.{eqb}
use lib.Ieee.{Float}
use lib.ListN.{length, take, drop}
use lib.Seq.{take_at, drop-append-add}
use Rattle.naming.specs.Name.{same_name}
use Rattle.naming.specs.declared.Name.{Name}
use Rattle.naming.proofs.Named.{same-exactly}
use Rattle.exact.proofs.Truth.{both}
use Rattle.sheet.specs.Sheet.{position, SoFar, accepts, outcome, doubles, under, rows_for, matrix_of, Block, Sheet, row_names, single, finite_bits, full_blocks, WellFormed}
use Rattle.sheet.proofs.Each.{same_self}
use Rattle.sheet_laws.specs.Words.{In, here, there, Permuted, nil, keep, swap, then, factors_of, contents, Reads}
use Rattle.sheet_laws.proofs.Names.{single-first, single-rest}
use Rattle.sheet_laws.proofs.Once.{rows_are}

-- ---- rows and their blocks

pub row_of : (b : Block) (bs : List Block) → In b bs → In b.row (row_names bs)
unfolding row_names
row_of b (x ∷ xs) here = here
row_of b (x ∷ xs) (there h) = there (row_of b xs h)
row_of b [] x' = elim x' [ ]

-- the block of a row
pub record BlockOf (n : Name) (bs : List Block) : Type 0 where
  pub block : Block
  pub listed : In block bs
  pub named : block.row ≡ n

pub block_of : (n : Name) (bs : List Block) → In n (row_names bs) → BlockOf n bs
unfolding row_names
block_of n (x ∷ xs) here = record { block = x; listed = here; named = refl }
block_of n (x ∷ xs) (there h) = let r = block_of n xs h in record { block = r.block; listed = there r.listed; named = r.named }
block_of n [] x' = elim x' [ ]

pub unlike : (m n : Name) (ns : List Name) → single (m ∷ ns) ≡ true → In n ns → same_name m n ≡ false
unlike m n ns one h = by (same_name m n) refl
  where
    by : (t : Bool) → same_name m n ≡ t → t ≡ false
    by true e = absurd (single-first m ns one (subst (λ (x : Name). In x ns) (sym ((same-exactly m n).0 e)) h))
    by false e = refl

-- ---- the factors under a row

wide : (count : ℕ) (b : Block) (bs : List Block) → full_blocks count (b ∷ bs) ≡ true → (length b.factors ≡ count) × (full_blocks count bs ≡ true)
unfolding full_blocks
wide count b bs e =
    let outer = both (eqb (length b.factors) count && finite_bits b.factors) (full_blocks count bs) e in
    (eqb-true (length b.factors) count (both (eqb (length b.factors) count) (finite_bits b.factors) outer.0).0, outer.1)

pub block-wide : (count : ℕ) (b : Block) (bs : List Block) → full_blocks count bs ≡ true → In b bs → length b.factors ≡ count
block-wide count b (x ∷ xs) full here = (wide count b xs full).0
block-wide count b (x ∷ xs) full (there h) = block-wide count b xs (wide count x xs full).1 h
block-wide count b [] full x'' = elim x'' [ ]

own : (count : ℕ) (b : Block) (bs : List Block) → full_blocks count bs ≡ true → single (row_names bs) ≡ true → In b bs
    → take count (drop (position b.row (row_names bs) * count) (factors_of bs)) ≡ b.factors
unfolding row_names position factors_of
own count b (x ∷ xs) full one here = rw (same_self b.row, zero-mul count) (take_at b.factors (factors_of xs) count (wide count b xs full).0)
own count b (x ∷ xs) full one (there h) =
    let parts = wide count x xs full in
    let p = position b.row (row_names xs) in
    let past : suc p * count ≡ length x.factors + p * count = rw parts.0 (omega (arith, suc-mul p count)) in
    rw (unlike x.row b.row (row_names xs) one (row_of b xs h), past, drop-append-add x.factors (factors_of xs) (p * count))
    (own count b xs parts.1 (single-rest x.row (row_names xs) one) h)
own count b [] full one x3 = elim x3 [ ]

module _ (s : Sheet) (w : WellFormed s) where
  pub under-own : (b : Block) → In b s.blocks → under (contents s) b.row ≡ b.factors
  unfolding under contents
  under-own b h = own (length s.columns) b s.blocks w.full w.single_rows h

  pub block-for : (n : Name) → In n s.columns → BlockOf n s.blocks
  block-for n h = block_of n s.blocks ((rows_are s w n).1 h)

-- ---- any order

pub self : {A : Type 0} (l : List A) → Permuted l l
self [] = nil
self (a ∷ l) = keep (self l)

pub back : {A : Type 0} {l m : List A} → Permuted l m → Permuted m l
back nil = nil
back (keep p) = keep (back p)
back swap = swap
back (then p q) = then (back q) (back p)

pub still_in : {A : Type 0} {l m : List A} → Permuted l m → (a : A) → In a l → In a m
still_in nil a h = h
still_in (keep p) a here = here
still_in (keep p) a (there h) = there (still_in p a h)
still_in swap a here = there here
still_in swap a (there here) = here
still_in swap a (there (there h)) = there (there h)
still_in (then p q) a h = still_in q a (still_in p a h)

-- ---- the matrix

pub rows_same : (t u : SoFar) (ns : List Name) → ((n : Name) → In n ns → under t n ≡ under u n) → rows_for t ns ≡ rows_for u ns
unfolding rows_for
rows_same t u [] same = refl
rows_same t u (n ∷ ns) same = rw (same n here, rows_same t u ns (λ m h. same m (there h)))

pub matrix-same : (t u : SoFar) (before : List Float) → t.count ≡ u.count → t.columns ≡ u.columns → ((n : Name) → In n t.columns → under t n ≡ under u n)
    → matrix_of (accepts t) before ≡ matrix_of (accepts u) before
unfolding matrix_of
matrix-same t u before count columns same =
    let rows : rows_for t t.columns ≡ rows_for u u.columns = rows_same t u t.columns same ∙ ap (rows_for u) columns in
    λ i. doubles (rows i) ++ drop (count i * count i) before

pub same-matrix : (a b : List ℕ) (before : List Float) (s t : Sheet) → Reads a (length before) s → Reads b (length before) t
    → s.columns ≡ t.columns → Permuted s.blocks t.blocks
    → matrix_of (outcome a (length before)) before ≡ matrix_of (outcome b (length before)) before
unfolding contents
same-matrix a b before s t ra rb same moved =
    rw (ra.answered, rb.answered)
    (matrix-same (contents s) (contents t) before (ap length same) same
    (λ n h.
    let r = block-for s ra.formed n h in
    rw (← r.named) (under-own s ra.formed r.block r.listed ∙ sym (under-own t rb.formed r.block (still_in moved r.block r.listed)))))
