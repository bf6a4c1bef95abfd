-- Law 3: the factor found by two names is the number that stands under that row at that column. The one idea: both names are looked up in
-- one list, the columns, and the row that was put at the first name's place is that row's own. Assumes nothing.
use Prim.Native.Nat.{ℕ, zero, suc, ◌+◌, ◌-◌, ◌*◌, ◌≤◌, ◌<◌}
use mathlib.Core.Path.{◌≡◌, refl, sym, ap, subst, ◌∙◌}
use mathlib.Core.Bool.{Bool, true, false, cond}
use mathlib.Core.List.{List, [], ◌∷◌, ◌++◌}
use native.Mathlib.Omega.{arith}
use native.Mathlib.Nat.{suc-mul, zero-mul}
use borrow.Author.Tests.{leb-true}
use lib.Arith.{digits_lt}
use lib.Ieee.{Float, binary64, of_bits}
use lib.ListN.{length, take, drop, get_or, replicate, length-append, get_or-append}
use lib.Seq.{take-append-add, take_at, drop-append-add, get_or-take, get_or-drop}
use Rattle.naming.specs.Name.{same_name}
use Rattle.naming.specs.declared.Name.{Name}
use Rattle.naming.proofs.Named.{same-exactly}
use Rattle.sheet.specs.Sheet.{position, SoFar, accepts, answer_of, blank, eight, names_of, doubles, under, rows_for, matrix_of, Sheet, single, WellFormed}
use Rattle.sheet.proofs.Each.{same_self}
use Rattle.sheet.proofs.Filling.{doubles-long}
use Rattle.sheet_laws.specs.Words.{In, here, there, contents, Reads, AtColumn, first, later, Stands, count_in, factor_for, factor_read, Entry, entries, SameUpToOrder}
use Rattle.sheet_laws.proofs.Names.{single-rest}
use Rattle.sheet_laws.proofs.Once.{rows_are}
use Rattle.sheet_laws.proofs.Rows.{block-for, block-wide, row_of, still_in, under-own, unlike}

-- ---- a name's place

pub place-below : (n : Name) (ns : List Name) → In n ns → position n ns < length ns
unfolding position
place-below n (m ∷ ms) here = rw (same_self n) (omega arith)
place-below n (m ∷ ms) (there h) = by (same_name m n) (place-below n ms h)
  where
    by : (t : Bool) → position n ms < length ms → cond t 0 (suc (position n ms)) < suc (length ms)
    by true k = omega arith
    by false k = omega arith
place-below n [] x' = elim x' [ ]

pub place-front : (n : Name) (ns more : List Name) → In n ns → position n (ns ++ more) ≡ position n ns
unfolding position
place-front n (m ∷ ms) more here = rw (same_self n)
place-front n (m ∷ ms) more (there h) = rw (place-front n ms more h)
place-front n [] more x' = elim x' [ ]

pub eight_are : (ns : List Name) → length ns ≤ 8 → eight ns ≡ ns ++ take (8 - length ns) (replicate 8 blank)
unfolding eight
eight_are ns short =
    let split : 8 ≡ length ns + (8 - length ns) = omega arith in
    ap (λ (k : ℕ). take k (ns ++ replicate 8 blank)) split ∙ take-append-add ns (replicate 8 blank) (8 - length ns)

place-back : (n : Name) (ns : List Name) → length ns ≤ 8 → In n ns → position n (eight ns) ≡ position n ns
place-back n ns short h = rw (eight_are ns short) (place-front n ns (take (8 - length ns) (replicate 8 blank)) h)

-- ---- a number's place

pub column_in : (c : Name) (bits : ℕ) (cs : List Name) (fs : List ℕ) → AtColumn c bits cs fs → In c cs
column_in c bits (d ∷ cs) (f ∷ fs) first = here
column_in c bits (d ∷ cs) (f ∷ fs) (later h) = there (column_in c bits cs fs h)
column_in c bits [] fs x' = elim x' [ ]
column_in c bits (d ∷ cs) [] x3 = elim x3 [ ]

at_place : (c : Name) (bits : ℕ) (cs : List Name) (fs : List ℕ) → single cs ≡ true → AtColumn c bits cs fs → get_or fs (position c cs) 0 ≡ bits
unfolding position
at_place c bits (d ∷ cs) (f ∷ fs) one first = rw (same_self c)
at_place c bits (d ∷ cs) (f ∷ fs) one (later h) =
    rw (unlike d c cs one (column_in c bits cs fs h)) (at_place c bits cs fs (single-rest d cs one) h)
at_place c bits [] fs one x'' = elim x'' [ ]
at_place c bits (d ∷ cs) [] one x5 = elim x5 [ ]

some_at : (c : Name) (cs : List Name) (fs : List ℕ) → length fs ≡ length cs → In c cs → (bits : ℕ) × AtColumn c bits cs fs
some_at c (d ∷ cs) [] long h = absurd (omega arith)
some_at c (d ∷ cs) (f ∷ fs) long here = (f, first)
some_at c (d ∷ cs) (f ∷ fs) long (there h) = let r = some_at c cs fs (omega arith) h in (r.0, later r.1)
some_at c [] fs long h = elim h [ ]

doubles-at : (fs : List ℕ) (i : ℕ) → get_or (doubles fs) i (of_bits binary64 0) ≡ of_bits binary64 (get_or fs i 0)
unfolding doubles
doubles-at [] i = refl
doubles-at (f ∷ fs) zero = refl
doubles-at (f ∷ fs) (suc i) = doubles-at fs i

module _ (t : SoFar) (count : ℕ) where
  pub rows_long : (ns : List Name) → ((n : Name) → In n ns → length (under t n) ≡ count) → length (rows_for t ns) ≡ length ns * count
  unfolding rows_for
  rows_long [] wide = sym (zero-mul count)
  rows_long (n ∷ ns) wide =
      rw (length-append, wide n here, rows_long ns (λ m h. wide m (there h))) (omega (arith, suc-mul (length ns) count))

  -- a row's numbers, by its name
  pub under_at : (r : Name) (ns : List Name) → ((n : Name) → In n ns → length (under t n) ≡ count) → In r ns
      → take count (drop (position r ns * count) (rows_for t ns)) ≡ under t r
  unfolding rows_for position
  under_at r (n ∷ ns) wide here = rw (same_self r, zero-mul count) (take_at (under t r) (rows_for t ns) count (wide r here))
  under_at r (n ∷ ns) wide (there h) = by (under_at r ns (λ m k. wide m (there k)) h) (same_name n r) refl
    where
      by : take count (drop (position r ns * count) (rows_for t ns)) ≡ under t r → (b : Bool) → same_name n r ≡ b
          → take count (drop (cond b 0 (suc (position r ns)) * count) (under t n ++ rows_for t ns)) ≡ under t r
      by rest true same = rw (zero-mul count) (take_at (under t n) (rows_for t ns) count (wide n here) ∙ ap (under t) ((same-exactly n r).0 same))
      by rest false other =
          let past : suc (position r ns) * count ≡ length (under t n) + position r ns * count = rw (wide n here) (omega (arith, suc-mul (position r ns) count)) in
          rw (past, drop-append-add (under t n) (rows_for t ns) (position r ns * count)) rest
  under_at r [] wide x'' = elim x'' [ ]

  row_at : (r : Name) (ns : List Name) (j : ℕ) → ((n : Name) → In n ns → length (under t n) ≡ count) → In r ns → j < count
      → get_or (rows_for t ns) (position r ns * count + j) 0 ≡ get_or (under t r) j 0
  row_at r ns j wide h below =
      let from = position r ns * count in
      sym (get_or-take count (drop from (rows_for t ns)) j 0 below ∙ get_or-drop from (rows_for t ns) j 0) ∙ ap (λ (l : List ℕ). get_or l j 0) (under_at r ns wide h)

-- ---- what is found

module _ (s : Sheet) (w : WellFormed s) where
  abbrev N : ℕ
  N = length s.columns

  pub wide : (n : Name) → In n s.columns → length (under (contents s) n) ≡ N
  wide n h =
      let r = block-for s w n h in
      rw (← r.named, under-own s w r.block r.listed) (block-wide N r.block s.blocks w.full r.listed)

  row_in : (r c : Name) (bits : ℕ) → Stands s r c bits → In r s.columns
  row_in r c bits st = subst (λ (n : Name). In n s.columns) st.named ((rows_are s w st.block.row).0 (row_of st.block s.blocks st.listed))

  pub number_is : (r c : Name) (bits : ℕ) → Stands s r c bits → get_or (under (contents s) r) (position c s.columns) 0 ≡ bits
  number_is r c bits st =
      let row : under (contents s) r ≡ st.block.factors = ap (under (contents s)) (sym st.named) ∙ under-own s w st.block st.listed in
      rw row (at_place c bits s.columns st.block.factors w.single_columns st.at)

  found : (before : List Float) (r c : Name) (bits : ℕ) → Stands s r c bits
      → get_or (matrix_of (accepts (contents s)) before) (position r s.columns * N + position c s.columns) (of_bits binary64 0) ≡ of_bits binary64 bits
  unfolding matrix_of contents
  found before r c bits st =
      let j = position c s.columns in
      let i = position r s.columns * N + j in
      let left = place-below r s.columns (row_in r c bits st) in
      let right = place-below c s.columns (column_in c bits s.columns st.block.factors st.at) in
      let rows = rows_for (contents s) s.columns in
      let long : length (doubles rows) ≡ N * N = doubles-long rows ∙ rows_long (contents s) N s.columns wide in
      let number : get_or rows i 0 ≡ bits = row_at (contents s) N r s.columns j wide (row_in r c bits st) right ∙ number_is r c bits st in
      get_or-append (doubles rows) (drop (N * N) before) (of_bits binary64 0) i (rw long (digits_lt left right))
      ∙ doubles-at rows i
      ∙ ap (of_bits binary64) number

  -- every pair of columns has a factor
  pub stands : (r c : Name) → In r s.columns → In c s.columns → (bits : ℕ) × Stands s r c bits
  stands r c hr hc =
      let b = block-for s w r hr in
      let a = some_at c s.columns b.block.factors (block-wide N b.block s.blocks w.full b.listed) hc in
      (a.0, record { block = b.block; listed = b.listed; named = b.named; at = a.1 })

pub factor-stands : (text : List ℕ) (before : List Float) (s : Sheet) (r c : Name) (bits : ℕ) → Reads text (length before) s → Stands s r c bits
    → factor_read text before r c ≡ of_bits binary64 bits
unfolding factor_read factor_for count_in answer_of names_of contents
factor-stands text before s r c bits read st =
    let w = read.formed in
    let most = leb-true (length s.columns) 8 w.most in
    let column = column_in c bits s.columns st.block.factors st.at in
    rw (read.answered, place-back r s.columns most (row_in s w r c bits st), place-back c s.columns most column) (found s w before r c bits st)

-- ---- two orders of one sheet

pub at_entry : (c : Name) (bits : ℕ) (cs : List Name) (fs : List ℕ) → AtColumn c bits cs fs → In (record { column = c; bits = bits }) (entries cs fs)
unfolding entries
at_entry c bits (d ∷ cs) (f ∷ fs) first = here
at_entry c bits (d ∷ cs) (f ∷ fs) (later h) = there (at_entry c bits cs fs h)
at_entry c bits [] fs x' = elim x' [ ]
at_entry c bits (d ∷ cs) [] x3 = elim x3 [ ]

pub entry_at : (e : Entry) (cs : List Name) (fs : List ℕ) → In e (entries cs fs) → AtColumn e.column e.bits cs fs
unfolding entries
entry_at e (c ∷ cs) (f ∷ fs) here = first
entry_at e (c ∷ cs) (f ∷ fs) (there h) = later (entry_at e cs fs h)
entry_at e [] fs x' = elim x' [ ]
entry_at e (c ∷ cs) [] x3 = elim x3 [ ]

pub stands_too : (s t : Sheet) → SameUpToOrder s t → (r c : Name) (bits : ℕ) → Stands s r c bits → Stands t r c bits
stands_too s t same r c bits st =
    let o = same.blocks st.block st.listed in
    let e : Entry = record { column = c; bits = bits } in
    let moved = still_in o.same_entries e (at_entry c bits s.columns st.block.factors st.at) in
    record { block = o.block; listed = o.listed; named = o.same_row ∙ st.named; at = entry_at e t.columns o.block.factors moved }

pub any_order : (a b : List ℕ) (before after : List Float) (s t : Sheet) (r c : Name) → Reads a (length before) s → Reads b (length after) t
    → SameUpToOrder s t → In r s.columns → In c s.columns → factor_read a before r c ≡ factor_read b after r c
any_order a b before after s t r c ra rb same hr hc =
    let st = stands s ra.formed r c hr hc in
    factor-stands a before s r c st.0 ra st.1 ∙ sym (factor-stands b after t r c st.0 rb (stands_too s t same r c st.0 st.1))
