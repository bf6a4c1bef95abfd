-- The matrix filled: the rows that stand under the columns' names, in column order. The one idea: each column has a row, so each turn
-- pastes exactly one row, and what is still to paste falls by it. Assumes nothing.
use Prim.Native.Nat.{ℕ, zero, suc, ◌+◌, ◌*◌, ◌≤◌, ◌<◌}
use mathlib.Core.Bool.{Bool, true, false, ◌||◌}
use mathlib.Core.List.{List, [], ◌∷◌, ◌++◌}
use mathlib.Core.Path.{◌≡◌, refl, sym, ap, ◌∙◌}
use native.Mathlib.Nat.{suc-mul, zero-mul}
use native.Mathlib.Numerals.{add-one}
use native.Mathlib.Omega.{arith}
use borrow.Author.Tests.{eqb-true, ltb-true}
use lib.Dec.{leb, eqb}
use lib.Ieee.{Float, binary64, of_bits}
use lib.ListN.{length, get_or, take, drop, length-append, length-drop}
use lib.Seq.{get_or-take, get_or-drop, length-take-le}
use Rattle.exact.proofs.Truth.{both}
use Rattle.naming.specs.Name.{same_name, is_in}
use Rattle.naming.specs.declared.Name.{Name}
use Rattle.sheet.specs.Puts.{pasted}
use Rattle.sheet.specs.Reader.{so_far, Fits}
use Rattle.sheet.specs.Sheet.{SoFar, position, among, complete, doubles, under, rows_for}
use Rattle.sheet.specs.declared.state.State.{State}
use Rattle.sheet.proofs.Among.{is-in}
use Rattle.sheet.proofs.Each.{each, same_self}
use Rattle.sheet.proofs.Parts.{part-cons, part_end, part_of, row_within, few}
use Rattle.sheet.proofs.Pasting.{none-pasted, two-pasted}
use Rattle.sheet.proofs.Steps.{complete-is, columns-read, rows-read}

-- ---- doubles

pub doubles-long : (l : List ℕ) → length (doubles l) ≡ length l
unfolding doubles
doubles-long [] = refl
doubles-long (b ∷ l) = ap suc (doubles-long l)

pub doubles-append : (l m : List ℕ) → doubles (l ++ m) ≡ doubles l ++ doubles m
unfolding doubles
doubles-append [] m = refl
doubles-append (b ∷ l) m = ap (λ (r : List Float). of_bits binary64 b ∷ r) (doubles-append l m)

doubles-at : (l : List ℕ) (k : ℕ) (d : Float) → k < length l → get_or (doubles l) k d ≡ of_bits binary64 (get_or l k 0)
unfolding doubles
doubles-at [] k d h = absurd (none h)
  where
    none : k < 0 → ⊥
    none j = omega arith
doubles-at (b ∷ l) zero d h = refl
doubles-at (b ∷ l) (suc k) d h = doubles-at l k d (omega arith)

-- what `copy_row` copies
module _ (factors : List ℕ) (from count : ℕ) (within : from + count ≤ length factors) where
  part-size : length (take count (drop from factors)) ≡ count
  part-size = length-take-le count (drop from factors) (rw length-drop (omega arith))

  pub row-long : length (doubles (take count (drop from factors))) ≡ count
  row-long = doubles-long (take count (drop from factors)) ∙ part-size

  pub row_at : (k : ℕ) (d : Float) → k < count → get_or (doubles (take count (drop from factors))) k d ≡ of_bits binary64 (get_or factors (from + k) 0)
  row_at k d h =
      doubles-at (take count (drop from factors)) k d (rw part-size h)
      ∙ ap (of_bits binary64) (get_or-take count (drop from factors) k 0 h ∙ get_or-drop from factors k 0)

-- ---- each column has a row

among-all : (all l : List Name) → ((x : Name) → is_in x l ≡ true → is_in x all ≡ true) → among all l ≡ true
unfolding among is_in
among-all all [] h = refl
among-all all (x ∷ l) h = rw (h x (rw (same_self x)), among-all all l (λ y e. h y (or_right (same_name x y) (is_in y l) e)))
  where
    or_right : (a b : Bool) → b ≡ true → (a || b) ≡ true
    or_right true b e = refl
    or_right false b e = e

among-at : (all l : List Name) (i : ℕ) (d : Name) → among all l ≡ true → i < length l → is_in (get_or l i d) all ≡ true
unfolding among
among-at all [] i d e h = absurd (none h)
  where
    none : i < 0 → ⊥
    none j = omega arith
among-at all (x ∷ l) zero d e h = (both (is_in x all) (among all l) e).0
among-at all (x ∷ l) (suc i) d e h = among-at all l i d (both (is_in x all) (among all l) e).1 (omega arith)

-- a complete state, as the code that fills the matrix holds it
abbrev pub whole : ℕ → List Name → List Name → List ℕ → SoFar
whole count columns rows factors =
    record { count = count; columns = take count columns; rows = take count rows; factors = take (count * count) factors }

pub record Ready (count : ℕ) (columns rows : List Name) (factors : List ℕ) : Type 0 where
  pub most : count ≤ 8
  pub square : count * count ≤ 64
  pub columns-long : length columns ≡ 8
  pub rows_long : length rows ≡ 8
  pub factors-long : length factors ≡ 64
  pub all : among (take count rows) (take count columns) ≡ true

-- what `complete` says
record Counted (s : State) : Type 0 where
  columned : s.column ≡ s.count
  rowed : s.row ≡ s.count
  factored : s.factor ≡ s.count * s.count

module _ (s : State) (f : Fits s) (e : complete (so_far s) ≡ true) where
  counted : Counted s
  counted =
      let outer = both _ (eqb s.factor (s.count * s.count)) (sym (complete-is s f) ∙ e) in
      let middle = both _ (eqb s.row s.count) outer.0 in
      let inner = both (leb 1 s.count) (eqb s.column s.count) middle.0 in
      record {
        columned = eqb-true s.column s.count inner.1;
        rowed = eqb-true s.row s.count middle.1;
        factored = eqb-true s.factor (s.count * s.count) outer.1;
      }

  pub whole_is : so_far s ≡ whole s.count s.columns s.rows s.factors
  whole_is =
      let k = counted in
      λ i.
      record {
        count = s.count;
        columns = take (k.columned i) s.columns;
        rows = take (k.rowed i) s.rows;
        factors = take (k.factored i) s.factors;
      }

  pub ready : Ready s.count s.columns s.rows s.factors
  ready =
      let k = counted in
      let columns : List Name = take s.column s.columns in
      let rows : List Name = take s.row s.rows in
      let as_many : length columns ≤ length rows = rw (columns-read s f, rows-read s f) (omega (arith, k.columned, k.rowed)) in
      let there : among rows columns ≡ true = among-all rows columns (λ x. each x columns rows f.single-rows f.rows-columns as_many) in
      record {
        most = f.most;
        square = few f.most f.most;
        columns-long = f.columns-long;
        rows_long = f.rows_long;
        factors-long = f.factors-long;
        all = rw (k.columned, k.rowed) at there;
      }

-- ---- the rows, one after the other

-- what is pasted from column c on
abbrev pub left : ℕ → List Name → List Name → List ℕ → ℕ → List Float
left count columns rows factors c = doubles (rows_for (whole count columns rows factors) (drop c (take count columns)))

-- what is known once c rows are pasted
pub record Filled (count : ℕ) (columns rows : List Name) (factors : List ℕ) (before matrix : List Float) (c : ℕ) : Type 0 where
  pub ready : Ready count columns rows factors
  pub most : c ≤ count
  pub long : length matrix ≡ length before
  pub room : 64 ≤ length before
  pub same : pasted matrix (c * count) (left count columns rows factors c) ≡ pasted before 0 (left count columns rows factors 0)

module _ (count : ℕ) (columns rows : List Name) (factors : List ℕ) (r : Ready count columns rows factors) where
  found : (n : Name) → is_in n (take count rows) ≡ true → position n (take count rows) < count
  found n e =
      rw (length-take-le count rows (omega (arith, r.most, r.rows_long)))
      at (ltb-true (position n (take count rows)) (length (take count rows)) (sym (is-in n (take count rows)) ∙ e))

  pub column-found : (c : ℕ) (d : Name) → c < count → position (get_or columns c d) (take count rows) < count
  column-found c d h =
      let within = length-take-le count columns (omega (arith, r.most, r.columns-long)) in
      found (get_or columns c d)
      (rw (get_or-take count columns c d h) at (among-at (take count rows) (take count columns) c d r.all (rw within h)))

  pub under-is : (n : Name) → position n (take count rows) < count
      → under (whole count columns rows factors) n ≡ take count (drop (position n (take count rows) * count) factors)
  unfolding under
  under-is n h = part_of factors (position n (take count rows) * count) count (count * count) (row_within count (position n (take count rows)) h)

  under-long : (n : Name) → position n (take count rows) < count → length (under (whole count columns rows factors) n) ≡ count
  under-long n h =
      ap length (under-is n h)
      ∙ length-take-le count (drop (position n (take count rows) * count) factors)
      (rw length-drop (omega (arith, r.factors-long, r.square, row_within count (position n (take count rows)) h)))

  rows_long : (ns : List Name) → among (take count rows) ns ≡ true → length (rows_for (whole count columns rows factors) ns) ≡ length ns * count
  unfolding among rows_for
  rows_long [] e = sym (zero-mul count)
  rows_long (n ∷ ns) e =
      let parts = both (is_in n (take count rows)) (among (take count rows) ns) e in
      length-append (under (whole count columns rows factors) n) (rows_for (whole count columns rows factors) ns)
      ∙ rw (under-long n (found n parts.0), rows_long ns parts.1) (omega (arith, suc-mul (length ns) count))

  pub all-long : length (left count columns rows factors 0) ≡ count * count
  all-long =
      doubles-long (rows_for (whole count columns rows factors) (take count columns))
      ∙ rows_long (take count columns) r.all
      ∙ ap (λ (n : ℕ). n * count) (length-take-le count columns (omega (arith, r.most, r.columns-long)))

  pub left-none : (c : ℕ) → count ≤ c → left count columns rows factors c ≡ []
  unfolding rows_for doubles
  left-none c h = rw (part_end columns count (omega (arith, r.most, r.columns-long)) c h)

  -- a turn: the matrix with one row more, and one row fewer to paste
  pub one-row : (matrix : List Float) (c : ℕ) (d : Name) → c < count → 64 ≤ length matrix
      → pasted matrix (c * count) (left count columns rows factors c)
      ≡ pasted (pasted matrix (c * count) (doubles (take count (drop (position (get_or columns c d) (take count rows) * count) factors)))) ((c + 1) * count) (left count columns rows factors (c + 1))
  unfolding rows_for
  one-row matrix c d h m =
      let n = get_or columns c d in
      let p = column-found c d h in
      let row : List Float = doubles (take count (drop (position n (take count rows) * count) factors)) in
      let rest : List ℕ = rows_for (whole count columns rows factors) (drop (suc c) (take count columns)) in
      let split : left count columns rows factors c ≡ row ++ doubles rest =
      ap (λ (l : List Name). doubles (rows_for (whole count columns rows factors) l)) (part-cons columns count (omega (arith, r.most, r.columns-long)) c d h)
      ∙ doubles-append (under (whole count columns rows factors) n) rest
      ∙ ap (λ (l : List ℕ). doubles l ++ doubles rest) (under-is n p) in
      let size : length row ≡ count =
      row-long factors (position n (take count rows) * count) count (omega (arith, r.factors-long, r.square, row_within count (position n (take count rows)) p)) in
      let place : c * count + length row ≡ (c + 1) * count = rw (size, add-one) (omega (arith, suc-mul c count)) in
      let start : c * count ≤ length matrix = omega (arith, r.square, row_within count c h) in
      ap (λ (l : List Float). pasted matrix (c * count) l) split
      ∙ sym (two-pasted matrix (c * count) start row (doubles rest))
      ∙ ap (λ (k : ℕ). pasted (pasted matrix (c * count) row) k (doubles rest)) place
      ∙ rw add-one refl

  module _ (before matrix : List Float) (c : ℕ) where
    pub filled_more : (d : Name) (row : ℕ) (after : List Float) → Filled count columns rows factors before matrix c → c < count
        → row ≡ position (get_or columns c d) (take count rows)
        → after ≡ pasted matrix (c * count) (doubles (take count (drop (row * count) factors)))
        → length after ≡ length matrix
        → Filled count columns rows factors before after (c + 1)
    filled_more d row after p h e a k =
        record {
          ready = r;
          most = omega arith;
          long = k ∙ p.long;
          room = p.room;
          same = rw (a, e) (sym (one-row matrix c d h (omega (arith, p.long, p.room))) ∙ p.same);
        }

    pub filled-end : Filled count columns rows factors before matrix c → count ≤ c
        → matrix ≡ doubles (rows_for (whole count columns rows factors) (take count columns)) ++ drop (count * count) before
    filled-end p h =
        let size : 0 + length (left count columns rows factors 0) ≡ count * count = omega (arith, all-long) in
        sym (none-pasted matrix (c * count))
        ∙ ap (λ (l : List Float). pasted matrix (c * count) l) (sym (left-none c h))
        ∙ p.same
        ∙ ap (λ (k : ℕ). left count columns rows factors 0 ++ drop k before) size

pub filled_none : (s : State) → Fits s → complete (so_far s) ≡ true → (matrix : List Float) → 64 ≤ length matrix
    → Filled s.count s.columns s.rows s.factors matrix matrix 0
filled_none s f e matrix h =
    record {
      ready = ready s f e;
      most = omega arith;
      long = refl;
      room = h;
      same = ap (λ (k : ℕ). pasted matrix k (left s.count s.columns s.rows s.factors 0)) (zero-mul s.count);
    }
