-- One line more: what the definition says of a line, in the cases that the code tells apart, and that the state goes on to fit.
-- Assumes nothing.
use Rattle.std.specs.Prelude.{Option, Some, None}
use Prim.Native.Nat.{ℕ, zero, suc, ◌+◌, ◌-◌, ◌*◌, ◌≤◌, ◌<◌}
use mathlib.Core.Bool.{Bool, true, false, ◌&&◌, cond, true≢false}
use mathlib.Core.List.{List, [], ◌∷◌, ◌++◌}
use mathlib.Core.Path.{◌≡◌, refl, sym, ap, ◌∙◌}
use native.Mathlib.Nat.{le_refl, mul-le-mul}
use native.Mathlib.Numerals.{add-one}
use native.Mathlib.Omega.{arith}
use borrow.Author.Tests.{eq-eqb, ne_eqb, le-leb, lt-leb, lt-ltb, le-ltb}
use lib.Dec.{leb, eqb}
use lib.Ieee.{binary64, of_bits}
use lib.Ieee.Scale.{finite}
use lib.ListN.{length, get_or, take, drop, set, replicate, length-set, length-drop, take-append-drop}
use lib.Seq.{drop-cons, drop-length, drop-set-lt, length-take-le, take_all, take-append-add, take-suc-set}
use Rattle.hexadecimal.specs.Hex.{all_digits, number, room, field, word_at}
use Rattle.naming.specs.Name.{naming_of, is_in}
use Rattle.naming.specs.declared.Name.{Name}
use Rattle.quant.specs.declared.refusal.Refusal.TheVariants.{Layout}
use Rattle.sheet.specs.Reader.{so_far, begun, Fits}
use Rattle.sheet.specs.Sheet.{channels_key, column_key, row_key, factor_key, behind, eight, step, complete, value, SoFar, goes, stops, count_step, column_named, column_step, row_named, row_step, factor_bits, factor_step, blank, among}
use Rattle.sheet.specs.declared.state.State.{State}
use Rattle.sheet.proofs.Each.{among-append, among-more, single_more}
use Rattle.sheet.proofs.Parts.{few}

-- ---- `channels=N`

module _ (line : List ℕ) where
  pub count_long : (length line ≡ 10 → ⊥) → 9 ≤ length line → count_step (value (drop 9 line)) ≡ stops Layout
  unfolding count_step
  count_long n h = by (drop 9 line) (λ e. n (omega (arith, length-drop 9 line)))
    where
      by : (rest : List ℕ) → (length rest ≡ 1 → ⊥) → count_step (value rest) ≡ stops Layout
      by [] k = refl
      by (d ∷ []) k = absurd (k refl)
      by (d ∷ (e ∷ es)) k = refl

  module _ (h : length line ≡ 10) where
    last : drop 9 line ≡ get_or line 9 0 ∷ []
    last = drop-cons line 9 0 (omega arith) ∙ ap (λ (l : List ℕ). get_or line 9 0 ∷ l) (ap (λ (n : ℕ). drop n line) (sym h) ∙ drop-length line)

    pub count_low : get_or line 9 0 < 49 → count_step (value (drop 9 line)) ≡ stops Layout
    unfolding count_step
    count_low k = rw last (simp (lt-leb 49 (get_or line 9 0) k))

    pub count-high : 49 ≤ get_or line 9 0 → 56 < get_or line 9 0 → count_step (value (drop 9 line)) ≡ stops Layout
    unfolding count_step
    count-high j k = rw last (simp (le-leb 49 (get_or line 9 0) j, lt-leb (get_or line 9 0) 56 k))

    pub count-digit : 49 ≤ get_or line 9 0 → get_or line 9 0 ≤ 56 → count_step (value (drop 9 line)) ≡ goes (begun (get_or line 9 0 - 48))
    unfolding count_step
    count-digit j k = rw last (simp (le-leb 49 (get_or line 9 0) j, le-leb (get_or line 9 0) 56 k))

-- ---- a name more

take-replicate : (k n : ℕ) → k ≤ n → take k (replicate n blank) ≡ replicate k blank
take-replicate zero n h = refl
take-replicate (suc k) zero h = absurd (none h)
  where
    none : suc k ≤ 0 → ⊥
    none j = omega arith
take-replicate (suc k) (suc n) h = ap (λ (l : List Name). blank ∷ l) (take-replicate k n (omega arith))

abbrev pub with_column : State → Name → State
with_column s n =
    record {
      count = s.count;
      columns = set s.columns s.column n;
      column = s.column + 1;
      rows = s.rows;
      row = s.row;
      factors = s.factors;
      factor = s.factor;
    }

abbrev pub with_row : State → Name → State
with_row s n =
    record {
      count = s.count;
      columns = s.columns;
      column = s.column;
      rows = set s.rows s.row n;
      row = s.row + 1;
      factors = s.factors;
      factor = s.factor;
    }

abbrev pub with_factor : State → ℕ → State
with_factor s bits =
    record {
      count = s.count;
      columns = s.columns;
      column = s.column;
      rows = s.rows;
      row = s.row;
      factors = set s.factors s.factor bits;
      factor = s.factor + 1;
    }

one_more : {A : Type 0} (l : List A) (i : ℕ) (a : A) → i < length l → take (i + 1) (set l i a) ≡ take i l ++ a ∷ []
one_more l i a h = rw add-one (take-suc-set l i a h)

-- blanks behind one name more
still-blank : (l : List Name) (i : ℕ) (n : Name) → i < 8 → length l ≡ 8 → drop i l ≡ replicate (8 - i) blank
    → drop (i + 1) (set l i n) ≡ replicate (8 - (i + 1)) blank
still-blank l i n h e b =
    let left : 8 - i ≡ suc (8 - (i + 1)) = omega arith in
    let all : get_or l i blank ∷ drop (i + 1) l ≡ replicate (suc (8 - (i + 1))) blank =
    rw add-one (sym (drop-cons l i blank (omega arith))) ∙ rw left at b in
    rw (drop-set-lt (i + 1) l i n (omega arith)) (tail (drop (i + 1) l) (8 - (i + 1)) all)
  where
    tail : (r : List Name) (k : ℕ) → get_or l i blank ∷ r ≡ replicate (suc k) blank → r ≡ replicate k blank
    tail r k p = cc

module _ (s : State) (f : Fits s) where
  pub rows_few : s.row * s.count ≤ 64
  rows_few = few (omega (arith, f)) f.most

  module _ (h : s.column < s.count) (n : Name) where
    pub column-goes : is_in n (take s.column s.columns) ≡ false → column_named (so_far s) (Some n) ≡ goes (so_far (with_column s n))
    unfolding column_named
    column-goes e = rw e (ap goes (λ i. record { count = s.count; columns = sym more i; rows = (so_far s).rows; factors = (so_far s).factors }))
      where
        more : take (s.column + 1) (set s.columns s.column n) ≡ take s.column s.columns ++ n ∷ []
        more = one_more s.columns s.column n (omega (arith, f))

    pub column_fits : Fits (with_column s n)
    column_fits =
        record {
          most = f.most;
          columns-most = omega arith;
          rows-most = f.rows-most;
          factors-most = f.factors-most;
          columns-long = length-set s.columns s.column n ∙ f.columns-long;
          rows_long = f.rows_long;
          factors-long = f.factors-long;
          blanks = still-blank s.columns s.column n (omega (arith, f)) f.columns-long f.blanks;
          single-rows = f.single-rows;
          rows-columns = rw (one_more s.columns s.column n (omega (arith, f))) (among-more (take s.column s.columns) (n ∷ []) (take s.row s.rows) f.rows-columns);
        }

  module _ (h : s.row < s.count) (n : Name) where
    row_more : take (s.row + 1) (set s.rows s.row n) ≡ take s.row s.rows ++ n ∷ []
    row_more = one_more s.rows s.row n (omega (arith, f))

    pub row_goes : is_in n (take s.row s.rows) ≡ false → is_in n (take s.column s.columns) ≡ true → row_named (so_far s) (Some n) ≡ goes (so_far (with_row s n))
    unfolding row_named
    row_goes e k = rw (e, k) (ap goes (λ i. record { count = s.count; columns = (so_far s).columns; rows = sym row_more i; factors = (so_far s).factors }))

    pub row_fits : is_in n (take s.row s.rows) ≡ false → is_in n (take s.column s.columns) ≡ true → Fits (with_row s n)
    unfolding among
    row_fits e k =
        record {
          most = f.most;
          columns-most = f.columns-most;
          rows-most = omega arith;
          factors-most = omega (arith, f.factors-most, mul-le-mul {n₁ = s.row} {m₁ = s.count} {n₂ = s.row + 1} {m₂ = s.count} (omega arith) (omega arith));
          columns-long = f.columns-long;
          rows_long = length-set s.rows s.row n ∙ f.rows_long;
          factors-long = f.factors-long;
          blanks = f.blanks;
          single-rows = rw row_more (single_more n (take s.row s.rows) f.single-rows e);
          rows-columns = rw (row_more, among-append (take s.column s.columns) (take s.row s.rows) (n ∷ []), f.rows-columns, k);
        }

  module _ (h : s.factor < s.row * s.count) (bits : ℕ) where
    pub factor-goes : finite (of_bits binary64 bits) ≡ true → factor_bits (so_far s) bits ≡ goes (so_far (with_factor s bits))
    unfolding factor_bits
    factor-goes e = rw e (ap goes (λ i. record { count = s.count; columns = (so_far s).columns; rows = (so_far s).rows; factors = sym more i }))
      where
        more : take (s.factor + 1) (set s.factors s.factor bits) ≡ take s.factor s.factors ++ bits ∷ []
        more = one_more s.factors s.factor bits (omega (arith, f.factors-long, rows_few))

-- ---- which line is due

part-long : {A : Type 0} (l : List A) (k : ℕ) → k ≤ length l → take (length l - k) (drop k l) ≡ drop k l
part-long l k h = take_all (length l - k) (drop k l) (rw length-drop (le_refl (length l - k)))

module _ (s : SoFar) (line : List ℕ) (m : Option Name) where
  pub column-read : behind column_key line ≡ value (drop 7 line) → 7 ≤ length line
      → m ≡ naming_of (take (length line - 7) (drop 7 line)) → column_step s (behind column_key line) ≡ column_named s m
  unfolding column_step
  column-read e h n = rw (e, n, part-long line 7 h)

  pub row_read : behind row_key line ≡ value (drop 4 line) → 4 ≤ length line
      → m ≡ naming_of (take (length line - 4) (drop 4 line)) → row_step s (behind row_key line) ≡ row_named s m
  unfolding row_step
  row_read e h n = rw (e, n, part-long line 4 h)

module _ (s : SoFar) (line : List ℕ) (e : behind factor_key line ≡ value (drop 7 line)) where
  pub factor-short : (length line ≡ 23 → ⊥) → 7 ≤ length line → factor_step s (behind factor_key line) ≡ stops Layout
  unfolding factor_step
  factor-short n h = rw (e, ne_eqb (length (drop 7 line)) 16 (λ k. n (omega (arith, length-drop 7 line))))

  module _ (h : length line ≡ 23) where
    sixteen-long : length (drop 7 line) ≡ 16
    sixteen-long = length-drop 7 line ∙ omega arith

    there-is-room : room line 7 ≡ true
    unfolding room
    there-is-room = le-leb (7 + 16) (length line) (omega arith)

    whole-field : field line 7 ≡ drop 7 line
    unfolding field
    whole-field = take_all 16 (drop 7 line) (omega (arith, sixteen-long))

    told-by : (t : Bool) → all_digits (drop 7 line) ≡ t
        → (word_at line 7 ≡ cond t (Some (number (drop 7 line))) None)
        × (factor_step s (behind factor_key line) ≡ cond t (factor_bits s (number (drop 7 line))) (stops Layout))
    unfolding word_at factor_step
    told-by t d = (rw (there-is-room, whole-field, d), rw (e, eq-eqb (length (drop 7 line)) 16 sixteen-long, d))

    pub factor-read : (bits : ℕ) → word_at line 7 ≡ Some bits → factor_step s (behind factor_key line) ≡ factor_bits s bits
    factor-read bits w = by (all_digits (drop 7 line)) refl
      where
        by : (t : Bool) → all_digits (drop 7 line) ≡ t → factor_step s (behind factor_key line) ≡ factor_bits s bits
        by true d = let b : number (drop 7 line) ≡ bits = cc (told-by true d).0 in (told-by true d).1 ∙ ap (factor_bits s) b
        by false d = let z : true ≡ false = cc (told-by false d).0 in absurd (true≢false z)

    pub factor-bad : word_at line 7 ≡ None → factor_step s (behind factor_key line) ≡ stops Layout
    factor-bad w = by (all_digits (drop 7 line)) refl
      where
        by : (t : Bool) → all_digits (drop 7 line) ≡ t → factor_step s (behind factor_key line) ≡ stops Layout
        by true d = let z : true ≡ false = cc (told-by true d).0 in absurd (true≢false z)
        by false d = (told-by false d).1

module _ (s : State) (f : Fits s) where
  pub columns-read : length (take s.column s.columns) ≡ s.column
  columns-read = length-take-le s.column s.columns (omega (arith, f))

  pub rows-read : length (take s.row s.rows) ≡ s.row
  rows-read = length-take-le s.row s.rows (omega (arith, f))

  pub factors-read : length (take s.factor s.factors) ≡ s.factor
  factors-read = length-take-le s.factor s.factors (omega (arith, f.factors-most, rows_few, f.factors-long))

  module _ (line : List ℕ) where
    pub step_count : s.count ≡ 0 → step (so_far s) line ≡ count_step (behind channels_key line)
    unfolding step
    step_count e = rw (eq-eqb s.count 0 e)

    module _ (some : s.count ≡ 0 → ⊥) where
      pub step-column : s.column < s.count → step (so_far s) line ≡ column_step (so_far s) (behind column_key line)
      unfolding step
      step-column h = rw (ne_eqb s.count 0 some, columns-read, lt-ltb s.column s.count h)

      module _ (named : s.count ≤ s.column) where
        pub step-factor : s.factor < s.row * s.count → step (so_far s) line ≡ factor_step (so_far s) (behind factor_key line)
        unfolding step
        step-factor h =
            rw (
              ne_eqb s.count 0 some,
              columns-read,
              le-ltb s.column s.count named,
              factors-read,
              rows-read,
              lt-ltb s.factor (s.row * s.count) h,
            )

        module _ (full : s.row * s.count ≤ s.factor) where
          pub step_row : s.row < s.count → step (so_far s) line ≡ row_step (so_far s) (behind row_key line)
          unfolding step
          step_row h =
              simp (
                ne_eqb s.count 0 some,
                columns-read,
                le-ltb s.column s.count named,
                factors-read,
                rows-read,
                le-ltb s.factor (s.row * s.count) full,
                lt-ltb s.row s.count h,
              )

          pub step-none : s.count ≤ s.row → step (so_far s) line ≡ stops Layout
          unfolding step
          step-none h =
              simp (
                ne_eqb s.count 0 some,
                columns-read,
                le-ltb s.column s.count named,
                factors-read,
                rows-read,
                le-ltb s.factor (s.row * s.count) full,
                le-ltb s.row s.count h,
              )

  -- ---- where the lines end

  pub complete-is : complete (so_far s) ≡ (leb 1 s.count && eqb s.column s.count && eqb s.row s.count && eqb s.factor (s.count * s.count))
  unfolding complete
  complete-is = rw (columns-read, rows-read, factors-read)

  pub names-eight : s.columns ≡ eight (take s.column s.columns)
  unfolding eight
  names-eight =
      let read : List Name = take s.column s.columns in
      let size : length read + (8 - s.column) ≡ 8 = rw columns-read (omega (arith, f)) in
      sym
      (ap (λ (k : ℕ). take k (read ++ replicate 8 blank)) (sym size)
      ∙ take-append-add read (replicate 8 blank) (8 - s.column)
      ∙ ap (λ (l : List Name). read ++ l) (take-replicate (8 - s.column) 8 (omega arith) ∙ sym f.blanks)
      ∙ take-append-drop s.column s.columns)
