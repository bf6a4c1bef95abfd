-- A line that is taken keeps what was read sound, and grows its text by exactly that line. The one idea: what was read so far has a text of
-- its own. Assumes nothing.
use Prim.Native.Nat.{ℕ, ◌+◌, ◌-◌, ◌*◌, ◌^◌, ◌≤◌, ◌<◌}
use mathlib.Core.Path.{◌≡◌, refl, ap, subst}
use mathlib.Core.Bool.{Bool, true, false, ◌&&◌, cond}
use mathlib.Core.List.{List, [], ◌∷◌, ◌++◌, append_assoc, append-nil}
use native.Mathlib.Omega.{arith}
use borrow.Author.Tests.{ltb-true, ltb-false, lt-ltb, ne_eqb}
use lib.Dec.{ltb}
use lib.Ieee.{binary64, of_bits}
use lib.Ieee.Scale.{finite}
use lib.ListN.{length, length-append}
use Rattle.naming.specs.Name.{is_name, is_in}
use Rattle.naming.specs.declared.Name.{Name}
use Rattle.quant.specs.declared.refusal.Refusal.TheVariants.{Layout}
use Rattle.exact.proofs.Truth.{never, both}
use Rattle.sheet.specs.Sheet.{column_key, row_key, factor_key, behind, column_step, row_step, factor_step, SoFar, goes, stops, step, good_names, single, among, finite_bits, count_text, columns_text, blocks_text}
use Rattle.sheet_laws.specs.Words.{In, here, there, blocks_from}
use Rattle.sheet_laws.proofs.Backwards.{not-stops, ColumnLine, column-line, RowLine, row_line, FactorLine, factor-line}
use Rattle.sheet_laws.proofs.Names.{in_is, not_in, single-first, single-rest}
use Rattle.sheet_laws.proofs.Parts.{column-more, row_more, factor-more}

-- ---- lists with one more at the end

good_more : (ns : List Name) (n : Name) → good_names ns ≡ true → is_name n ≡ true → good_names (ns ++ n ∷ []) ≡ true
unfolding good_names
good_more [] n e ok = simp ok
good_more (m ∷ ms) n e ok = let parts = both (is_name m) (good_names ms) e in simp (parts.0, good_more ms n parts.1 ok)

among-more : (all ns : List Name) (n : Name) → among all ns ≡ true → is_in n all ≡ true → among all (ns ++ n ∷ []) ≡ true
unfolding among
among-more all [] n e h = simp h
among-more all (m ∷ ms) n e h = let parts = both (is_in m all) (among all ms) e in simp (parts.0, among-more all ms n parts.1 h)

finite-more : (fs : List ℕ) (f : ℕ) → finite_bits fs ≡ true → f < 2 ^ 64 → finite (of_bits binary64 f) ≡ true → finite_bits (fs ++ f ∷ []) ≡ true
unfolding finite_bits
finite-more [] f e small fine = simp (lt-ltb f (2 ^ 64) small, fine)
finite-more (g ∷ gs) f e small fine =
    let parts = both (ltb g (2 ^ 64) && finite (of_bits binary64 g)) (finite_bits gs) e in
    simp (parts.0, finite-more gs f parts.1 small fine)

in_more : (m : Name) (ns : List Name) (n : Name) → In m (ns ++ n ∷ []) → (In m ns → ⊥) → m ≡ n
in_more m [] n here out = refl
in_more m (x ∷ xs) n here out = absurd (out here)
in_more m (x ∷ xs) n (there h) out = in_more m xs n h (λ k. out (there k))
in_more m [] n (there h) out = elim h [ ]

single_more : (ns : List Name) (n : Name) → single ns ≡ true → (In n ns → ⊥) → single (ns ++ n ∷ []) ≡ true
unfolding single is_in
single_more [] n e out = refl
single_more (m ∷ ms) n e out =
    let alone : is_in m (ms ++ n ∷ []) ≡ false =
    not_in m (ms ++ n ∷ []) (λ h. out (subst (λ (x : Name). In x (m ∷ ms)) (in_more m ms n h (single-first m ms e)) here)) in
    rw (alone, single_more ms n (single-rest m ms e) (λ h. out (there h)))

-- ---- what was read so far, once the count is known

pub record Sound (s : SoFar) : Type 0 where
  pub some : 1 ≤ s.count
  pub most : s.count ≤ 8
  pub names : good_names s.columns ≡ true
  pub single_columns : single s.columns ≡ true
  pub width : length s.columns ≤ s.count
  -- rows and factors come behind the last column
  pub early : length s.columns < s.count → (s.rows ≡ []) × (s.factors ≡ [])
  pub single_rows : single s.rows ≡ true
  pub rows_are_columns : among s.columns s.rows ≡ true
  pub height : length s.rows ≤ s.count
  pub fine : finite_bits s.factors ≡ true
  -- only the last row may still lack factors
  pub most-factors : length s.factors ≤ length s.rows * s.count
  pub least-factors : length s.rows * s.count ≤ length s.factors + s.count

-- its text
unfoldable pub text_of : SoFar → List ℕ
text_of s = count_text s.count ++ columns_text s.columns ++ blocks_text (blocks_from s.count s.rows s.factors)

-- a line that is taken keeps it sound and grows its text
pub record Grown (s : SoFar) (line : List ℕ) (t : SoFar) : Type 0 where
  pub sound : Sound t
  pub text : text_of t ≡ text_of s ++ (line ++ 10 ∷ [])

column-grows : (s t : SoFar) (line : List ℕ) → Sound s → length s.columns < s.count → ColumnLine s line t → Grown s line t
unfolding text_of among blocks_text blocks_from
column-grows s t line g room c =
    let n = c.name in
    let e = g.early room in
    let none : length s.rows ≡ 0 = ap length e.0 in
    let zero-factors : length s.factors ≡ 0 = ap length e.1 in
    rw c.now-known
    (record {
      sound =
          record {
            some = g.some;
            most = g.most;
            names = good_more s.columns n g.names c.ok;
            single_columns = single_more s.columns n g.single_columns (λ h. never (in_is n s.columns h) c.single);
            width = rw length-append (omega arith);
            early = λ more. e;
            single_rows = g.single_rows;
            rows_are_columns = rw e.0;
            height = g.height;
            fine = g.fine;
            most-factors = g.most-factors;
            least-factors = g.least-factors;
          };
      text = rw (e.0, c.line-is, column-more s.columns n) (simp (append-nil, append_assoc));
    })

row-grows : (s t : SoFar) (line : List ℕ) → Sound s → s.count ≤ length s.columns → length s.rows * s.count ≤ length s.factors
    → length s.rows < s.count → RowLine s line t → Grown s line t
unfolding text_of
row-grows s t line g full whole room c =
    let n = c.name in
    let wider : (length s.rows + 1) * s.count ≡ length s.rows * s.count + s.count = omega arith in
    rw c.now-known
    (record {
      sound =
          record {
            some = g.some;
            most = g.most;
            names = g.names;
            single_columns = g.single_columns;
            width = g.width;
            early = λ more. absurd (omega arith);
            single_rows = single_more s.rows n g.single_rows (λ h. never (in_is n s.rows h) c.single);
            rows_are_columns = among-more s.columns s.rows n g.rows_are_columns c.column;
            height = rw length-append (omega arith);
            fine = g.fine;
            most-factors = rw (length-append, wider) (omega (arith, g.most-factors));
            least-factors = rw (length-append, wider) (omega arith);
          };
      text = rw (c.line-is, row_more s.count s.rows s.factors n g.most-factors) (simp append_assoc);
    })

factor-grows : (s t : SoFar) (line : List ℕ) → Sound s → s.count ≤ length s.columns → length s.factors < length s.rows * s.count
    → FactorLine s line t → Grown s line t
unfolding text_of
factor-grows s t line g full room c =
    let f = c.bits in
    rw c.now-known
    (record {
      sound =
          record {
            some = g.some;
            most = g.most;
            names = g.names;
            single_columns = g.single_columns;
            width = g.width;
            early = λ more. absurd (omega arith);
            single_rows = g.single_rows;
            rows_are_columns = g.rows_are_columns;
            height = g.height;
            fine = finite-more s.factors f g.fine c.small c.fine;
            most-factors = rw length-append (omega arith);
            least-factors = rw length-append (omega (arith, g.least-factors));
          };
      text = rw (c.line-is, factor-more s.count s.rows s.factors f room g.least-factors) (simp append_assoc);
    })

-- ---- line after line

pub line-grows : (s t : SoFar) (line : List ℕ) → Sound s → step s line ≡ goes t → Grown s line t
unfolding step
line-grows s t line g e =
    by (ltb (length s.columns) s.count) refl (ltb (length s.factors) (length s.rows * s.count)) refl (ltb (length s.rows) s.count) refl
    (rw (ne_eqb s.count 0 (λ z. omega (arith, g.some))) at e)
  where
    by : (a : Bool) → ltb (length s.columns) s.count ≡ a → (b : Bool) → ltb (length s.factors) (length s.rows * s.count) ≡ b
        → (d : Bool) → ltb (length s.rows) s.count ≡ d
        → cond a (column_step s (behind column_key line))
        (cond b (factor_step s (behind factor_key line)) (cond d (row_step s (behind row_key line)) (stops Layout)))
        ≡ goes t → Grown s line t
    by true ea b eb d ed e = column-grows s t line g (ltb-true _ _ ea) (column-line s line t e)
    by false ea true eb d ed e = factor-grows s t line g (ltb-false _ _ ea) (ltb-true _ _ eb) (factor-line s line t e)
    by false ea false eb true ed e = row-grows s t line g (ltb-false _ _ ea) (ltb-false _ _ eb) (ltb-true _ _ ed) (row_line s line t e)
    by false ea false eb false ed e = absurd (not-stops e)
