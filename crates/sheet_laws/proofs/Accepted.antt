-- Law 5: a sheet that follows the layout is accepted with its own columns, rows and factors. The one idea: its text is line behind line,
-- and each line is the one that `step` waits for. Assumes nothing.
use Prim.Native.Nat.{ℕ, ◌+◌, ◌-◌, ◌*◌, ◌^◌, ◌≤◌}
use mathlib.Core.Path.{◌≡◌, refl}
use mathlib.Core.Bool.{true, ◌&&◌}
use mathlib.Core.List.{List, [], ◌∷◌, ◌++◌, append_assoc, append-nil}
use native.Mathlib.Omega.{arith}
use borrow.Author.Tests.{le-leb, ltb-true, leb-true, eqb-true, eq-eqb}
use lib.Dec.{ltb, eqb}
use lib.Ieee.{binary64, of_bits}
use lib.Ieee.Scale.{finite}
use lib.ListN.{length, length-append}
use lib.Seq.{append_snoc}
use Rattle.hexadecimal.specs.Hex.{digits}
use Rattle.naming.specs.Name.{every, is_name, bytes_of, is_in}
use Rattle.naming.specs.declared.Name.{Name}
use Rattle.naming.proofs.Named.{well-formed, length-bytes}
use Rattle.exact.proofs.Truth.{both}
use Rattle.sheet.specs.Sheet.{channels_key, column_key, row_key, factor_key, SoFar, nothing, complete, accepts, read_from, cut, outcome, Block, Sheet, row_names, good_names, single, among, finite_bits, full_blocks, WellFormed, count_text, columns_text, factors_text, blocks_text, sheet_text}
use Rattle.sheet.proofs.Printing.{factors-long}
use Rattle.sheet_laws.specs.Words.{factors_of, contents}
use Rattle.sheet_laws.proofs.Lines.{plain, plain-above, every-both, plain-name, plain-digits, Accepts, line_taken}
use Rattle.sheet_laws.proofs.Names.{good-one, is-in, fresh}
use Rattle.sheet_laws.proofs.Steps.{known, count-step, column-step, row_step_lem, factor-step}

-- ---- the columns

pub columns-taken : (count : ℕ) → 1 ≤ count → (columns ns : List Name) (more : List ℕ) (u : SoFar) → length columns + length ns ≡ count → good_names ns ≡ true
    → single (columns ++ ns) ≡ true → Accepts (known count (columns ++ ns) [] []) more u → Accepts (known count columns [] []) (columns_text ns ++ more) u
unfolding columns_text column_key good_names every plain
columns-taken count some columns [] more u long good one rest = rw (append-nil columns) at rest
columns-taken count some columns (n ∷ ns) more u long good one rest =
    let goods = both (is_name n) (good_names ns) good in
    rw (append_assoc (column_key ++ bytes_of n) (10 ∷ columns_text ns) more)
    (line_taken (known count columns [] []) (known count (columns ++ n ∷ []) [] []) u (column_key ++ bytes_of n) (columns_text ns ++ more)
    (every-both plain column_key (bytes_of n) refl (plain-name n goods.0))
    (column-step count columns [] [] some n (omega arith) goods.0 (fresh n columns ns one))
    (columns-taken count some (columns ++ n ∷ []) ns more u
    (simp length-append (omega arith))
    goods.1
    (rw (append_snoc columns n ns) one)
    (rw (append_snoc columns n ns) rest)))

-- ---- the factors of a row

pub factors-taken : (count : ℕ) → 1 ≤ count → (columns rows : List Name) → length columns ≡ count → (factors fs more : List ℕ) (u : SoFar)
    → length factors + length fs ≡ length rows * count → finite_bits fs ≡ true
    → Accepts (known count columns rows (factors ++ fs)) more u → Accepts (known count columns rows factors) (factors_text fs ++ more) u
unfolding factors_text factor_key finite_bits every plain
factors-taken count some columns rows full factors [] more u long fine rest = rw (append-nil factors) at rest
factors-taken count some columns rows full factors (f ∷ fs) more u long fine rest =
    let outer = both (ltb f (2 ^ 64) && finite (of_bits binary64 f)) (finite_bits fs) fine in
    let inner = both (ltb f (2 ^ 64)) (finite (of_bits binary64 f)) outer.0 in
    rw (append_assoc (factor_key ++ digits 16 f) (10 ∷ factors_text fs) more)
    (line_taken (known count columns rows factors) (known count columns rows (factors ++ f ∷ [])) u (factor_key ++ digits 16 f) (factors_text fs ++ more)
    (every-both plain factor_key (digits 16 f) refl (plain-digits 16 f))
    (factor-step count columns rows factors some full f (omega arith) (ltb-true f (2 ^ 64) inner.0) inner.1)
    (factors-taken count some columns rows full (factors ++ f ∷ []) fs more u
    (simp length-append (omega arith))
    outer.1
    (rw (append_snoc factors f fs) rest)))

-- ---- the blocks

pub row-names-long : (bs : List Block) → length (row_names bs) ≡ length bs
unfolding row_names
row-names-long [] = refl
row-names-long (b ∷ bs) = omega (arith, row-names-long bs)

module _ (count : ℕ) (some : 1 ≤ count) (columns : List Name) (full : length columns ≡ count) (good : good_names columns ≡ true) where
  pub blocks-taken : (rows : List Name) (factors : List ℕ) (bs : List Block) → length rows + length bs ≡ count → length factors ≡ length rows * count
      → single (rows ++ row_names bs) ≡ true → among columns (row_names bs) ≡ true → full_blocks count bs ≡ true
      → Accepts (known count columns rows factors) (blocks_text bs) (known count columns (rows ++ row_names bs) (factors ++ factors_of bs))
  unfolding blocks_text row_key row_names among full_blocks factors_of every plain read_from complete cut
  blocks-taken rows factors [] long whole one known-rows filled =
      λ place.
      let all : length rows ≡ count = omega arith in
      let square : length factors ≡ count * count = rw all at whole in
      rw (
        append-nil rows,
        append-nil factors,
        le-leb 1 count some,
        eq-eqb (length columns) count full,
        eq-eqb (length rows) count all,
        eq-eqb (length factors) (count * count) square,
      )
  blocks-taken rows factors (b ∷ bs) long whole one known-rows filled =
      let n = b.row in
      let outer = both (eqb (length b.factors) count && finite_bits b.factors) (full_blocks count bs) filled in
      let inner = both (eqb (length b.factors) count) (finite_bits b.factors) outer.0 in
      let wide : length b.factors ≡ count = eqb-true (length b.factors) count inner.0 in
      let in-columns = both (is_in n columns) (among columns (row_names bs)) known-rows in
      let ok = good-one columns good n (is-in n columns in-columns.0) in
      let more = blocks_text bs in
      let grown : length factors + length b.factors ≡ length (rows ++ n ∷ []) * count = simp length-append (omega arith) in
      line_taken (known count columns rows factors) (known count columns (rows ++ n ∷ []) factors) _ (row_key ++ bytes_of n) (factors_text b.factors ++ more)
      (every-both plain row_key (bytes_of n) refl (plain-name n ok))
      (row_step_lem count columns rows factors some full n whole (omega arith) ok (fresh n rows (row_names bs) one) in-columns.0)
      (factors-taken count some columns (rows ++ n ∷ []) full factors b.factors more _ grown inner.1
      (rw (← append_snoc rows n (row_names bs), ← append_assoc factors b.factors (factors_of bs))
      (blocks-taken (rows ++ n ∷ []) (factors ++ b.factors) bs (simp length-append (omega arith)) (simp length-append (omega arith))
      (rw (append_snoc rows n (row_names bs)) one)
      in-columns.1
      outer.1)))

-- ---- its length: at most 1,907 bytes

name-long : (n : Name) → is_name n ≡ true → length (bytes_of n) ≤ 16
name-long n ok = let most = ((well-formed n).0 ok).most in rw (length-bytes n most) most

columns-long : (ns : List Name) → good_names ns ≡ true → length (columns_text ns) ≤ 24 * length ns
unfolding columns_text column_key good_names
columns-long [] good = omega arith
columns-long (n ∷ ns) good =
    let goods = both (is_name n) (good_names ns) good in
    simp length-append (omega (arith, name-long n goods.0, columns-long ns goods.1))

blocks-long : (columns : List Name) (count : ℕ) (bs : List Block) → good_names columns ≡ true → count ≤ 8 → among columns (row_names bs) ≡ true
    → full_blocks count bs ≡ true → length (blocks_text bs) ≤ 213 * length bs
unfolding blocks_text row_key row_names among full_blocks
blocks-long columns count [] good most known-rows filled = omega arith
blocks-long columns count (b ∷ bs) good most known-rows filled =
    let outer = both (eqb (length b.factors) count && finite_bits b.factors) (full_blocks count bs) filled in
    let wide : length b.factors ≡ count = eqb-true (length b.factors) count (both (eqb (length b.factors) count) (finite_bits b.factors) outer.0).0 in
    let in-columns = both (is_in b.row columns) (among columns (row_names bs)) known-rows in
    let ok = good-one columns good b.row (is-in b.row columns in-columns.0) in
    simp length-append
    (omega (arith, name-long b.row ok, factors-long b.factors, blocks-long columns count bs good most in-columns.1 outer.1))

-- ---- a whole sheet

module _ (s : Sheet) (w : WellFormed s) where
  pub sheet-long : length (sheet_text s) ≤ 1907
  unfolding sheet_text count_text channels_key
  sheet-long =
      let most = leb-true (length s.columns) 8 w.most in
      let each = w.block_each in
      simp length-append
      (omega (arith, columns-long s.columns w.names, blocks-long s.columns (length s.columns) s.blocks w.names most w.rows_are_columns w.full))

  lines-taken : Accepts nothing (sheet_text s) (contents s)
  unfolding sheet_text count_text channels_key contents every plain
  lines-taken =
      let count = length s.columns in
      let some = leb-true 1 count w.some in
      let each = w.block_each in
      line_taken nothing (known count [] [] []) (contents s) (channels_key ++ (48 + count) ∷ []) (columns_text s.columns ++ blocks_text s.blocks)
      (simp (plain-above (48 + count) (omega arith)))
      (count-step count some (leb-true count 8 w.most))
      (columns-taken count some [] s.columns (blocks_text s.blocks) (contents s) (omega arith) w.names w.single_columns
      (blocks-taken count some s.columns refl w.names [] [] s.blocks (omega arith) (omega arith) w.single_rows w.rows_are_columns w.full))

  pub accepted : (numbers : ℕ) → 64 ≤ numbers → outcome (sheet_text s) numbers ≡ accepts (contents s)
  unfolding outcome
  accepted numbers room = rw (le-leb (length (sheet_text s)) 4096 (omega (arith, sheet-long)), le-leb 64 numbers room) (lines-taken 1)
