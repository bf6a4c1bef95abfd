-- A sheet's text grows at its end: one column, one row or one factor more is one line more. And rows and factors put together to blocks
-- are taken apart again. Assumes nothing.
use Prim.Native.Nat.{ℕ, zero, suc, ◌+◌, ◌-◌, ◌*◌, ◌^◌, ◌≤◌, ◌<◌}
use mathlib.Core.Path.{◌≡◌, refl, sym, ap}
use mathlib.Core.Bool.{true, ◌&&◌}
use mathlib.Core.List.{List, [], ◌∷◌, ◌++◌, append_assoc}
use native.Mathlib.Omega.{arith}
use native.Mathlib.Nat.{suc-mul, zero-mul}
use borrow.Author.Tests.{eq-eqb}
use lib.Dec.{ltb}
use lib.Ieee.{binary64, of_bits}
use lib.Ieee.Scale.{finite}
use lib.ListN.{length, take, drop, length-append, length-drop, take-append-drop}
use lib.Seq.{take-nil, take_all, take-append-le, drop-append-le, length-take-le}
use Rattle.hexadecimal.specs.Hex.{digits}
use Rattle.naming.specs.Name.{bytes_of}
use Rattle.naming.specs.declared.Name.{Name}
use Rattle.exact.proofs.Truth.{both}
use Rattle.sheet.specs.Sheet.{column_key, row_key, factor_key, row_names, finite_bits, full_blocks, columns_text, factors_text, blocks_text}
use Rattle.sheet_laws.specs.Words.{factors_of, blocks_from}

pub empty : {A : Type 0} (l : List A) → length l ≤ 0 → l ≡ []
empty [] h = refl
empty (x ∷ xs) h = absurd (omega arith)

-- ---- one line more

pub column-more : (ns : List Name) (n : Name) → columns_text (ns ++ n ∷ []) ≡ columns_text ns ++ (column_key ++ bytes_of n ++ 10 ∷ [])
unfolding columns_text
column-more [] n = refl
column-more (m ∷ ms) n = rw (column-more ms n) (sym (append_assoc (column_key ++ bytes_of m) (10 ∷ columns_text ms) (column_key ++ bytes_of n ++ 10 ∷ [])))

pub factors-more : (fs : List ℕ) (f : ℕ) → factors_text (fs ++ f ∷ []) ≡ factors_text fs ++ (factor_key ++ digits 16 f ++ 10 ∷ [])
unfolding factors_text
factors-more [] f = refl
factors-more (g ∷ gs) f = rw (factors-more gs f) (sym (append_assoc (factor_key ++ digits 16 g) (10 ∷ factors_text gs) (factor_key ++ digits 16 f ++ 10 ∷ [])))

module _ (count : ℕ) where
  pub row_more : (rows : List Name) (factors : List ℕ) (n : Name) → length factors ≤ length rows * count
      → blocks_text (blocks_from count (rows ++ n ∷ []) factors) ≡ blocks_text (blocks_from count rows factors) ++ (row_key ++ bytes_of n ++ 10 ∷ [])
  unfolding blocks_text blocks_from factors_text
  row_more [] factors n short =
      let none : factors ≡ [] = empty factors (omega (arith, zero-mul count)) in
      rw (none, take-nil count)
  row_more (m ∷ ms) factors n short =
      let wide = suc-mul (length ms) count in
      let less : length (drop count factors) ≤ length ms * count = rw length-drop (omega arith) in
      rw (row_more ms (drop count factors) n less) (simp append_assoc)

  pub factor-more : (rows : List Name) (factors : List ℕ) (f : ℕ) → length factors < length rows * count → length rows * count ≤ length factors + count
      → blocks_text (blocks_from count rows (factors ++ f ∷ [])) ≡ blocks_text (blocks_from count rows factors) ++ (factor_key ++ digits 16 f ++ 10 ∷ [])
  unfolding blocks_text blocks_from
  factor-more [] factors f short near = absurd (omega (arith, zero-mul count))
  factor-more (n ∷ []) factors f short near =
      let room : length factors < count = omega arith in
      let whole : take count (factors ++ f ∷ []) ≡ factors ++ f ∷ [] = take_all count (factors ++ f ∷ []) (rw length-append (omega arith)) in
      let before : take count factors ≡ factors = take_all count factors (omega arith) in
      rw (whole, before, factors-more factors f) (simp append_assoc)
  factor-more (n ∷ (m ∷ ms)) factors f short near =
      let past : count ≤ length factors = omega (arith, suc-mul (suc (length ms)) count, suc-mul (length ms) count) in
      let less : length (drop count factors) < suc (length ms) * count = rw length-drop (omega (arith, suc-mul (suc (length ms)) count)) in
      let close : suc (length ms) * count ≤ length (drop count factors) + count = rw length-drop (omega (arith, suc-mul (suc (length ms)) count)) in
      rw (take-append-le count factors (f ∷ []) past, drop-append-le count factors (f ∷ []) past, factor-more (m ∷ ms) (drop count factors) f less close) (simp append_assoc)

  -- ---- blocks taken apart

  pub rows-from : (rows : List Name) (factors : List ℕ) → row_names (blocks_from count rows factors) ≡ rows
  unfolding row_names blocks_from
  rows-from [] factors = refl
  rows-from (n ∷ ns) factors = ap (λ (l : List Name). n ∷ l) (rows-from ns (drop count factors))

  pub long-from : (rows : List Name) (factors : List ℕ) → length (blocks_from count rows factors) ≡ length rows
  unfolding blocks_from
  long-from [] factors = refl
  long-from (n ∷ ns) factors = ap suc (long-from ns (drop count factors))

  pub factors-from : (rows : List Name) (factors : List ℕ) → length factors ≤ length rows * count → factors_of (blocks_from count rows factors) ≡ factors
  unfolding factors_of blocks_from
  factors-from [] factors short = sym (empty factors (omega (arith, zero-mul count)))
  factors-from (n ∷ ns) factors short =
      let less : length (drop count factors) ≤ length ns * count = rw length-drop (omega (arith, suc-mul (length ns) count)) in
      rw (factors-from ns (drop count factors) less) (take-append-drop count factors)

finite-part : (k : ℕ) (fs : List ℕ) → finite_bits fs ≡ true → (finite_bits (take k fs) ≡ true) × (finite_bits (drop k fs) ≡ true)
unfolding finite_bits
finite-part zero fs e = (refl, e)
finite-part (suc k) [] e = (refl, refl)
finite-part (suc k) (f ∷ fs) e =
    let parts = both (ltb f (2 ^ 64) && finite (of_bits binary64 f)) (finite_bits fs) e in
    let rest = finite-part k fs parts.1 in
    (simp (parts.0, rest.0), rest.1)

pub full_from : (count : ℕ) (rows : List Name) (factors : List ℕ) → length factors ≡ length rows * count → finite_bits factors ≡ true
    → full_blocks count (blocks_from count rows factors) ≡ true
unfolding full_blocks blocks_from
full_from count [] factors long fine = refl
full_from count (n ∷ ns) factors long fine =
    let wide = suc-mul (length ns) count in
    let parts = finite-part count factors fine in
    let less : length (drop count factors) ≡ length ns * count = rw length-drop (omega arith) in
    let row : length (take count factors) ≡ count = length-take-le count factors (omega arith) in
    rw (eq-eqb (length (take count factors)) count row, parts.0, full_from count ns (drop count factors) less parts.1)
