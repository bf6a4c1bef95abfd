-- What one good line adds to what was read before it: the count, a column, a row, a factor. Each is the definition's own case, with its
-- tests answered. Assumes nothing.
use Rattle.std.specs.Prelude.{Some}
use Prim.Native.Nat.{ℕ, ◌+◌, ◌-◌, ◌*◌, ◌^◌, ◌≤◌, ◌<◌}
use mathlib.Core.Path.{◌≡◌}
use mathlib.Core.Bool.{true, false}
use mathlib.Core.List.{List, [], ◌∷◌, ◌++◌}
use native.Mathlib.Omega.{arith}
use native.Mathlib.Nat.{mod-eq_of_lt}
use borrow.Author.Tests.{le-leb, lt-ltb, le-ltb, ne_eqb}
use lib.Dec.{ltb, eqb}
use lib.Ieee.{binary64, of_bits}
use lib.Ieee.Scale.{finite}
use lib.ListN.{length}
use Rattle.hexadecimal.specs.Hex.{number, digits}
use Rattle.hexadecimal.proofs.Number.{all_digits_lem, length_digits, number_digits}
use Rattle.naming.specs.Name.{naming_of, is_name, bytes_of, is_in}
use Rattle.naming.specs.declared.Name.{Name}
use Rattle.naming.proofs.Named.{named_back, bytes-accepted}
use Rattle.sheet.specs.Sheet.{channels_key, column_key, row_key, factor_key, SoFar, nothing, goes, count_step, column_named, column_step, row_named, row_step, factor_bits, factor_step, step}
use Rattle.sheet_laws.proofs.Lines.{behind-key}

pub naming-back : (n : Name) → is_name n ≡ true → naming_of (bytes_of n) ≡ Some n
unfolding naming_of
naming-back n ok = rw (bytes-accepted n ok, named_back n ok)

pub number-back : (bits : ℕ) → bits < 2 ^ 64 → number (digits 16 bits) ≡ bits
number-back bits small = rw (number_digits 16 bits) (mod-eq_of_lt small)

abbrev pub known : ℕ → List Name → List Name → List ℕ → SoFar
known count columns rows factors = record { count = count; columns = columns; rows = rows; factors = factors }

pub count-step : (count : ℕ) → 1 ≤ count → count ≤ 8 → step nothing (channels_key ++ (48 + count) ∷ []) ≡ goes (known count [] [] [])
unfolding step nothing count_step
count-step count some most =
    let back : 48 + count - 48 ≡ count = omega arith in
    rw (behind-key channels_key ((48 + count) ∷ []), le-leb 49 (48 + count) (omega arith), le-leb (48 + count) 56 (omega arith), back)

module _ (count : ℕ) (columns rows : List Name) (factors : List ℕ) (some : 1 ≤ count) where
  begun : eqb count 0 ≡ false
  begun = ne_eqb count 0 (λ e. omega arith)

  pub column-step : (n : Name) → length columns < count → is_name n ≡ true → is_in n columns ≡ false
      → step (known count columns rows factors) (column_key ++ bytes_of n) ≡ goes (known count (columns ++ n ∷ []) rows factors)
  unfolding step column_step column_named
  column-step n room ok fresh = rw (begun, lt-ltb (length columns) count room, behind-key column_key (bytes_of n), naming-back n ok, fresh)

  module _ (full : length columns ≡ count) where
    closed : ltb (length columns) count ≡ false
    closed = le-ltb (length columns) count (omega arith)

    pub row_step_lem : (n : Name) → length factors ≡ length rows * count → length rows < count → is_name n ≡ true → is_in n rows ≡ false → is_in n columns ≡ true
        → step (known count columns rows factors) (row_key ++ bytes_of n) ≡ goes (known count columns (rows ++ n ∷ []) factors)
    unfolding step row_step row_named
    row_step_lem n whole room ok fresh column =
        rw (
          begun,
          closed,
          le-ltb (length factors) (length rows * count) (omega arith),
          lt-ltb (length rows) count room,
          behind-key row_key (bytes_of n),
          naming-back n ok,
          fresh,
          column,
        )

    pub factor-step : (bits : ℕ) → length factors < length rows * count → bits < 2 ^ 64 → finite (of_bits binary64 bits) ≡ true
        → step (known count columns rows factors) (factor_key ++ digits 16 bits) ≡ goes (known count columns rows (factors ++ bits ∷ []))
    unfolding step factor_step factor_bits
    factor-step bits room small fine =
        rw (
          begun,
          closed,
          lt-ltb (length factors) (length rows * count) room,
          behind-key factor_key (digits 16 bits),
          length_digits 16 bits,
          all_digits_lem 16 bits,
          number-back bits small,
          fine,
        )
