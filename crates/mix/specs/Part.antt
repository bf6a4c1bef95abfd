-- The part of the rows that a pulse is added onto: document 01's start and end index, and "One row takes only the I part". Definitions only.
use Rattle.std.specs.Prelude.{ℕ, ◌+◌, Bool, false, ◌&&◌, cond, List, ◌++◌, leb, eqb, length, take, drop, Float}

-- n samples from `start` on lie within a row of `len`
abbrev pub holds : ℕ → ℕ → ℕ → Bool
holds len start n = leb (start + n) len

-- they lie within the one row, or within both of two
abbrev pub part_fits : ℕ → ℕ → ℕ → ℕ → ℕ → Bool
part_fits rows i q start n = cond (eqb rows 1) (holds i start n) (cond (eqb rows 2) (holds i start n && holds q start n) false)

-- a row with its n samples from `start` on changed by f
unfoldable pub on_part : ℕ → ℕ → (List Float → List Float) → List Float → List Float
on_part start n f row = take start row ++ (f (take n (drop start row)) ++ drop (start + n) row)

-- the I row afterwards; where the part does not lie within the rows it stays as it came
abbrev pub first_row : ℕ → ℕ → ℕ → List Float → List Float → (List Float → List Float) → List Float
first_row rows start n i q f = cond (part_fits rows (length i) (length q) start n) (on_part start n f i) i

-- the Q row afterwards; of one row it stays too
abbrev pub second_row : ℕ → ℕ → ℕ → List Float → List Float → (List Float → List Float) → List Float
second_row rows start n i q f = cond (part_fits rows (length i) (length q) start n && eqb rows 2) (on_part start n f q) q
