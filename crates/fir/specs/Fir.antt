-- Document 01's step `fir`: each row through the taps, and what is refused before it. Definitions only.
use Rattle.quant.specs.Refusal.{Answer}
use Rattle.std.specs.Prelude.{◌≡◌, Bool, ◌&&◌, List, ℕ, leb, length, Float}
use Rattle.rows.specs.Rows.{rows_fit, all_finite, answer_of, after}
use Rattle.ring.specs.Ring.{filtered_row}

-- the sizes: rows that fit, and 1 to 256 taps
abbrev pub fir_fits : ℕ → ℕ → ℕ → ℕ → Bool
fir_fits rows i q taps = rows_fit rows i q && leb 1 taps && leb taps 256

-- what `fir` answers and leaves; a second row of no samples has none to filter
pub record Fir (rows : ℕ) (i q taps : List Float) (r : Answer) (i' q' : List Float) : Type 0 where
  pub answer : r ≡ answer_of (fir_fits rows (length i) (length q) (length taps)) (all_finite taps)
  pub first : i' ≡ after (answer_of (fir_fits rows (length i) (length q) (length taps)) (all_finite taps)) (filtered_row taps i) i
  pub second : q' ≡ after (answer_of (fir_fits rows (length i) (length q) (length taps)) (all_finite taps)) (filtered_row taps q) q
