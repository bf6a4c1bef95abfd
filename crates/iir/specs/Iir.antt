-- Document 01, the filter step: rows and "0..16 filter sections"; and document 02, P5: "Refusals: a new 22, after 13 and 2 (which now reads a0),
-- with the section from 0 as place; rows stay". Definitions only.
use Rattle.quant.specs.Refusal.{Answer}
use Rattle.std.specs.Prelude.{ℕ, ◌%◌, ◌≡◌, Bool, ◌&&◌, List, leb, eqb, length, Float, Ok, Err}
use Rattle.rows.specs.Rows.{rows_fit, all_finite, answer_of, after}
use Rattle.iir.specs.Section.{sections_of, a0s_judged}
use Rattle.iir.specs.Filter.{filtered}

-- rows that fit, and six numbers for each of at most 16 sections
abbrev pub iir_fits : ℕ → ℕ → ℕ → ℕ → Bool
iir_fits rows i q numbers = rows_fit rows i q && eqb (numbers % 6) 0 && leb numbers 96

-- of two judgements the first that refuses
abbrev pub first_refusal : Answer → Answer → Answer
first_refusal (Ok count) next = next
first_refusal (Err e) next = Err e

-- 13 and 2 as every step has them, 2 of all six numbers of every section; then 22
abbrev pub iir_answer : ℕ → ℕ → ℕ → List Float → Answer
iir_answer rows i q sections = first_refusal (answer_of (iir_fits rows i q (length sections)) (all_finite sections)) (a0s_judged sections)

-- what `iir` answers and leaves
pub record Iir (rows : ℕ) (i q sections : List Float) (r : Answer) (i' q' : List Float) : Type 0 where
  pub answer : r ≡ iir_answer rows (length i) (length q) sections
  pub i-row : i' ≡ after (iir_answer rows (length i) (length q) sections) (filtered (sections_of sections) i) i
  pub q-row : q' ≡ after (iir_answer rows (length i) (length q) sections) (filtered (sections_of sections) q) q
