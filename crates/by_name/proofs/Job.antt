-- The law from a job's line on: the COUNT lines behind `sheet COUNT`, as they stand, are the text that is read, and what they say is what the samplings
-- that follow are handed; a refused sheet, or one that has fewer lines, leaves the crosstalk. Assumes nothing.
use Rattle.quant.specs.Refusal.{Answer}
use Rattle.std.specs.Prelude.{Option, Some, None, Ok}
use Prim.Native.Nat.{ℕ}
use native.Mathlib.Omega.{arith}
use mathlib.Core.Path.{◌≡◌, refl, sym, ap, ◌∙◌}
use mathlib.Core.List.{List}
use lib.Ieee.{Float}
use lib.ListN.{length, take}
use Rattle.sheet.specs.Sheet.{Outcome, accepts, refuses, outcome, answer_of, names_of, matrix_of, Sheet}
use Rattle.sheet_laws.specs.Words.{sheet_read, count_in}
use Rattle.sheet_laws.proofs.Laws.{nothing-else-is-read}
use Rattle.pulse.specs.declared.list.Pulse.{Pulse}
use Rattle.tables.specs.declared.Tables.{Tables}
use Rattle.crosstalk.specs.declared.names.Crosstalk.{Crosstalk}
use Rattle.mixdown.specs.Sampled.{Rowed}
use Rattle.sampler.specs.declared.Request.{Request}
use Rattle.sampler.specs.Prepared.{Passes}
use Rattle.job_sheet.specs.declared.Taken.{Taken}
use Rattle.job_sheet.specs.First.{first_lines, first_of}
use Rattle.job_sheet.specs.Inset.{crosstalk_after, taken_of, factors_after, Took}
use Rattle.job_sheet.proofs.Firsts.{first-bytes}
use Rattle.by_name.specs.Words.{Given}
use Rattle.by_name.specs.Call.{ByName}
use Rattle.by_name.proofs.Laws.{by_name}

-- ---- a text that was read, and what became of the crosstalk

from-read : (text : List ℕ) (before after : List Float) (c x : Crosstalk) (names : ℕ) (o : Outcome) → outcome text (length before) ≡ o → answer_of o ≡ Ok names
    → x ≡ crosstalk_after c (answer_of o) (names_of o) → after ≡ matrix_of o before → (s : Sheet) × Given text before s x after
unfolding answer_of count_in
from-read text before after c x names (refuses why line) e a h k = let z : ◌≡◌ {A = ℕ} 0 1 = cc in absurd (omega arith)
from-read text before after c x names (accepts t) e a h k = (
  sheet_read t,
  record {
    reads = nothing-else-is-read text (length before) t e;
    handed = record { count = rw (e, h) refl; names = rw (e, h) refl; numbers = rw (e, k) refl };
  },
)

-- a text that was refused
not-read : (before after : List Float) (c x : Crosstalk) (i : Option Answer) (o : Outcome) → ((names : ℕ) → i ≡ Some (Ok names) → ⊥) → i ≡ Some (answer_of o)
    → x ≡ crosstalk_after c (answer_of o) (names_of o) → after ≡ matrix_of o before → (x ≡ c) × (after ≡ before)
unfolding answer_of matrix_of
not-read before after c x i (accepts t) none e h k = absurd (none t.count e)
not-read before after c x i (refuses why line) none e h k = (h, k)

abbrev inset_of : Taken → Option Answer
inset_of x = x.inset

abbrev crossed : Taken → Crosstalk
crossed x = x.crosstalk

module _ (behind : List ℕ) (count : ℕ) (c : Crosstalk) (before : List Float) (r : Taken) (after : List Float) (took : Took behind count c before r after) where
  -- accepted, the COUNT lines behind the line are the sheet's text, and what they say is handed over
  pub handed-over : (names : ℕ) → r.inset ≡ Some (Ok names) → (s : Sheet) × Given (first_lines count behind) before s r.crosstalk after
  unfolding taken_of factors_after
  handed-over names e = by (first_of count behind) refl took.taken took.left
    where
      by : (f : Option ℕ) → first_of count behind ≡ f → r ≡ taken_of behind count c (length before) f → after ≡ factors_after behind before f
          → (s : Sheet) × Given (first_lines count behind) before s r.crosstalk after
      by None f t l = let no : ◌≡◌ {A = (Option Answer)} None (Some (Ok names)) = sym (ap inset_of t) ∙ e in let z : ◌≡◌ {A = ℕ} 0 1 = cc in absurd (omega arith)
      by (Some n) f t l =
          let same : take n behind ≡ first_lines count behind = ap (λ (k : ℕ). take k behind) (first-bytes count behind n f) in
          let o = outcome (take n behind) (length before) in
          let told : Some (answer_of o) ≡ Some (Ok names) = sym (ap inset_of t) ∙ e in
          let answer : answer_of o ≡ Ok names = cc in
          from-read (first_lines count behind) before after c r.crosstalk names o (ap (λ (x : List ℕ). outcome x (length before)) (sym same)) answer (ap crossed t) l

  -- refused, or with fewer lines behind it, the crosstalk and its factors stay
  pub else-stays : ((names : ℕ) → r.inset ≡ Some (Ok names) → ⊥) → (r.crosstalk ≡ c) × (after ≡ before)
  unfolding taken_of factors_after
  else-stays none = by (first_of count behind) took.taken took.left
    where
      by : (f : Option ℕ) → r ≡ taken_of behind count c (length before) f → after ≡ factors_after behind before f → (r.crosstalk ≡ c) × (after ≡ before)
      by None t l = (ap crossed t, l)
      by (Some n) t l = not-read before after c r.crosstalk r.inset (outcome (take n behind) (length before)) none (ap inset_of t) (ap crossed t) l

  -- so the samplings that follow join its factors to their lists by name
  pub sampled-by-name : (names : ℕ) (e : r.inset ≡ Some (Ok names)) (t : Tables) (q : Request) (bins : List (List Float)) (pulses : List Pulse) (st : Rowed)
      (work : List (List Float)) (marks : List ℕ) → Passes t q r.crosstalk after bins pulses st work marks
      → ByName (handed-over names e).0 t q r.crosstalk after bins pulses st work marks
  sampled-by-name names e t q bins pulses st work marks =
      by_name (first_lines count behind) before (handed-over names e).0 t q r.crosstalk after bins pulses st work marks (handed-over names e).1
