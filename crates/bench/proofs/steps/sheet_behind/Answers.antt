-- Of a line of a sheet by `take_sheet`'s promise, of any other nothing is taken.
use Rattle.std.proofs.Common.{◌≡◌, ℕ, List, length, sym, subst, arith}
use lib.Ieee.{Float}
use Rattle.crosstalk.specs.declared.names.Crosstalk.{Crosstalk}
use Rattle.job.specs.declared.line.Line.{Line}
use Rattle.job.specs.declared.line.Line.TheVariants.{Sheet}
use Rattle.job_sheet.specs.declared.Taken.{Taken}
use Rattle.job_sheet.specs.Inset.{fewer, Took, Within}
use Rattle.job_sheet.proofs.Firsts.{taken-within}
use Rattle.bench.specs.Sheet.{NoSheet, TookBy}
use Rattle.bench.proofs.steps.sheet_behind.Goals as goal

took : (said : Line) (behind : List ℕ) (c d : Crosstalk) (before after : List Float) (r : Taken) (n : ℕ) → said ≡ Sheet n → Took behind n c before r after
    → TookBy said behind c d before r after
took said behind c d before after r n e t =
    record {
      other = λ none. absurd (none n e);
      sheet = λ m f. let same : n ≡ m = cc (e, f) in subst (λ (k : ℕ). Took behind k c before r after) same t;
      within = subst (λ (x : Taken). Within x behind) (sym t.taken) (taken-within behind n c (length before));
    }

none : (said : Line) (behind : List ℕ) (c d : Crosstalk) (before : List Float) (r : Taken) → NoSheet said → r ≡ fewer d → TookBy said behind c d before r before
none said behind c d before r other e =
    record {
      sheet = λ m f. absurd (other m f);
      other = λ h. e;
      within = subst (λ (x : Taken). Within x behind) (sym e) (record { lines = omega arith; bytes = omega arith });
    }

pub returns-in-Sheet : goal.returns-in-Sheet
returns-in-Sheet c = took _ _ _ _ _ _ _ _ c.in-Sheet.is c.take_sheet.ensures

pub returns-in_default : goal.returns-in_default
returns-in_default c = none _ _ _ _ _ _ c.in_default.not-Sheet c.fewer.ensures
