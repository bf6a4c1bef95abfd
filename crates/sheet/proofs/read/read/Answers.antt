-- `sheet::read::read` meets its contract: its answer and its matrix are those of the outcome. Assumes nothing.
use Prim.Native.Nat.{ℕ, ◌≤◌, ◌<◌}
use mathlib.Core.Bool.{and-false}
use mathlib.Core.List.{List}
use mathlib.Core.Path.{◌≡◌, refl, sym, ap, ◌∙◌}
use native.Mathlib.Omega.{arith}
use borrow.Author.Tests.{le-leb, lt-leb}
use lib.Dec.{leb}
use lib.Ieee.{Float}
use lib.ListN.{length}
use Rattle.quant.specs.declared.refusal.Refusal.TheVariants.{WrongSize}
use Rattle.sheet.specs.Reader.{ends, read_text, Answers}
use Rattle.sheet.specs.Sheet.{Read, Outcome, refuses, nothing, outcome, matrix_of}
use Rattle.sheet.specs.declared.read.Reading.{Reading}
use Rattle.sheet.specs.declared.state.Verdict.{Verdict}
use Rattle.sheet.proofs.read.read.Goals as goal

of-outcome : {text : List ℕ} {before : List Float} {r : Reading} {after : List Float} {o : Outcome} → outcome text (length before) ≡ o → Answers r o → after ≡ matrix_of o before
    → Read text before r after
of-outcome e a m = record { answered = rw e a.answered; named = rw e a.named; left = rw e m }

module _ (text : List ℕ) (before : List Float) where
  long : 4096 < length text → outcome text (length before) ≡ refuses WrongSize 0
  unfolding outcome
  long h = rw (lt-leb (length text) 4096 h)

  short : length before < 64 → outcome text (length before) ≡ refuses WrongSize 0
  unfolding outcome
  short h = rw (lt-leb 64 (length before) h, and-false (leb (length text) 4096))

  fits : length text ≤ 4096 → 64 ≤ length before → outcome text (length before) ≡ read_text 1 nothing text
  unfolding outcome
  fits h k = rw (le-leb (length text) 4096 h, le-leb 64 (length before) k)

pub returns-then-text-gt4096 : goal.returns-then-text-gt4096
unfolding matrix_of
returns-then-text-gt4096 c =
    of-outcome (long c.args.text.now c.args.matrix.now c.if-text-gt4096.true) c.refused.ensures refl

pub returns-then-matrix-lt64 : goal.returns-then-matrix-lt64
unfolding matrix_of
returns-then-matrix-lt64 c =
    of-outcome (short c.args.text.now c.args.matrix.now c.if-matrix-lt64.true) c.refused-then-matrix-lt64.ensures refl

pub returns-in-Good : goal.returns-in-Good
returns-in-Good c =
    let p = c.args in
    let made = ap (λ (v : Verdict). ends v c.lines_of-parsed.result.line c.lines_of-parsed.result.state) (sym c.in-Good.is) in
    of-outcome (fits p.text.now p.matrix.now (omega arith) (omega arith) ∙ sym (made ∙ c.lines_of-parsed.ensures.is)) c.accepted.ensures c.fill.ensures

pub returns-in-Bad : goal.returns-in-Bad
unfolding matrix_of
returns-in-Bad c =
    let p = c.args in
    let made = ap (λ (v : Verdict). ends v c.lines_of-parsed.result.line c.lines_of-parsed.result.state) (sym c.in-Bad.is) in
    of-outcome (fits p.text.now p.matrix.now (omega arith) (omega arith) ∙ sym (made ∙ c.lines_of-parsed.ensures.is)) c.refused-in-Bad.ensures refl
