-- What is printed for a sheet: of one that is accepted the same sheet with its rows in column order, which prints as itself; document 01's
-- example; and some numbers in decimal. All by what is proved of the reader and the printer. Assumes nothing.
use Prim.Native.Nat.{ℕ, ◌≤◌}
use mathlib.Core.List.{List, [], ◌∷◌}
use mathlib.Core.Path.{◌≡◌, refl, ap, ◌∙◌}
use native.Mathlib.Omega.{arith}
use lib.ListN.{length}
use Rattle.quant.specs.declared.refusal.Refusal.{Refusal}
use Rattle.sheet.specs.Sheet.{SoFar, accepts, refuses, outcome, answer_of, Sheet, sheet_text}
use Rattle.sheet_laws.specs.Example.{example_text, printed_text}
use Rattle.sheet_laws.specs.Words.{InColumnOrder, PrintedBack, count_in, sheet_read, text_printed}
use Rattle.sheet_laws.proofs.Example.{example-printed, example-reads}
use Rattle.sheet_laws.proofs.Laws.{printed-back}
use Rattle.sheet_answer.specs.Answer.{decimal_of, decimal, refused_text, zeros, text_for, answer_text}
use Rattle.sheet_answer.proofs.Answering.{accepts-is}

-- ---- an accepted sheet

as_printed : (text : List ℕ) (t : SoFar) → outcome text 64 ≡ accepts t → answer_text text ≡ text_printed text zeros
unfolding answer_text text_for text_printed count_in answer_of zeros
as_printed text t e = rw e

back : (text : List ℕ) (t : SoFar) → outcome text 64 ≡ accepts t → PrintedBack text zeros (sheet_read t)
unfolding zeros
back text t e = printed-back text zeros t e

pub sheet-answered : (text : List ℕ) (t : SoFar) → outcome text 64 ≡ accepts t
    → (p : Sheet) × (answer_text text ≡ sheet_text p) × InColumnOrder (sheet_read t) p
sheet-answered text t e = let s = (back text t e).sheet in (s.0, as_printed text t e ∙ s.1, s.2)

pub answer-short : (text : List ℕ) (t : SoFar) → outcome text 64 ≡ accepts t → length (answer_text text) ≤ 1907
answer-short text t e = rw (as_printed text t e) (back text t e).short

-- what is printed, handed in, is printed as it is
pub answered-again : (text : List ℕ) (t : SoFar) → outcome text 64 ≡ accepts t → answer_text (answer_text text) ≡ answer_text text
unfolding answer_of zeros
answered-again text t e =
    let law = back text t e in
    let again = accepts-is (outcome (text_printed text zeros) 64) t.count (law.alike.answer 64 ∙ ap answer_of e) in
    rw (as_printed text t e) (as_printed (text_printed text zeros) again.0 again.1 ∙ law.stays zeros (omega arith))

-- ---- a refused one

pub refusal-answered : (text : List ℕ) (r : Refusal) (line : ℕ) → outcome text 64 ≡ refuses r line → answer_text text ≡ refused_text r line
unfolding answer_text text_for
refusal-answered text r line e = rw e

-- ---- the example

pub example-answered : answer_text example_text ≡ printed_text
unfolding zeros
example-answered = as_printed example_text _ (example-reads 64 (omega arith)).answered ∙ example-printed zeros (omega arith)

-- ---- numbers

pub nought : decimal 0 ≡ 48 ∷ []
unfolding decimal decimal_of
nought = refl

pub fifteen : decimal 15 ≡ 49 ∷ 53 ∷ []
unfolding decimal decimal_of
fifteen = refl

-- the last line there can be
pub last_line : decimal 4097 ≡ 52 ∷ 48 ∷ 57 ∷ 55 ∷ []
unfolding decimal decimal_of
last_line = refl
