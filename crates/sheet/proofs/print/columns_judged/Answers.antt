use Rattle.std.specs.Prelude.{Err}
use mathlib.Core.Bool.{not}
use mathlib.Core.Path.{sym, ◌∙◌, ap}
use native.Mathlib.Numerals.{add-one}
use native.Mathlib.Omega.{arith}
use Rattle.quant.proofs.Judging.{taken, passed}
use Rattle.sheet.specs.Sheet.{blank, columns_judged}
use Rattle.sheet.proofs.Parts.{part_end}
use Rattle.sheet.proofs.Printing.{columns-next}
use Rattle.sheet.proofs.print.columns_judged.Goals as goal

pub returns-then-not-is_name : goal.returns-then-not-is_name
unfolding blank
returns-then-not-is_name c =
    let p = c.args in
    let at = c.loop-k in
    ap Err c.at.ensures
    ∙ sym (at.invariant.1 ∙ columns-next p.names p.count (omega arith) at.k blank (omega arith) ∙ rw (taken _ _ c.is_name.ensures (ap not c.if-not-is_name.true)))

pub returns-then-stands_in : goal.returns-then-stands_in
unfolding blank
returns-then-stands_in c =
    let p = c.args in
    let at = c.loop-k in
    ap Err c.at-then-stands_in.ensures
    ∙ sym (at.invariant.1 ∙ columns-next p.names p.count (omega arith) at.k blank (omega arith)
    ∙ rw (passed _ _ c.is_name.ensures (ap not c.if-not-is_name.false), sym c.stands_in.ensures ∙ c.if-stands_in.true))

pub loop-k-preserved : goal.loop-k-preserved
unfolding blank
loop-k-preserved c =
    let p = c.args in
    let at = c.loop-k in
    let next = columns-next p.names p.count (omega arith) at.k blank (omega arith) in (
      omega arith,
      at.invariant.1 ∙ next ∙ rw (passed _ _ c.is_name.ensures (ap not c.if-not-is_name.false), sym c.stands_in.ensures ∙ c.if-stands_in.false, add-one),
    )

pub returns : goal.returns
unfolding columns_judged
returns c =
    let p = c.args in
    let at = c.loop-k in
    sym (at.invariant.1 ∙ rw (part_end p.names p.count (omega arith) at.k (omega arith)))
