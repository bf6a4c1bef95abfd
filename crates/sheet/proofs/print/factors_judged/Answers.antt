use Rattle.std.specs.Prelude.{Err}
use mathlib.Core.Bool.{not}
use mathlib.Core.Path.{sym, ◌∙◌, ap}
use native.Mathlib.Numerals.{add-one}
use native.Mathlib.Omega.{arith}
use lib.ListN.{drop_of_length-le}
use Rattle.quant.proofs.Judging.{taken, passed}
use Rattle.sheet.specs.Sheet.{factors_judged}
use Rattle.sheet.proofs.Printing.{judged-next}
use Rattle.sheet.proofs.print.factors_judged.Goals as goal

pub returns-then-not-is_finite : goal.returns-then-not-is_finite
returns-then-not-is_finite c =
    let p = c.args in
    let at = c.loop-i in
    ap Err c.at.ensures
    ∙ sym (at.invariant.1 ∙ judged-next p.numbers.now at.i (omega arith) p.count ∙ rw (taken _ _ c.is_finite.ensures (ap not c.if-not-is_finite.true), c.factor_at.ensures))

pub loop-i-preserved : goal.loop-i-preserved
loop-i-preserved c =
    let p = c.args in
    let at = c.loop-i in
    (omega arith, at.invariant.1 ∙ judged-next p.numbers.now at.i (omega arith) p.count ∙ rw (passed _ _ c.is_finite.ensures (ap not c.if-not-is_finite.false), add-one))

pub returns : goal.returns
unfolding factors_judged
returns c =
    let p = c.args in
    let at = c.loop-i in
    sym (at.invariant.1 ∙ rw (drop_of_length-le p.numbers.now {i = at.i} (omega arith)))
