use mathlib.Core.List.{[]}
use mathlib.Core.Path.{◌≡◌, sym, ◌∙◌, subst, ap}
use native.Mathlib.Omega.{arith}
use lib.ListN.{drop, drop_of_length-le}
use Rattle.lines.proofs.Lines.{line-ends-within}
use Rattle.sheet.specs.Reader.{so_far, read_text, Parses}
use Rattle.sheet.specs.Sheet.{nothing, Outcome, cut, onward, SoFar}
use Rattle.sheet.proofs.Cutting.{open-from, line-from, good-line, bad-line}
use Rattle.sheet.proofs.read.lines_of.Goals as goal

pub loop-at-init : goal.loop-at-init
unfolding nothing
loop-at-init c =
    (omega arith, omega arith, c.fresh-s.ensures.fits, ap (λ (s : SoFar). read_text 1 s c.args.text.now) c.fresh-s.ensures.is)

pub returns-then-end-text : goal.returns-then-end-text
returns-then-end-text c =
    let text = c.args.text.now in
    let at = c.loop-at in
    subst (λ (o : Outcome). Parses c.stopped_at.result o)
    (sym (open-from at.line (so_far at.s) text at.at (omega arith) (omega (arith, c.line_end-end.ensures))) ∙ at.invariant.3)
    c.stopped_at.ensures

pub slice_bounds-step-end : goal.slice_bounds-step-end
slice_bounds-step-end c =
    omega (arith, c.line_end-end.ensures, line-ends-within c.args.text.now c.loop-at.at (omega arith))

pub returns-in-Bad : goal.returns-in-Bad
unfolding onward
returns-in-Bad c =
    let text = c.args.text.now in
    let at = c.loop-at in
    let from = line-from at.line (so_far at.s) text at.at (omega arith) c.line_end-end.result c.line_end-end.ensures c.if-end-text.false in
    let bad = bad-line _ _ _ c.step-stepped.ensures.is _ c.in-Bad.is in
    subst (λ (o : Outcome). Parses c.stopped_at-in-Bad.result o) (sym (from ∙ rw bad) ∙ at.invariant.3) c.stopped_at-in-Bad.ensures

pub loop-at-preserved : goal.loop-at-preserved
unfolding onward
loop-at-preserved c =
    let text = c.args.text.now in
    let at = c.loop-at in
    let end = line-ends-within text at.at (omega arith) in
    let from = line-from at.line (so_far at.s) text at.at (omega arith) c.line_end-end.result c.line_end-end.ensures c.if-end-text.false in
    let good = good-line _ _ _ c.step-stepped.ensures.is c.in_default.is in
    (omega (arith, c.line_end-end.ensures), omega (arith, c.line_end-end.ensures), c.step-stepped.ensures.fits, sym (from ∙ rw good) ∙ at.invariant.3)

pub returns : goal.returns
unfolding cut
returns c =
    let text = c.args.text.now in
    let at = c.loop-at in
    let none : drop at.at text ≡ [] = drop_of_length-le text {i = at.at} (omega arith) in
    subst (λ (o : Outcome). Parses c.ended.result o) (sym (rw none) ∙ at.invariant.3) c.ended.ensures
