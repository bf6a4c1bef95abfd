use Rattle.mixdown.proofs.Spans.{advanced-here, advanced-later, advanced-over}
use borrow.Author.Tests.{eq-eqb, ne_eqb}
use mathlib.Core.Path.{sym, ◌∙◌}
use native.Mathlib.Omega.{arith}
use Rattle.mixdown.proofs.runs.advance.Goals as goal

pub returns-then-marks-at : goal.returns-then-marks-at
returns-then-marks-at c = sym (advanced-here c.args.marks.now c.loop-at.at c.args.end c.args.mark (omega arith) c.requires (eq-eqb _ _ c.if-marks-at.true)) ∙ c.loop-at.invariant

pub loop-at-preserved : goal.loop-at-preserved
loop-at-preserved c = advanced-later c.args.marks.now c.loop-at.at c.args.end c.args.mark (omega arith) c.requires (ne_eqb _ _ c.if-marks-at.false) ∙ c.loop-at.invariant

pub returns : goal.returns
returns c = sym (advanced-over c.args.marks.now c.loop-at.at c.args.end c.args.mark (omega arith)) ∙ c.loop-at.invariant
