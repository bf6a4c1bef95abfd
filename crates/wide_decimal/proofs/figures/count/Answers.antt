-- `wide_decimal::figures::count` meets its contract. Assumes nothing.
use mathlib.Core.Path.{sym}
use Rattle.wide_decimal.proofs.Texts.{with-point, no-point}
use Rattle.wide_decimal.proofs.figures.count.Goals as goal

pub returns-then-point-text : goal.returns-then-point-text
returns-then-point-text c = sym (with-point c.args.point c.args.text.now c.if-point-text.true)

pub returns-else-point-text : goal.returns-else-point-text
returns-else-point-text c = sym (no-point c.args.point c.args.text.now c.if-point-text.false)
