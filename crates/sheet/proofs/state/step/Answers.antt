-- `sheet::state::step` meets its contract: its tests are the definition's, since each array has as many elements as are counted. Assumes nothing.
use Rattle.sheet.proofs.Steps.{step_count, step-column, step-factor, step_row, step-none}
use Rattle.sheet.proofs.state.step.Goals as goal

pub returns-then-s-eq0 : goal.returns-then-s-eq0
returns-then-s-eq0 c =
    rw (step_count c.args.s c.requires c.args.line.now c.if-s-eq0.true) c.count_step.ensures

pub returns-then-s : goal.returns-then-s
returns-then-s c =
    rw (step-column c.args.s c.requires c.args.line.now c.if-s-eq0.false c.if-s.true) c.column_step.ensures

pub returns-then-s-2 : goal.returns-then-s-2
returns-then-s-2 c =
    rw (step-factor c.args.s c.requires c.args.line.now c.if-s-eq0.false c.if-s.false c.if-s-2.true) c.factor_step.ensures

pub returns-then-s-3 : goal.returns-then-s-3
returns-then-s-3 c =
    rw (step_row c.args.s c.requires c.args.line.now c.if-s-eq0.false c.if-s.false c.if-s-2.false c.if-s-3.true) c.row_step.ensures

pub returns : goal.returns
returns c =
    rw (step-none c.args.s c.requires c.args.line.now c.if-s-eq0.false c.if-s.false c.if-s-2.false c.if-s-3.false) c.stopped.ensures
