use Rattle.iir.proofs.Pipeline.{alone}
use Rattle.iir.proofs.filter.filter_rows.Goals as goal

pub returns-then-numbers-eq1-clause-i_after : goal.returns-then-numbers-eq1-clause-i_after
returns-then-numbers-eq1-clause-i_after c = rw (c.side_by_side.ensures.i_after, c.section.ensures) (alone c.args.numbers.now c.args.i.now c.if-numbers-eq1.true)

pub returns-then-numbers-eq1-clause-q_after : goal.returns-then-numbers-eq1-clause-q_after
returns-then-numbers-eq1-clause-q_after c = rw (c.side_by_side.ensures.q_after, c.section.ensures) (alone c.args.numbers.now c.args.q.now c.if-numbers-eq1.true)
