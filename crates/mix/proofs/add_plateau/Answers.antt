use Rattle.std.proofs.Common.{sym, ◌∙◌}
use borrow.Author.Tests.{ne_eqb}
use Rattle.mix.specs.Plateau.{carried, real, imaginary}
use Rattle.mix.proofs.Parts.{one-row, two-rows}
use Rattle.mix.proofs.add_plateau.Goals as goal

pub returns-then-rows-eq1-clause-i_after : goal.returns-then-rows-eq1-clause-i_after
returns-then-rows-eq1-clause-i_after c = (one-row c.args.rows c.args.start c.args.count c.args.i.now c.args.q.now (carried real c.args.carrier c.args.rotation) (carried imaginary c.args.carrier c.args.rotation) (sym c.part_fits.ensures ∙ c.if-not-part_fits.false) c.if-rows-eq1.true _ c.plateau_row.ensures).0

pub returns-else-rows-eq1-clause-i_after : goal.returns-else-rows-eq1-clause-i_after
returns-else-rows-eq1-clause-i_after c = (two-rows c.args.rows c.args.start c.args.count c.args.i.now c.args.q.now (carried real c.args.carrier c.args.rotation) (carried imaginary c.args.carrier c.args.rotation) (sym c.part_fits.ensures ∙ c.if-not-part_fits.false) (ne_eqb _ _ c.if-rows-eq1.false) _ _ c.plateau_rows.ensures.i_after c.plateau_rows.ensures.q_after).0

pub returns-else-rows-eq1-clause-q_after : goal.returns-else-rows-eq1-clause-q_after
returns-else-rows-eq1-clause-q_after c = (two-rows c.args.rows c.args.start c.args.count c.args.i.now c.args.q.now (carried real c.args.carrier c.args.rotation) (carried imaginary c.args.carrier c.args.rotation) (sym c.part_fits.ensures ∙ c.if-not-part_fits.false) (ne_eqb _ _ c.if-rows-eq1.false) _ _ c.plateau_rows.ensures.i_after c.plateau_rows.ensures.q_after).1
