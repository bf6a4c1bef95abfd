use Rattle.std.proofs.Common.{sym, ◌∙◌, length}
use borrow.Author.Tests.{ne_eqb}
use Rattle.mix.specs.Plateau.{real, imaginary}
use Rattle.mix.specs.Envelope.{shaped_by}
use Rattle.mix.proofs.Parts.{one-row, two-rows}
use Rattle.mix.proofs.add_envelope.Goals as goal

pub returns-then-rows-eq1-clause-i_after : goal.returns-then-rows-eq1-clause-i_after
returns-then-rows-eq1-clause-i_after c = (one-row c.args.rows c.args.start (length c.args.points.now) c.args.i.now c.args.q.now (shaped_by real c.args.amp c.args.drag c.args.rotation c.args.points.now c.args.carrier) (shaped_by imaginary c.args.amp c.args.drag c.args.rotation c.args.points.now c.args.carrier) (sym c.part_fits.ensures ∙ c.if-not-part_fits.false) c.if-rows-eq1.true _ c.envelope_row.ensures).0

pub returns-else-rows-eq1-clause-i_after : goal.returns-else-rows-eq1-clause-i_after
returns-else-rows-eq1-clause-i_after c = (two-rows c.args.rows c.args.start (length c.args.points.now) c.args.i.now c.args.q.now (shaped_by real c.args.amp c.args.drag c.args.rotation c.args.points.now c.args.carrier) (shaped_by imaginary c.args.amp c.args.drag c.args.rotation c.args.points.now c.args.carrier) (sym c.part_fits.ensures ∙ c.if-not-part_fits.false) (ne_eqb _ _ c.if-rows-eq1.false) _ _ c.envelope_rows.ensures.i_after c.envelope_rows.ensures.q_after).0

pub returns-else-rows-eq1-clause-q_after : goal.returns-else-rows-eq1-clause-q_after
returns-else-rows-eq1-clause-q_after c = (two-rows c.args.rows c.args.start (length c.args.points.now) c.args.i.now c.args.q.now (shaped_by real c.args.amp c.args.drag c.args.rotation c.args.points.now c.args.carrier) (shaped_by imaginary c.args.amp c.args.drag c.args.rotation c.args.points.now c.args.carrier) (sym c.part_fits.ensures ∙ c.if-not-part_fits.false) (ne_eqb _ _ c.if-rows-eq1.false) _ _ c.envelope_rows.ensures.i_after c.envelope_rows.ensures.q_after).1
