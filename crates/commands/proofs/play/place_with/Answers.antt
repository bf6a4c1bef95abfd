-- `commands::play::place_with` meets its contract: behind a head that is no spline's nothing is read. Assumes nothing.
use mathlib.Core.Path.{sym, ◌∙◌}
use mathlib.Core.List.{[]}
use Rattle.pulse.proofs.Rows.{place-plain}
use Rattle.commands.specs.Step.{numbers_at}
use Rattle.commands.proofs.play.place_with.Goals as goal

pub returns : goal.returns
returns c =
    let five = c.well_formed.1.1.0.1.0.1 in
    let plain = c.if-head.false in
    let numbers = numbers_at c.args.splines.now c.args.spline in
    let without = place-plain c.args.head [] c.args.rows.now five plain in
    c.place-2.ensures ∙ without ∙ sym (place-plain c.args.head numbers c.args.rows.now five plain)
