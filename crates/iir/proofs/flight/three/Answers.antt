-- `iir::flight::three` meets its contract: a short row goes through the first section and then through the others, and of a longer one two
-- samples are on their way. Assumes nothing.
use native.Mathlib.Omega.{arith}
use mathlib.Core.Path.{sym}
use mathlib.Core.List.{[], ◌∷◌}
use Rattle.iir.proofs.Cascade.{first}
use Rattle.iir.proofs.Flights.{three_launched}
use Rattle.iir.proofs.flight.three.Goals as goal

pub returns-then-row-lt2 : goal.returns-then-row-lt2
returns-then-row-lt2 c =
    rw (c.two.ensures, c.one.ensures)
    (sym (first c.args.a (c.args.b ∷ c.args.c ∷ []) c.args.row.now))

pub returns : goal.returns
returns c =
    rw (c.three_in_flight.ensures, c.run-p-2.ensures, c.run-q.ensures, c.run-p.ensures)
    (three_launched c.args.a c.args.b c.args.c c.args.row.now (omega (arith, c.if-row-lt2.false)))
