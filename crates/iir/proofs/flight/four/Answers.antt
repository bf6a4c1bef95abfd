-- `iir::flight::four` meets its contract: a short row goes through two sections and then through the others, and of a longer one three
-- samples are on their way. Assumes nothing.
use native.Mathlib.Omega.{arith}
use mathlib.Core.Path.{sym}
use mathlib.Core.List.{[], ◌∷◌}
use Rattle.iir.proofs.Cascade.{parts}
use Rattle.iir.proofs.Flights.{four_launched}
use Rattle.iir.proofs.flight.four.Goals as goal

pub returns-then-row-lt3 : goal.returns-then-row-lt3
returns-then-row-lt3 c =
    rw (c.two-then-row-lt3.ensures, c.two.ensures)
    (sym (parts (c.args.a ∷ c.args.b ∷ []) (c.args.c ∷ c.args.d ∷ []) c.args.row.now))

pub returns : goal.returns
returns c =
    rw (c.four_in_flight.ensures, c.run-p-3.ensures, c.run-q-2.ensures, c.run-p-2.ensures, c.run-r.ensures, c.run-q.ensures, c.run-p.ensures)
    (four_launched c.args.a c.args.b c.args.c c.args.d c.args.row.now (omega (arith, c.if-row-lt3.false)))
