-- Of no sample nothing comes, and otherwise the first is on its way.
use Rattle.std.proofs.Common.{length, sym, ◌∙◌, arith}
use Rattle.std.proofs.lemmas.Bool.{eqb-true, eqb-false}
use Rattle.iir.proofs.Flights.{none-through, two_launched}
use Rattle.iir.proofs.flight.two.Goals as goal

pub returns-then-is_empty : goal.returns-then-is_empty
returns-then-is_empty c = none-through _ _ (omega (arith, eqb-true (length c.args.row.now) 0 (sym c.is_empty.ensures ∙ c.if-is_empty.true)))

pub returns : goal.returns
returns c =
    rw (c.two_in_flight.ensures, c.run-p.ensures)
    (two_launched c.args.a c.args.b c.args.row.now (omega (arith, eqb-false (length c.args.row.now) 0 (sym c.is_empty.ensures ∙ c.if-is_empty.false))))
