-- `sheet::state::with_column` meets its contract. Assumes nothing.
use mathlib.Core.Bool.{true, false}
use mathlib.Core.Path.{◌≡◌, sym, ◌∙◌}
use lib.ListN.{take}
use Rattle.naming.specs.Name.{is_in}
use Rattle.sheet.specs.Sheet.{column_named}
use Rattle.sheet.proofs.Steps.{column-goes, column_fits}
use Rattle.sheet.proofs.state.with_column.Goals as goal

pub returns-then-stands_in : goal.returns-then-stands_in
unfolding column_named
returns-then-stands_in c =
    let s = c.args.s in
    let e : is_in c.args.n (take s.column s.columns) ≡ true = sym c.stands_in.ensures ∙ c.if-stands_in.true in
    rw e c.stopped.ensures

pub went-requires : goal.went-requires
went-requires c =
    column_fits c.args.s c.requires.0 c.requires.1 c.args.n

pub returns : goal.returns
returns c =
    let s = c.args.s in
    let e : is_in c.args.n (take s.column s.columns) ≡ false = sym c.stands_in.ensures ∙ c.if-stands_in.false in
    rw (column-goes s c.requires.0 c.requires.1 c.args.n e) c.went.ensures
