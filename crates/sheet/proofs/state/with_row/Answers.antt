-- `sheet::state::with_row` meets its contract. Assumes nothing.
use mathlib.Core.Bool.{true, false, not}
use mathlib.Core.Path.{◌≡◌, sym, ◌∙◌, ap}
use lib.ListN.{take}
use Rattle.quant.proofs.Judging.{taken, passed}
use Rattle.naming.specs.Name.{is_in}
use Rattle.sheet.specs.Sheet.{row_named}
use Rattle.sheet.proofs.Steps.{row_goes, row_fits}
use Rattle.sheet.proofs.state.with_row.Goals as goal

pub returns-then-stands_in : goal.returns-then-stands_in
unfolding row_named
returns-then-stands_in c =
    let s = c.args.s in
    let e : is_in c.args.n (take s.row s.rows) ≡ true = sym c.stands_in.ensures ∙ c.if-stands_in.true in
    rw e c.stopped.ensures

pub returns-then-not-stands_in : goal.returns-then-not-stands_in
unfolding row_named
returns-then-not-stands_in c =
    let s = c.args.s in
    let e : is_in c.args.n (take s.row s.rows) ≡ false = sym c.stands_in.ensures ∙ c.if-stands_in.false in
    let f : is_in c.args.n (take s.column s.columns) ≡ false = taken _ _ c.stands_in-2.ensures (ap not c.if-not-stands_in.true) in
    rw (e, f) c.stopped-then-not-stands_in.ensures

pub went-requires : goal.went-requires
went-requires c =
    let s = c.args.s in
    let e : is_in c.args.n (take s.row s.rows) ≡ false = sym c.stands_in.ensures ∙ c.if-stands_in.false in
    let f : is_in c.args.n (take s.column s.columns) ≡ true = passed _ _ c.stands_in-2.ensures (ap not c.if-not-stands_in.false) in
    row_fits s c.requires.0 c.requires.1 c.args.n e f

pub returns : goal.returns
returns c =
    let s = c.args.s in
    let e : is_in c.args.n (take s.row s.rows) ≡ false = sym c.stands_in.ensures ∙ c.if-stands_in.false in
    let f : is_in c.args.n (take s.column s.columns) ≡ true = passed _ _ c.stands_in-2.ensures (ap not c.if-not-stands_in.false) in
    rw (row_goes s c.requires.0 c.requires.1 c.args.n e f) c.went.ensures
