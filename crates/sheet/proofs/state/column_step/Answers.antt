-- `sheet::state::column_step` meets its contract: what stands behind the key is the name. Assumes nothing.
use mathlib.Core.Bool.{not}
use mathlib.Core.Path.{◌≡◌, sym, ◌∙◌, ap}
use lib.ListN.{drop}
use Rattle.sheet.specs.Sheet.{column_key, behind, value, column_step, column_named}
use Rattle.sheet.proofs.Keys.{missing, there, reaches}
use Rattle.sheet.proofs.Steps.{column-read}
use Rattle.sheet.proofs.state.column_step.Goals as goal

pub returns-then-not-starts : goal.returns-then-not-starts
unfolding column_key column_step
returns-then-not-starts c =
    rw (missing column_key c.args.line.now _ c.starts.ensures (ap not c.if-not-starts.true)) c.stopped.ensures

pub returns-in-Some : goal.returns-in-Some
unfolding column_key
returns-in-Some c =
    let line = c.args.line.now in
    let e : behind column_key line ≡ value (drop 7 line) = there column_key line _ c.starts.ensures (ap not c.if-not-starts.false) in
    let long = reaches column_key line _ c.starts.ensures (ap not c.if-not-starts.false) in
    rw (column-read _ line _ e long (sym c.in-Some.is ∙ c.from_bytes.ensures)) c.with_column.ensures

pub returns-in-None : goal.returns-in-None
unfolding column_key column_named
returns-in-None c =
    let line = c.args.line.now in
    let e : behind column_key line ≡ value (drop 7 line) = there column_key line _ c.starts.ensures (ap not c.if-not-starts.false) in
    let long = reaches column_key line _ c.starts.ensures (ap not c.if-not-starts.false) in
    rw (column-read _ line _ e long (sym c.in-None.is ∙ c.from_bytes.ensures)) c.stopped-in-None.ensures
