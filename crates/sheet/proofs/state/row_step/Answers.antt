-- `sheet::state::row_step` meets its contract: what stands behind the key is the name. Assumes nothing.
use mathlib.Core.Bool.{not}
use mathlib.Core.Path.{◌≡◌, sym, ◌∙◌, ap}
use lib.ListN.{drop}
use Rattle.sheet.specs.Sheet.{row_key, behind, value, row_step, row_named}
use Rattle.sheet.proofs.Keys.{missing, there, reaches}
use Rattle.sheet.proofs.Steps.{row_read}
use Rattle.sheet.proofs.state.row_step.Goals as goal

pub returns-then-not-starts : goal.returns-then-not-starts
unfolding row_key row_step
returns-then-not-starts c =
    rw (missing row_key c.args.line.now _ c.starts.ensures (ap not c.if-not-starts.true)) c.stopped.ensures

pub returns-in-Some : goal.returns-in-Some
unfolding row_key
returns-in-Some c =
    let line = c.args.line.now in
    let e : behind row_key line ≡ value (drop 4 line) = there row_key line _ c.starts.ensures (ap not c.if-not-starts.false) in
    let long = reaches row_key line _ c.starts.ensures (ap not c.if-not-starts.false) in
    rw (row_read _ line _ e long (sym c.in-Some.is ∙ c.from_bytes.ensures)) c.with_row.ensures

pub returns-in-None : goal.returns-in-None
unfolding row_key row_named
returns-in-None c =
    let line = c.args.line.now in
    let e : behind row_key line ≡ value (drop 4 line) = there row_key line _ c.starts.ensures (ap not c.if-not-starts.false) in
    let long = reaches row_key line _ c.starts.ensures (ap not c.if-not-starts.false) in
    rw (row_read _ line _ e long (sym c.in-None.is ∙ c.from_bytes.ensures)) c.stopped-in-None.ensures
