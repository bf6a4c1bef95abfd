-- `sheet::state::factor_step` meets its contract: 16 bytes behind the key, all of them digits. Assumes nothing.
use mathlib.Core.Bool.{not}
use mathlib.Core.Path.{◌≡◌, sym, ◌∙◌, ap}
use native.Mathlib.Omega.{arith}
use lib.ListN.{drop}
use Rattle.sheet.specs.Sheet.{factor_key, behind, value, factor_step}
use Rattle.sheet.proofs.Keys.{missing, there, reaches}
use Rattle.sheet.proofs.Steps.{factor-short, factor-read, factor-bad}
use Rattle.sheet.proofs.state.factor_step.Goals as goal

pub returns-then-not-starts : goal.returns-then-not-starts
unfolding factor_key factor_step
returns-then-not-starts c =
    rw (missing factor_key c.args.line.now _ c.starts.ensures (ap not c.if-not-starts.true)) c.stopped.ensures

pub returns-then-line-ne23 : goal.returns-then-line-ne23
unfolding factor_key
returns-then-line-ne23 c =
    let line = c.args.line.now in
    let e : behind factor_key line ≡ value (drop 7 line) = there factor_key line _ c.starts.ensures (ap not c.if-not-starts.false) in
    let long = reaches factor_key line _ c.starts.ensures (ap not c.if-not-starts.false) in
    rw (factor-short _ line e c.if-line-ne23.true long) c.stopped-then-line-ne23.ensures

pub returns-in-Some : goal.returns-in-Some
unfolding factor_key
returns-in-Some c =
    let line = c.args.line.now in
    let e : behind factor_key line ≡ value (drop 7 line) = there factor_key line _ c.starts.ensures (ap not c.if-not-starts.false) in
    rw (factor-read _ line e (omega arith) _ (sym c.read.ensures ∙ c.in-Some.is)) c.with_factor.ensures

pub returns-in-None : goal.returns-in-None
unfolding factor_key
returns-in-None c =
    let line = c.args.line.now in
    let e : behind factor_key line ≡ value (drop 7 line) = there factor_key line _ c.starts.ensures (ap not c.if-not-starts.false) in
    rw (factor-bad _ line e (omega arith) (sym c.read.ensures ∙ c.in-None.is)) c.stopped-in-None.ensures
