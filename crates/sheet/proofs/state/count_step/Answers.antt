-- `sheet::state::count_step` meets its contract: its tests are those of one digit 1..8 behind the key. Assumes nothing.
use mathlib.Core.Bool.{not}
use mathlib.Core.Path.{◌≡◌, subst, ap}
use native.Mathlib.Omega.{arith}
use lib.ListN.{drop}
use Rattle.sheet.specs.Reader.{Steps}
use Rattle.sheet.specs.Sheet.{channels_key, behind, value, count_step, goes, SoFar}
use Rattle.sheet.proofs.Keys.{missing, there, reaches}
use Rattle.sheet.proofs.Steps.{count_long, count_low, count-high, count-digit}
use Rattle.sheet.proofs.state.count_step.Goals as goal

pub returns-then-not-starts : goal.returns-then-not-starts
unfolding channels_key count_step
returns-then-not-starts c =
    rw (missing channels_key c.args.line.now _ c.starts.ensures (ap not c.if-not-starts.true)) c.stopped.ensures

pub returns-then-line-ne10 : goal.returns-then-line-ne10
unfolding channels_key
returns-then-line-ne10 c =
    let line = c.args.line.now in
    let e : behind channels_key line ≡ value (drop 9 line) = there channels_key line _ c.starts.ensures (ap not c.if-not-starts.false) in
    let long = reaches channels_key line _ c.starts.ensures (ap not c.if-not-starts.false) in
    rw (e, count_long line c.if-line-ne10.true long) c.stopped-then-line-ne10.ensures

pub returns-then-digit-lt49 : goal.returns-then-digit-lt49
unfolding channels_key
returns-then-digit-lt49 c =
    let line = c.args.line.now in
    let e : behind channels_key line ≡ value (drop 9 line) = there channels_key line _ c.starts.ensures (ap not c.if-not-starts.false) in
    rw (e, count_low line (omega arith) c.if-digit-lt49.true) c.stopped-then-digit-lt49.ensures

pub returns-then-digit-gt56 : goal.returns-then-digit-gt56
unfolding channels_key
returns-then-digit-gt56 c =
    let line = c.args.line.now in
    let e : behind channels_key line ≡ value (drop 9 line) = there channels_key line _ c.starts.ensures (ap not c.if-not-starts.false) in
    rw (e, count-high line (omega arith) c.if-digit-lt49.false c.if-digit-gt56.true) c.stopped-then-digit-gt56.ensures

pub returns : goal.returns
unfolding channels_key
returns c =
    let line = c.args.line.now in
    let e : behind channels_key line ≡ value (drop 9 line) = there channels_key line _ c.starts.ensures (ap not c.if-not-starts.false) in
    rw (e, count-digit line (omega arith) c.if-digit-lt49.false c.if-digit-gt56.false)
    (subst (λ (s : SoFar). Steps c.went.result (goes s)) c.fresh.ensures.is c.went.ensures)
