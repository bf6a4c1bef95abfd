-- `job_sheet::first::behind_line` meets its contract: the line's feed is passed, where it has one. Assumes nothing.
use native.Mathlib.Omega.{arith}
use lib.ListN.{drop, length-drop}
use Rattle.job_sheet.proofs.Firsts.{with-feed, to_the_end}
use Rattle.job_sheet.proofs.first.behind_line.Goals as goal

pub returns-then-end-text : goal.returns-then-end-text
returns-then-end-text c =
    let args = c.args in
    let text = args.text.now in
    let line = drop args.at text in
    let end = c.line_end-end.ensures in
    rw (with-feed line (omega (arith, end, length-drop args.at text, c.if-end-text.true))) (omega (arith, end))

pub returns-else-end-text : goal.returns-else-end-text
returns-else-end-text c =
    let args = c.args in
    let text = args.text.now in
    let line = drop args.at text in
    let end = c.line_end-end.ensures in
    rw (to_the_end line (omega (arith, end, length-drop args.at text, c.if-end-text.false))) (omega (arith, end))
