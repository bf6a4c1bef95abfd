use mathlib.Core.Path.{◌≡◌}
use native.Mathlib.Numerals.{add-one}
use native.Mathlib.Omega.{arith}
use lib.ListN.{length, get_or, drop}
use Rattle.fields.specs.Words.{words_of}
use Rattle.fields.proofs.Splitting.{blank-most, counts-on, counts-last}
use Rattle.fields.proofs.words.count.Goals as goal

pub overflow_add-blanks : goal.overflow_add-blanks
overflow_add-blanks c = omega (arith, blank-most (get_or c.args.line.now c.loop-b.b-index 0), c.blank-blanks.ensures)

pub loop-b-preserved : goal.loop-b-preserved
loop-b-preserved c =
    let at = c.loop-b in
    let line = c.args.line.now in
    let most = blank-most (get_or line at.b-index 0) in
    let on = counts-on line at.b-index (omega arith) in
    (omega (arith, c.blank-blanks.ensures), rw add-one (omega (arith, c.blank-blanks.ensures)))

pub returns : goal.returns
returns c =
    let at = c.loop-b in
    let line = c.args.line.now in
    let last : length (words_of (drop at.b-index line)) ≡ 1 = counts-last line at.b-index (omega arith) in
    omega arith
