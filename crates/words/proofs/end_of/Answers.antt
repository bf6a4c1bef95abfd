-- `words::end_of` meets its contract: a line of a text ends within it. Assumes nothing.
use native.Mathlib.Omega.{arith}
use Rattle.lines.proofs.Lines.{line-ends-within}
use Rattle.words.proofs.end_of.Goals as goal

pub returns : goal.returns
returns c =
    let args = c.args in
    let within = line-ends-within args.text.now args.at (omega arith) in
    rw c.line_end.ensures (omega (arith, within))
