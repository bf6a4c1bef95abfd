use Prim.Native.Nat.{suc}
use mathlib.Core.Path.{◌≡◌}
use native.Mathlib.Omega.{arith}
use native.Mathlib.Numerals.{add-one}
use lib.ListN.{drop}
use Rattle.lines.specs.Text.{line_length}
use Rattle.lines.proofs.Lines.{ends-here, ends_last, goes_on}
use Rattle.lines.proofs.text.line_end.Goals as goal

pub returns-then-text-i-eq10 : goal.returns-then-text-i-eq10
returns-then-text-i-eq10 c =
    let i = c.loop-i.i in
    let text = c.args.text.now in
    let none : line_length (drop i text) ≡ 0 = ends-here text i (omega arith) c.if-text-i-eq10.true in
    omega arith

pub loop-i-preserved : goal.loop-i-preserved
loop-i-preserved c =
    let i = c.loop-i.i in
    let text = c.args.text.now in
    let one : line_length (drop i text) ≡ suc (line_length (drop (suc i) text)) = goes_on text i (omega arith) c.if-text-i-eq10.false in
    rw add-one (omega arith)

pub returns : goal.returns
returns c =
    let i = c.loop-i.i in
    let text = c.args.text.now in
    let none : line_length (drop i text) ≡ 0 = ends_last text i (omega arith) in
    grind (arith, ends_last text c.args.at)
