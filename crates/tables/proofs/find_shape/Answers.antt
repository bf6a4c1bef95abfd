use Prim.Native.Nat.{◌-◌}
use native.Mathlib.Omega.{arith}
use mathlib.Core.Path.{sym, ◌∙◌}
use Rattle.tables.proofs.Sizes.{eight-shapes}
use Rattle.tables.proofs.Finding.{none_left, none_over, next-left, shape-not, shape-here, shape-later}
use Rattle.tables.proofs.find_shape.Goals as goal

pub returns-then-t-i : goal.returns-then-t-i
returns-then-t-i c =
    let at = c.loop-i in
    let a = c.args in
    sym (shape-not at.i a.name _ (none_left a.t.shapes a.t.named at.i c.if-t-i.true)) ∙ at.invariant.1

pub returns-then-same : goal.returns-then-same
returns-then-same c =
    let at = c.loop-i in
    let a = c.args in
    let whole = eight-shapes a.t _ c.well_formed.0 in
    let cell = next-left a.t.shapes a.t.named at.i _ (omega arith) (omega (arith, whole)) in
    sym (shape-here at.i a.name _ _ _ cell (sym c.same.ensures ∙ c.if-same.true)) ∙ at.invariant.1

pub loop-i-preserved : goal.loop-i-preserved
loop-i-preserved c =
    let at = c.loop-i in
    let a = c.args in
    let whole = eight-shapes a.t _ c.well_formed.0 in
    let cell = next-left a.t.shapes a.t.named at.i _ (omega arith) (omega (arith, whole)) in
    (omega arith, shape-later at.i a.name _ _ _ cell (sym c.same.ensures ∙ c.if-same.false) ∙ at.invariant.1)

pub returns : goal.returns
returns c =
    let at = c.loop-i in
    let a = c.args in
    let whole = eight-shapes a.t _ c.well_formed.0 in
    sym (shape-not at.i a.name _ (none_over a.t.shapes a.t.named at.i (omega (arith, whole)))) ∙ at.invariant.1
