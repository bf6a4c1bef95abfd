use Prim.Native.Nat.{◌-◌}
use native.Mathlib.Omega.{arith}
use mathlib.Core.Path.{sym, ◌∙◌}
use Rattle.tables.proofs.Sizes.{eight_channels}
use Rattle.tables.proofs.Finding.{none_left, none_over, next-left, found-not, found_here, found-later}
use Rattle.tables.proofs.find.Goals as goal

pub returns-then-t-i : goal.returns-then-t-i
returns-then-t-i c =
    let at = c.loop-i in
    let a = c.args in
    sym (found-not at.i a.name _ (none_left a.t.channels a.t.count at.i c.if-t-i.true)) ∙ at.invariant.1

pub returns-then-same : goal.returns-then-same
returns-then-same c =
    let at = c.loop-i in
    let a = c.args in
    let whole = eight_channels a.t _ c.well_formed.0 in
    let cell = next-left a.t.channels a.t.count at.i _ (omega arith) (omega (arith, whole)) in
    sym (found_here at.i a.name _ _ _ cell (sym c.same.ensures ∙ c.if-same.true)) ∙ at.invariant.1

pub loop-i-preserved : goal.loop-i-preserved
loop-i-preserved c =
    let at = c.loop-i in
    let a = c.args in
    let whole = eight_channels a.t _ c.well_formed.0 in
    let cell = next-left a.t.channels a.t.count at.i _ (omega arith) (omega (arith, whole)) in
    (omega arith, found-later at.i a.name _ _ _ cell (sym c.same.ensures ∙ c.if-same.false) ∙ at.invariant.1)

pub returns : goal.returns
returns c =
    let at = c.loop-i in
    let a = c.args in
    let whole = eight_channels a.t _ c.well_formed.0 in
    sym (found-not at.i a.name _ (none_over a.t.channels a.t.count at.i (omega (arith, whole)))) ∙ at.invariant.1
