use mathlib.Core.Path.{◌∙◌, sym}
use native.Mathlib.Omega.{arith}
use Rattle.naming.specs.Name.{name_byte}
use Rattle.naming.proofs.Places.{every-all, every-not}
use Rattle.naming.proofs.all_stand.Goals as goal

pub returns-then-not-stands : goal.returns-then-not-stands
returns-then-not-stands c =
    let text = c.args.text.now in
    let call = c.stands in
    let bad = sym call.ensures ∙ c.if-not-stands.true in
    sym (every-not name_byte text c.loop-b.b-index (omega arith) bad)

pub returns : goal.returns
returns c =
    let text = c.args.text.now in
    sym (every-all name_byte text (λ k h. c.loop-b.invariant k (omega arith)))
