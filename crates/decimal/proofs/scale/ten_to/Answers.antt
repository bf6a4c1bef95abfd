use native.Mathlib.Omega.{arith}
use native.Mathlib.Numerals.{add-one}
use mathlib.Core.Path.{◌≡◌}
use Rattle.decimal.proofs.Powers.{one_value, power-next}
use Rattle.decimal.proofs.scale.ten_to.Goals as goal

pub loop-init : goal.loop-init
loop-init c = one_value

pub loop-preserved : goal.loop-preserved
loop-preserved c =
    let at = c.loop in
    rw add-one (power-next at.p at.counter (omega arith) at.invariant)

pub returns : goal.returns
returns c =
    let at = c.loop in
    let end : at.counter ≡ c.args.k = omega arith in
    rw end at at.invariant
