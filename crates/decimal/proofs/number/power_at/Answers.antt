-- `decimal::number::power_at` meets its contract: without a mark the power is 0. Assumes nothing.
use Prim.Native.Nat.{◌+◌}
use mathlib.Core.Path.{sym}
use native.Mathlib.Numerals.{add-one}
use native.Mathlib.Omega.{arith}
use Rattle.decimal.proofs.Places.{rest_part}
use Rattle.decimal.proofs.Reading.{power-none-at, power-some-at}
use Rattle.decimal.proofs.number.power_at.Goals as goal

pub returns-then-text-p : goal.returns-then-text-p
returns-then-text-p c = sym (power-none-at _ _ (omega arith))

pub returns : goal.returns
returns c =
    let args = c.args in
    let text = args.text.now in
    rw (power-some-at args.p text (omega arith), ← add-one args.p, ← rest_part text (args.p + 1)) c.power_of.ensures
