-- `decimal::scale::binary` meets its contract: one word, times a power that is cut where nothing changes any more. Assumes nothing.
use Prim.Native.Nat.{ℕ, ◌+◌, ◌-◌, ◌*◌, ◌^◌}
use mathlib.Core.Path.{ap, ◌∙◌}
use borrow.Author.Tests.{le-leb, lt-leb}
use lib.Ieee.{binary64, round}
use Rattle.decimal.specs.Number.{scaled_by}
use Rattle.decimal.proofs.Twos.{alone, twos_up, twos-down}
use Rattle.decimal.proofs.scale.binary.Goals as goal

pub returns-then-down-up : goal.returns-then-down-up
unfolding scaled_by
returns-then-down-up c =
    let n = c.args.n in
    simp (le-leb _ _ c.if-down-up.true)
    (c.nearest_double.ensures (n * 2 ^ (2208 + c.min.result)) (alone n (2208 + c.min.result))
    ∙ ap (λ (z : ℕ). round binary64 c.args.minus (n * 2 ^ (2208 + z)) (2 ^ 2208)) c.min.ensures
    ∙ twos_up c.args.minus n (c.args.up - c.args.down))

pub returns : goal.returns
unfolding scaled_by
returns c =
    let n = c.args.n in
    simp (lt-leb _ _ c.if-down-up.false)
    (c.nearest_double-2.ensures (n * 2 ^ (2208 - c.min-2.result)) (alone n (2208 - c.min-2.result))
    ∙ ap (λ (z : ℕ). round binary64 c.args.minus (n * 2 ^ (2208 - z)) (2 ^ 2208)) c.min-2.ensures
    ∙ twos-down c.args.minus n (c.args.down - c.args.up) c.ranges.n.fits)
