-- `sheet::state::with_factor` meets its contract. Assumes nothing.
use mathlib.Core.Bool.{true, false, not}
use mathlib.Core.Path.{◌≡◌, ◌∙◌, ap}
use lib.Ieee.{binary64, of_bits}
use lib.Ieee.Scale.{finite}
use Rattle.quant.proofs.Judging.{taken, passed}
use Rattle.sheet.specs.Sheet.{factor_bits}
use Rattle.sheet.proofs.Steps.{factor-goes}
use Rattle.sheet.proofs.state.with_factor.Goals as goal

pub returns-then-not-is_finite : goal.returns-then-not-is_finite
unfolding factor_bits
returns-then-not-is_finite c =
    let e : finite (of_bits binary64 c.args.bits) ≡ false = taken _ _ (c.is_finite.ensures ∙ rw c.float_of.ensures) (ap not c.if-not-is_finite.true) in
    rw e c.stopped.ensures

pub returns : goal.returns
returns c =
    let e : finite (of_bits binary64 c.args.bits) ≡ true = passed _ _ (c.is_finite.ensures ∙ rw c.float_of.ensures) (ap not c.if-not-is_finite.false) in
    rw (factor-goes c.args.s c.requires.0 c.requires.1 c.args.bits e) c.went.ensures
