use Rattle.std.proofs.Common.{◌^◌, false, T, refl, rules}
use lib.Ieee.{Float, binary64, of_bits, fits}
use Rattle.exact.specs.Value.{Units}
use Rattle.exact.proofs.AtMost.{at_most}
use Rattle.spline.proofs.tame.is_tamed.Goals as goal

-- 2 ^ 1000
abbrev LARGEST : Float
LARGEST = of_bits binary64 0x7E70000000000000

largest-value : Units LARGEST false (2 ^ 2074)
unfolding of_bits
largest-value = (refl, refl)

pub returns-then-z : goal.returns-then-z
returns-then-z c = λ e. at_most LARGEST c.args.z (2 ^ 2074) largest-value fit e c.if-z.true
  where
    fit : T (fits binary64 c.args.z)
    fit = search rules
