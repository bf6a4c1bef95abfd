-- The two bounds that a size is tested against, as so many units. Assumes nothing.
use Rattle.std.proofs.Common.{◌*◌, ◌^◌, false, refl}
use lib.Ieee.{binary64, of_bits}
use Rattle.exact.specs.Value.{Units}

-- 2 ^ 100 and 7/8
pub moderate-value : Units (of_bits binary64 0x4630000000000000) false (2 ^ 1174)
unfolding of_bits
moderate-value = (refl, refl)

pub near-value : Units (of_bits binary64 0x3FEC000000000000) false (7 * 2 ^ 1071)
unfolding of_bits
near-value = (refl, refl)
