-- `lines::field::nan_bits` meets its contract, by the library's law: a pattern is a NaN's where it lies above infinity's, the sign
-- left out. Assumes nothing.
use mathlib.Core.Path.{sym}
use lib.Ieee.{binary64}
use lib.Ieee.Bits.{nan_bits_above}
use Rattle.lines.proofs.field.nan_bits.Goals as goal

pub returns : goal.returns
returns c = sym (nan_bits_above binary64 c.args.bits)
