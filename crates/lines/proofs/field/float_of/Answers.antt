-- `lines::field::float_of` meets its contract: 0/0 is `nan`, as is what every NaN pattern stands for. Assumes nothing.
use mathlib.Core.Path.{◌∙◌, sym}
use Rattle.lines.proofs.Nan.{nan-of-bits, zero_by_zero}
use Rattle.lines.proofs.field.float_of.Goals as goal

pub returns-then-nan_bits : goal.returns-then-nan_bits
returns-then-nan_bits c = zero_by_zero ∙ sym (nan-of-bits _ (sym c.nan_bits.ensures ∙ c.if-nan_bits.true))
