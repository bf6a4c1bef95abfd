-- `sheet::print::factor_at` meets its contract: at most 8 columns and 64 factors. Assumes nothing.
use mathlib.Core.Path.{refl}
use Rattle.sheet.specs.Sheet.{factor_at}
use Rattle.sheet.proofs.print.factor_at.Goals as goal

pub returns : goal.returns
unfolding factor_at
returns c = refl
