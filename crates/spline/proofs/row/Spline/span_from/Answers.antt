use Rattle.std.proofs.Common.{arith}
use Rattle.exact.proofs.Truth.{both}
use Rattle.spline.specs.Spline.{in_domain}
use Rattle.spline.proofs.row.Spline.span_from.Goals as goal

pub span_up-requires-2-clause-p_le_from : goal.span_up-requires-2-clause-p_le_from
unfolding in_domain
span_up-requires-2-clause-p_le_from c = (omega arith, omega arith, (both _ _ c.requires.p_le_last.2).0)
