use Rattle.std.proofs.Common.{T, rules}
use lib.Ieee.{binary64, fits}
use Rattle.exact.proofs.AtMost.{at_most}
use Rattle.shape.proofs.segment.is_within.Goals as goal

pub returns-then-bound-z : goal.returns-then-bound-z
returns-then-bound-z c = λ e m v.
    let fit : T (fits binary64 c.args.z) = search rules in
    at_most c.args.bound c.args.z m v fit e c.if-bound-z.true
