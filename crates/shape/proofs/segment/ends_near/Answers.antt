use Rattle.std.proofs.Common.{arith}
use Rattle.shape.proofs.Bounds.{near-value}
use Rattle.shape.proofs.segment.ends_near.Goals as goal

pub returns-then-is_within : goal.returns-then-is_within
returns-then-is_within c = λ e.
    record {
      some = omega arith;
      few = omega arith;
      first = c.is_within.ensures c.if-is_within.true _ near-value;
      last = c.is_within-then-is_within.ensures e _ near-value;
    }
