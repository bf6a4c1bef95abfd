use Rattle.rows.proofs.Valued.{Valued}
use Rattle.shape.specs.Hann.{hann_of, hann_wrapped}
use Rattle.shape.proofs.segment.sample_hann.Given as goal

abbrev pub invariant-loop-y : goal.invariant-loop-y
invariant-loop-y l = Valued hann_wrapped l.initial.part l.part l.y-index

abbrev pub invariant-loop-y-else-ends_near : goal.invariant-loop-y-else-ends_near
invariant-loop-y-else-ends_near l = Valued hann_of l.initial.part l.part l.y-index
