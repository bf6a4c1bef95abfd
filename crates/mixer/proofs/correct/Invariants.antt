-- The first samples of both rows are corrected, two for each pair.
use Rattle.std.proofs.Common.{◌*◌}
use Rattle.mixer.proofs.Turning.{FirstDone}
use Rattle.mixer.proofs.correct.Given as goal

abbrev pub invariant-loop-pair : goal.invariant-loop-pair
invariant-loop-pair l = FirstDone l.initial.i l.initial.q l.first.m l.first.n l.first.offset l.second.m l.second.n l.second.offset l.i l.q (2 * l.pair)
