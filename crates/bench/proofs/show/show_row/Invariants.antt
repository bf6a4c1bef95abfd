-- A part has at most 256 samples.
use Rattle.std.proofs.Common.{◌≡◌}
use Rattle.bench.proofs.show.show_row.Given as goal

abbrev pub invariant-loop-part : goal.invariant-loop-part
invariant-loop-part l = l.part-iterator.size ≡ 256
