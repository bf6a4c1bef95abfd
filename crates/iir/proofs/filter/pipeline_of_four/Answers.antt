-- `iir::filter::pipeline_of_four` meets its contract: the sections start from where the turns before the first sample leave them. Assumes
-- nothing.
use mathlib.Core.Path.{sym}
use mathlib.Core.List.{[], ◌∷◌}
use Rattle.iir.specs.Flight.{through}
use Rattle.iir.proofs.Pipeline.{pipeline-cascade}
use Rattle.iir.proofs.filter.pipeline_of_four.Goals as goal

pub returns : goal.returns
unfolding through
returns c =
    rw (c.four.ensures, c.run-fourth.ensures, c.run-2.ensures, c.run.ensures, c.run-third.ensures, c.run-once.ensures, c.run-second.ensures)
    (sym (pipeline-cascade (c.args.a ∷ c.args.b ∷ c.args.c ∷ c.args.d ∷ []) c.args.row.now))
