-- `iir::filter::pipeline_of_two` meets its contract: the sections start from where the turns before the first sample leave them. Assumes
-- nothing.
use mathlib.Core.Path.{sym}
use mathlib.Core.List.{[], ◌∷◌}
use Rattle.iir.specs.Flight.{through}
use Rattle.iir.proofs.Pipeline.{pipeline-cascade}
use Rattle.iir.proofs.filter.pipeline_of_two.Goals as goal

pub returns : goal.returns
unfolding through
returns c =
    rw (c.two.ensures, c.run.ensures)
    (sym (pipeline-cascade (c.args.a ∷ c.args.b ∷ []) c.args.row.now))
