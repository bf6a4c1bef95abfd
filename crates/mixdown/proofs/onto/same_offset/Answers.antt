use Rattle.mixdown.proofs.Holdings.{bits-same}
use lib.Dec.{T}
use mathlib.Core.Path.{sym, subst}
use Rattle.mixdown.proofs.onto.same_offset.Goals as goal

pub returns-then-b : goal.returns-then-b
returns-then-b c = bits-same _ _ (subst T (sym c.well_formed.0.1) tt) (subst T (sym c.well_formed.1.0.1) tt)
