-- Arrays that came as an argument have eight places: what owning them tells, at the array's field. Assumes nothing.
use mathlib.Core.Path.{◌≡◌}
use mathlib.Core.List.{List}
use mir.Val.{Val}
use lib.ListN.{length}
use denote.Laws.{Is}
use denote.Struct.Declared.{row}
use denote.Struct.Laws as LL
use Rattle.merge.specs.declared.taking.Taking.{Taking}
use Rattle.merge.specs.declared.work.Ends.{Ends}
use Rattle.merge.specs.contracts.taking.Taking as T
use Rattle.merge.proofs.taking.Taking.TheLaws as T'
use Rattle.merge.specs.contracts.work.Ends as E
use Rattle.merge.proofs.work.Ends.TheLaws as E'
use Rattle.mixdown.specs.declared.runs.Runs.{Runs}
use Rattle.mixdown.specs.contracts.runs.Runs as R
use Rattle.mixdown.proofs.runs.Runs.TheLaws as R'

module _ (r : Runs) (vs : List Val) (is : Is (row R.the_type) r vs) where
  pub eight-runs : length r.runs ≡ 8
  eight-runs = (LL.owed R.the_type R'.the_laws r vs is).1.0.1.0.1

-- ---- and those of the lists that take part
module _ (t : Taking) (vs : List Val) (is : Is (row T.the_type) t vs) where
  pub eight-places : length t.places ≡ 8
  eight-places = (LL.owed T.the_type T'.the_laws t vs is).1.0.1.0.1

  pub eight-factors : length t.factors ≡ 8
  eight-factors = (LL.owed T.the_type T'.the_laws t vs is).1.1.0.1.0.1

module _ (e : Ends) (vs : List Val) (is : Is (row E.the_type) e vs) where
  pub eight-ends : length e.ends ≡ 8
  eight-ends = (LL.owed E.the_type E'.the_laws e vs is).0.1.0.1
