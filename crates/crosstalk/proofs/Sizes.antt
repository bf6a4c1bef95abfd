-- The names of a crosstalk matrix that came as an argument have eight places: what owning them tells. Assumes nothing.
use mathlib.Core.Path.{◌≡◌}
use mathlib.Core.List.{List}
use mir.Val.{Val}
use lib.ListN.{length}
use denote.Laws.{Is}
use denote.Struct.Declared.{row}
use denote.Struct.Laws as LL
use Rattle.crosstalk.specs.declared.names.Crosstalk.{Crosstalk}
use Rattle.crosstalk.specs.contracts.names.Crosstalk as C
use Rattle.crosstalk.proofs.names.Crosstalk.TheLaws as C'

pub eight-names : (c : Crosstalk) (vs : List Val) → Is (row C.the_type) c vs → length c.names ≡ 8
eight-names c vs is = (LL.owed C.the_type C'.the_laws c vs is).1.0.1.0.1
