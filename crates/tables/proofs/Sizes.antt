-- The arrays of tables that came as an argument have eight places: what owning them tells, at the array's field. Assumes nothing.
use mathlib.Core.Path.{◌≡◌}
use mathlib.Core.List.{List}
use mir.Val.{Val}
use lib.ListN.{length}
use denote.Laws.{Is}
use denote.Struct.Declared.{row}
use denote.Struct.Laws as LL
use Rattle.tables.specs.declared.Tables.{Tables}
use Rattle.tables.specs.contracts.Tables as T
use Rattle.tables.proofs.Tables.TheLaws as T'

module _ (t : Tables) (vs : List Val) (is : Is (row T.the_type) t vs) where
  pub eight_channels : length t.channels ≡ 8
  eight_channels = (LL.owed T.the_type T'.the_laws t vs is).1.1.1.0.1.0.1

  pub eight-shapes : length t.shapes ≡ 8
  eight-shapes = (LL.owed T.the_type T'.the_laws t vs is).1.1.1.1.1.0.1.0.1
