use Rattle.std.proofs.Common.{◌≡◌, ◌++◌, List, ◌∙◌, rules}
use Rattle.std.proofs.lemmas.Iterator.{YieldsList-from_slice}
use Rattle.std.proofs.lemmas.Iterator.Search.{position_from_yields_List}
use Rattle.std.specs.List.{position}
use lib.Ieee.{Float}
use Rattle.pulse.specs.Bin.{same_row}
use Rattle.pulse.proofs.Place.{place-found}
use Rattle.pulse.proofs.bin.place.Goals as goal

pub returns : goal.returns
returns c =
    let rows = c.args.rows.now in
    let row = c.args.head ++ c.args.numbers.now in
    let test = λ (r : List Float). same_row r row in
    let found : c.position.result ≡ position test rows =
    position_from_yields_List test _ _ c.position.result c.position.ensures.ran (YieldsList-from_slice rows cc) (λ x b q k. search rules) in
    c.unwrap_or.ensures ∙ rw found (place-found row rows)
