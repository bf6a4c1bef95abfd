-- `sheet::read::refused` meets its contract. Assumes nothing.
use mathlib.Core.Path.{ap}
use Rattle.std.specs.Prelude.{Err}
use Rattle.sheet.specs.Sheet.{answer_of, names_of, eight, blank}
use Rattle.sheet.proofs.read.refused.Goals as goal

pub returns : goal.returns
unfolding answer_of names_of eight blank
returns c = record { answered = ap Err c.at.ensures; named = rw c.blank.ensures }
