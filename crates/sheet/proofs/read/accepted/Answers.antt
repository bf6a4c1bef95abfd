-- `sheet::read::accepted` meets its contract: the columns array is the columns, then blanks. Assumes nothing.
use mathlib.Core.Path.{refl}
use Rattle.sheet.specs.Sheet.{answer_of, names_of}
use Rattle.sheet.proofs.Steps.{names-eight}
use Rattle.sheet.proofs.read.accepted.Goals as goal

pub returns : goal.returns
unfolding answer_of names_of
returns c = record { answered = refl; named = names-eight c.args.s c.requires }
