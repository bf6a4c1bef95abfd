-- `points::sums::put_first` meets its contract. Assumes nothing.
use Rattle.std.proofs.Common.{arith}
use Rattle.std.proofs.lemmas.Bool.Decides.{nat_tests}
use Rattle.points.proofs.Turns.{put, none-put}
use Rattle.points.proofs.sums.put_first.Goals as goal

pub returns-then-not-is_empty : goal.returns-then-not-is_empty
returns-then-not-is_empty c = put c.args.part.now _ (grind (arith, nat_tests))

pub returns-else-not-is_empty : goal.returns-else-not-is_empty
returns-else-not-is_empty c = none-put c.args.part.now _ (grind (arith, nat_tests))
