-- The samples before the loop's place are new.
use Rattle.rows.proofs.Valued.{Valued}
use Rattle.ring.specs.Inside.{by_tap}
use Rattle.ring.proofs.few.only_tap.Given as goal

abbrev pub invariant-loop-x : goal.invariant-loop-x
invariant-loop-x l = Valued (by_tap l.tap) l.initial.row l.row l.x-index
