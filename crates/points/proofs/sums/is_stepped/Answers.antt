-- `points::sums::is_stepped` meets its contract. Assumes nothing.
use Rattle.std.proofs.Common.{T, sym, subst}
use Rattle.points.proofs.Stepping.{stepped-above, stepped_beneath, stepped-none}
use Rattle.points.proofs.sums.is_stepped.Goals as goal
use Rattle.points.proofs.sums.is_stepped.Goals.{then-x, else-x, then-x-3, else-x-3}

pub returns-then-x-4 : goal.returns-then-x-4
returns-then-x-4 c =
    elim c.if-x.branch [
      | else-x w ↦ cc
      | then-x w ↦ elim c.if-x-3.branch [
        | then-x-3 v ↦ λ e. stepped-above c.args.x (subst T (sym c.well_formed.0.1) tt) w.if-x.true (cc) v.if-x-3.true
        | else-x-3 v ↦ λ e. stepped_beneath c.args.x (subst T (sym c.well_formed.0.1) tt) w.if-x.true (cc) (cc)
      ]
    ]

pub returns-else-x-4 : goal.returns-else-x-4
returns-else-x-4 c = stepped-none c.args.x
