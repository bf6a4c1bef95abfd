use Rattle.std.proofs.Common.{◌-◌, arith}
use Rattle.spline.proofs.Columns.{turned_more}
use Rattle.spline.proofs.row.Spline.column.Goals as goal

pub loop-j-preserved : goal.loop-j-preserved
loop-j-preserved c =
    let s = c.args.self.now in
    turned_more s.row.now s.degree c.args.k c.args.x c.args.r _ (c.loop-j.j - 1) c.requires.0
    (omega arith) c.loop-j.invariant _ _ _ c.knot-lo.ensures
    c.knot-hi.ensures c.step.ensures
