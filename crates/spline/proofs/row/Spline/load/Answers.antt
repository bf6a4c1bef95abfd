use Rattle.std.proofs.Common.{arith}
use Rattle.spline.proofs.Columns.{loaded-all}
use Rattle.spline.proofs.row.Spline.load.Goals as goal

pub returns : goal.returns
returns c = loaded-all c.args.self.now.row.now c.args.self.now.degree c.args.k c.args.x _ c.loop-j.j (omega arith) c.loop-j.invariant
