use Rattle.std.proofs.Common.{◌-◌, ◌∙◌}
use Rattle.points.specs.Points.{points}
use Rattle.shape.proofs.Shapes.{spline-fine}
use Rattle.shape.proofs.envelope.steps_fine.Goals as goal

pub returns-then-always_fine : goal.returns-then-always_fine
returns-then-always_fine c =
    let numbers = c.args.numbers.now in
    let p = c.args.p in
    let f = c.always_fine.ensures c.if-always_fine.true in
    c.if-always_fine.true
    ∙ rw (← spline-fine numbers (points p.start 0 p.x0 p.dx) f, ← spline-fine numbers (points (p.length - p.end) 0 p.x2 p.dx) f)
