-- `points::lay` meets its contract. Assumes nothing.
use Rattle.std.proofs.Common.{length, ap, ◌∙◌}
use lib.Ieee.{binary64, add}
use Rattle.exact.specs.Doubles.{nought}
use Rattle.points.specs.Grid.{headed}
use Rattle.points.proofs.Standing.{first-put}
use Rattle.points.proofs.lay.Goals as goal

pub returns-then-on_grid : goal.returns-then-on_grid
returns-then-on_grid c =
    let a = c.args in
    c.put_first.ensures
    ∙ ap (headed (add binary64 a.x nought)) c.lay_sums.ensures
    ∙ first-put (length a.part.now) a.x c.start-from.result a.dx c.start-from.ensures (c.on_grid.ensures c.if-on_grid.true)
