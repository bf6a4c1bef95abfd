-- What doubles settle is the fused sum.
use lib.Ieee.{binary64, mul}
use lib.Ieee.Fits.{mul-fits}
use borrow.Author.Rules.{rules}
use Rattle.quick_fma.proofs.Settles.{tried}
use Rattle.mixer.proofs.line.Line.sums.Goals as goal

pub returns-then-two : goal.returns-then-two
returns-then-two c =
    let m = c.args.self in
    let a = c.args.a in
    let b = c.args.b in (
      tried m.m a.x (mul binary64 m.n a.y) (search rules) (search rules) (mul-fits binary64 m.n a.y) c.requires a.room m.high m.low a.high a.low c.trial-one.result m.split.upper m.split.lower a.split.upper a.split.lower c.trial-one.ensures c.if-one.true,
      tried m.m b.x (mul binary64 m.n b.y) (search rules) (search rules) (mul-fits binary64 m.n b.y) c.requires b.room m.high m.low b.high b.low c.trial-two.result m.split.upper m.split.lower b.split.upper b.split.lower c.trial-two.ensures c.if-two.true,
    )
