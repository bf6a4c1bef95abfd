-- `trig::wrap` meets its contract: each way out is the one that its tests choose in the definition. Assumes nothing.
use mathlib.Core.Path.{sym}
use Rattle.trig.proofs.Reducing.{goes-off, goes_on, stays}
use Rattle.trig.proofs.wrap.Goals as goal

pub returns-then-r : goal.returns-then-r
returns-then-r c = sym (goes-off c.args.r c.if-r.true)

pub returns-then-r-2 : goal.returns-then-r-2
returns-then-r-2 c = sym (goes_on c.args.r c.if-r.false c.if-r-2.true)

pub returns-else-r-2 : goal.returns-else-r-2
returns-else-r-2 c = sym (stays c.args.r c.if-r.false c.if-r-2.false)
