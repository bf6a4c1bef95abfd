-- `fma::pack::magnitude` meets its contract. Assumes nothing.
use Rattle.fma.proofs.Packing.{pattern-at, pattern-inf}
use Rattle.fma.proofs.pack.magnitude.Goals as goal

pub returns-then-k-lt2046 : goal.returns-then-k-lt2046
returns-then-k-lt2046 c = pattern-at c.args.q c.args.k c.requires c.if-k-lt2046.true

pub returns-else-k-lt2046 : goal.returns-else-k-lt2046
returns-else-k-lt2046 c = pattern-inf c.args.q c.args.k c.requires c.if-k-lt2046.false
