-- `fma::pack::finish` meets its contract: what stands for s is brought to one word, and that is rounded. Assumes nothing.
use Rattle.fma.proofs.pack.finish.Goals as goal

pub returns : goal.returns
returns c = λ s w. c.rounded.ensures s (c.normal-n.ensures.stands s w)
