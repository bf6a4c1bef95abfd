-- `fma::of_finite` meets its contract: where something is a zero, one operation of the machine is all that rounds. Assumes nothing.
use Rattle.fma.proofs.Fusing.{nonzero-of, first-zero, second-zero, third-zero}
use Rattle.fma.proofs.of_finite.Goals as goal

pub returns-then-a : goal.returns-then-a
returns-then-a c = first-zero c.args.a c.args.b c.args.c c.requires.0 c.requires.1 c.requires.2 c.if-a.true

pub returns-then-b : goal.returns-then-b
returns-then-b c = second-zero c.args.a c.args.b c.args.c c.requires.0 c.requires.1 c.requires.2 c.if-b.true

pub returns-then-c : goal.returns-then-c
returns-then-c c =
    third-zero c.args.a c.args.b c.args.c (nonzero-of c.args.a c.requires.0 c.if-a.false) (nonzero-of c.args.b c.requires.1 c.if-b.false) c.requires.2 c.if-c.true

pub general-requires : goal.general-requires
general-requires c =
    (nonzero-of c.args.a c.requires.0 c.if-a.false, nonzero-of c.args.b c.requires.1 c.if-b.false, nonzero-of c.args.c c.requires.2 c.if-c.false)
