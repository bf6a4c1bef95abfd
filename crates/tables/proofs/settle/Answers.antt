-- `tables::settle` meets its contract. Assumes nothing.
use borrow.Author.Tests.{lt-ltb, le-ltb}
use Rattle.tables.specs.Tables.{settled}
use Rattle.tables.proofs.settle.Goals as goal

pub returns-then-t-ge8 : goal.returns-then-t-ge8
unfolding settled
returns-then-t-ge8 c = rw (c.refused.ensures, c.in-None.is, le-ltb _ _ c.if-t-ge8.true)

pub returns-in-Some : goal.returns-in-Some
unfolding settled
returns-in-Some c = rw (c.done.ensures, c.with_channel.ensures, c.in-Some.is)

pub returns-else-t-ge8 : goal.returns-else-t-ge8
unfolding settled
returns-else-t-ge8 c = rw (c.done-in-None.ensures, c.in-None.is, lt-ltb _ _ c.if-t-ge8.false)
