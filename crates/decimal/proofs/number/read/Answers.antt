-- `decimal::number::read` meets its contract. By the length, and then by what `hexadecimal` read. Assumes nothing.
use Rattle.std.specs.Prelude.{Some}
use mathlib.Core.Path.{sym, ap, ◌∙◌}
use borrow.Author.Tests.{eq-eqb, ne_eqb}
use lib.ListN.{length}
use Rattle.decimal.specs.Number.{number_of}
use Rattle.decimal.proofs.number.read.Goals as goal

pub returns-then-word-ne16 : goal.returns-then-word-ne16
unfolding number_of
returns-then-word-ne16 c =
    let word = c.args.word.now in
    rw (ne_eqb (length word) 16 c.if-word-ne16.true) c.decimal.ensures

pub returns-in-Some : goal.returns-in-Some
unfolding number_of
returns-in-Some c =
    let word = c.args.word.now in
    rw (eq-eqb (length word) 16 c.if-word-ne16.false, sym c.read.ensures ∙ c.in-Some.is) (ap Some c.float_of.ensures)

pub returns-in-None : goal.returns-in-None
unfolding number_of
returns-in-None c =
    let word = c.args.word.now in
    rw (eq-eqb (length word) 16 c.if-word-ne16.false, sym c.read.ensures ∙ c.in-None.is) c.decimal-in-None.ensures
