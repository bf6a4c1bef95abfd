-- `sheet::print::sizes_fit` meets its contract: its tests are the definition's, and the size is the text's. Assumes nothing.
use native.Mathlib.Omega.{arith}
use borrow.Author.Tests.{le-leb}
use Rattle.sheet.specs.Sheet.{print_fits}
use Rattle.sheet.proofs.Parts.{few}
use Rattle.sheet.proofs.Printing.{text-long}
use Rattle.sheet.proofs.print.sizes_fit.Goals as goal

pub overflow_mul-count : goal.overflow_mul-count
overflow_mul-count c = omega (arith, few c.if-count-gt8.false c.if-count-gt8.false)

pub returns-then-count-matrix : goal.returns-then-count-matrix
unfolding print_fits
returns-then-count-matrix c =
    let p = c.args in
    rw (
      le-leb 1 p.count c.if-count-lt1.false,
      le-leb p.count 8 c.if-count-gt8.false,
      le-leb _ _ c.if-count-matrix.true,
      text-long p.count p.names p.matrix.now (omega arith) c.if-count-matrix.true,
      c.needed.ensures,
    )
