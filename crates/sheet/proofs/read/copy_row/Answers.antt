use mathlib.Core.Path.{◌≡◌, ◌∙◌}
use native.Mathlib.Numerals.{add-one}
use native.Mathlib.Omega.{arith}
use lib.Ieee.{nan}
use lib.ListN.{length, take, drop, length-set}
use lib.Seq.{paste-suc, take-length}
use Rattle.sheet.specs.Sheet.{doubles}
use Rattle.sheet.proofs.Filling.{row-long, row_at}
use Rattle.sheet.proofs.read.copy_row.Goals as goal

pub loop-k-preserved : goal.loop-k-preserved
loop-k-preserved c =
    let p = c.args in
    let at = c.loop-k in
    let row = doubles (take p.count (drop p.from p.factors)) in
    let size = row-long p.factors p.from p.count (omega arith) in
    let here = row_at p.factors p.from p.count (omega arith) at.k nan (omega arith) in (
      omega arith,
      simp length-set at.invariant.1,
      rw (at.invariant.2, c.float_of.ensures, ← here, add-one)
          (paste-suc p.matrix.now p.to row at.k nan (omega arith) (omega (arith, size))),
    )

pub returns : goal.returns
returns c =
    let p = c.args in
    let at = c.loop-k in
    let row = doubles (take p.count (drop p.from p.factors)) in
    let end : at.k ≡ length row = omega (arith, row-long p.factors p.from p.count (omega arith)) in
    at.invariant.2 ∙ rw (end, take-length row)
