use Rattle.std.proofs.Common.{◌≡◌, true, false, not, get_or, arith, ◌∙◌, take, drop}
use lib.Ieee.{eq, ne, nan}
use lib.Seq.{take_all}
use lib.ListN.{length-drop}
use Rattle.exact.specs.Doubles.{two}
use Rattle.spline.specs.Same.{same_numbers}
use Rattle.pulse.proofs.Rows.{by_parts}
use Rattle.pulse.proofs.bin.same_row.Goals as goal

pub returns-then-head : goal.returns-then-head
unfolding ne
returns-then-head c =
    let a = c.args in
    let plain : not (eq (get_or a.head.now 0 nan) two) ≡ true = c.if-head.true in
    plain ∙ rw (by_parts a.row.now a.head.now a.numbers.now c.told-head, ← c.same.ensures, c.if-same.true, plain)

pub returns-else-head : goal.returns-else-head
unfolding ne
returns-else-head c =
    let a = c.args in
    let spline : not (eq (get_or a.head.now 0 nan) two) ≡ false = c.if-head.false in
    let e : c.same-else-head.result ≡ same_numbers (take 72 (drop 5 a.row.now)) a.numbers.now = c.same-else-head.ensures in
    rw (
      by_parts a.row.now a.head.now a.numbers.now c.told-head,
      ← c.same.ensures,
      c.if-same.true,
      spline,
      e,
      take_all 72 (drop 5 a.row.now) (omega (arith, length-drop 5 a.row.now, c.told-row)),
    )

pub returns-else-same : goal.returns-else-same
returns-else-same c =
    let a = c.args in
    rw (by_parts a.row.now a.head.now a.numbers.now c.told-head, ← c.same.ensures, c.if-same.false)
