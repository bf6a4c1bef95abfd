use mathlib.Core.Path.{sym, ap, ◌∙◌}
use native.Mathlib.Numerals.{add-one}
use native.Mathlib.Omega.{arith}
use lib.ListN.{get_or}
use Rattle.exact.proofs.Truth.{both}
use Rattle.naming.specs.Name.{is_name}
use Rattle.sheet.specs.Puts.{name_line}
use Rattle.sheet.specs.Sheet.{blank, column_key, columns_text}
use Rattle.sheet.proofs.Parts.{part_end}
use Rattle.sheet.proofs.Pasting.{left-more, left-none, left-room}
use Rattle.sheet.proofs.Printing.{columns-line, good-next}
use Rattle.sheet.proofs.put.put_columns.Goals as goal

pub put_column-at-requires : goal.put_column-at-requires
unfolding blank
put_column-at-requires c =
    let p = c.args in
    let at = c.loop-i in
    let n = get_or p.names at.i blank in (
      (both (is_name n) _ (sym (good-next p.names p.count (omega arith) at.i blank (omega arith)) ∙ at.invariant.1)).0,
      left-room (name_line column_key n) _ (columns-line p.names p.count (omega arith) at.i blank (omega arith)) at.invariant.2,
    )

pub loop-i-preserved : goal.loop-i-preserved
unfolding blank
loop-i-preserved c =
    let p = c.args in
    let at = c.loop-i in
    let n = get_or p.names at.i blank in (
      omega arith,
      rw add-one (both (is_name n) _ (sym (good-next p.names p.count (omega arith) at.i blank (omega arith)) ∙ at.invariant.1)).1,
      rw add-one
          (left-more (columns-line p.names p.count (omega arith) at.i blank (omega arith)) at.invariant.2 c.put_column-at.ensures c.put_column-at.auto.out),
    )

pub returns : goal.returns
unfolding columns_text
returns c =
    let p = c.args in
    let at = c.loop-i in
    left-none (ap columns_text (part_end p.names p.count (omega arith) at.i (omega arith))) at.invariant.2
