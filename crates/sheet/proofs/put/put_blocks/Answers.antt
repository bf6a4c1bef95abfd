use Prim.Native.Nat.{◌+◌, ◌*◌, ◌-◌}
use mathlib.Core.List.{List}
use mathlib.Core.Path.{◌≡◌, sym, ap, ◌∙◌}
use native.Mathlib.Numerals.{add-one}
use native.Mathlib.Omega.{arith}
use lib.ListN.{get_or, take, drop}
use Rattle.exact.proofs.Truth.{both}
use Rattle.naming.specs.Name.{is_name}
use Rattle.naming.specs.declared.Name.{Name}
use Rattle.sheet.specs.Puts.{block_text}
use Rattle.sheet.specs.Sheet.{blank, all_finite, blocks_text, blocks_of}
use Rattle.sheet.proofs.Parts.{part_end, part_of, row_within}
use Rattle.sheet.proofs.Pasting.{left-more, left-none, left-room}
use Rattle.sheet.proofs.Printing.{blocks-line, good-next, finite-take, finite-drop}
use Rattle.sheet.proofs.put.put_blocks.Goals as goal

pub put_block-at-requires : goal.put_block-at-requires
unfolding blank
put_block-at-requires c =
    let p = c.args in
    let at = c.loop-i in
    let matrix = p.matrix.now in
    let row = at.i * p.count in
    let n = get_or p.names at.i blank in
    let size : row + p.count - row ≡ p.count = omega arith in
    let all = p.count * p.count in
    let part = part_of matrix row p.count all (row_within p.count at.i (omega arith)) in
    let fine = finite-take p.count (drop row (take all matrix)) (finite-drop row (take all matrix) c.requires.0.fine) in (
      (both (is_name n) _ (sym (good-next p.names p.count (omega arith) at.i blank (omega arith)) ∙ at.invariant.1)).0,
      rw size (ap all_finite (sym part) ∙ fine),
      rw size
          (left-room (block_text n (take p.count (drop row matrix))) _ (blocks-line p.names p.count (omega arith) at.i blank (omega arith) matrix) at.invariant.2),
    )

pub loop-i-preserved : goal.loop-i-preserved
unfolding blank
loop-i-preserved c =
    let p = c.args in
    let at = c.loop-i in
    let matrix = p.matrix.now in
    let row = at.i * p.count in
    let n = get_or p.names at.i blank in
    let size : row + p.count - row ≡ p.count = omega arith in
    let line = blocks-line p.names p.count (omega arith) at.i blank (omega arith) matrix in (
      omega arith,
      rw add-one (both (is_name n) _ (sym (good-next p.names p.count (omega arith) at.i blank (omega arith)) ∙ at.invariant.1)).1,
      rw add-one (left-more line at.invariant.2 (rw size at c.put_block-at.ensures) c.put_block-at.auto.out),
    )

pub returns : goal.returns
unfolding blocks_text blocks_of
returns c =
    let p = c.args in
    let at = c.loop-i in
    left-none (ap (λ (l : List Name). blocks_text (blocks_of p.count l (drop (at.i * p.count) p.matrix.now))) (part_end p.names p.count (omega arith) at.i (omega arith))) at.invariant.2
