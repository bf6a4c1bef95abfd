use mathlib.Core.Path.{sym, ap, ◌∙◌}
use mathlib.Core.List.{List}
use native.Mathlib.Numerals.{add-one}
use native.Mathlib.Omega.{arith}
use lib.Ieee.{Float, nan}
use lib.Ieee.Scale.{finite}
use lib.ListN.{get_or, drop_of_length-le}
use Rattle.exact.proofs.Truth.{both}
use Rattle.sheet.specs.Puts.{factor_line}
use Rattle.sheet.specs.Sheet.{factors_text, patterns}
use Rattle.sheet.proofs.Pasting.{left-all, left-room, left-more, left-none}
use Rattle.sheet.proofs.Printing.{factors-line, finite-next, factor-line-long}
use Rattle.sheet.proofs.put.put_factors.Goals as goal

pub loop-x-init : goal.loop-x-init
loop-x-init c = (c.requires.0, left-all _ _ _ c.requires.1)

pub put_factor-at-requires : goal.put_factor-at-requires
put_factor-at-requires c =
    let numbers = c.args.numbers.now in
    let at = c.loop-x in
    let x = get_or numbers at.x-index nan in
    let room = left-room (factor_line x) _ (factors-line numbers at.x-index (omega arith)) at.invariant.1 in (
      (both (finite x) _ (sym (finite-next numbers at.x-index (omega arith)) ∙ at.invariant.0)).0,
      omega (arith, room, factor-line-long x),
    )

pub loop-x-preserved : goal.loop-x-preserved
loop-x-preserved c =
    let numbers = c.args.numbers.now in
    let at = c.loop-x in (
      rw add-one (both (finite (get_or numbers at.x-index nan)) _ (sym (finite-next numbers at.x-index (omega arith)) ∙ at.invariant.0)).1,
      rw add-one (left-more (factors-line numbers at.x-index (omega arith)) at.invariant.1 c.put_factor-at.ensures c.put_factor-at.auto.out),
    )

pub returns : goal.returns
unfolding factors_text patterns
returns c =
    let numbers = c.args.numbers.now in
    let at = c.loop-x in
    left-none (ap (λ (l : List Float). factors_text (patterns l)) (drop_of_length-le numbers {i = at.x-index} (omega arith))) at.invariant.1
