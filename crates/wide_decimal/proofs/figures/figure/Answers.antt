-- `wide_decimal::figures::figure` meets its contract: behind the point the byte after it. Assumes nothing.
use mathlib.Core.Path.{sym, ap, ◌∙◌}
use Prim.Native.Nat.{ℕ}
use native.Mathlib.Numerals.{add-one}
use native.Mathlib.Omega.{arith}
use lib.ListN.{get_or}
use Rattle.wide_decimal.specs.Figures.{figure_of}
use Rattle.wide_decimal.proofs.Texts.{at_most, before-point, behind-within, behind-point}
use Rattle.wide_decimal.proofs.figures.figure.Goals as goal
use Rattle.wide_decimal.proofs.figures.figure.Goals.{then-k-point, else-k-point}

pub bounds-text-k : goal.bounds-text-k
bounds-text-k c = omega (arith, c.requires, at_most c.args.point c.args.text.now)

pub overflow_add-k : goal.overflow_add-k
overflow_add-k c = omega (arith, behind-within c.args.point c.args.text.now c.args.k c.requires c.if-k-point.false)

pub bounds-text-k-else-k-point : goal.bounds-text-k-else-k-point
bounds-text-k-else-k-point c = omega (arith, behind-within c.args.point c.args.text.now c.args.k c.requires c.if-k-point.false)

pub returns : goal.returns
returns c =
    let a = c.args in
    elim c.if-k-point.branch [
      | then-k-point w ↦ c.worth_of.ensures ∙ ap figure_of (w.worth_of-is ∙ sym (before-point a.point a.text.now a.k c.requires w.if-k-point.true))
      | else-k-point w ↦
          c.worth_of.ensures
          ∙ ap figure_of (w.worth_of-is ∙ ap (λ (x : ℕ). get_or a.text.now x 0) (add-one a.k) ∙ sym (behind-point a.point a.text.now a.k c.requires w.if-k-point.false))
    ]
