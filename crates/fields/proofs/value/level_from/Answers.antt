-- `fields::value::level_from` meets its contract. Nine digits fit an i32 on either side of 0. Assumes nothing.
use mathlib.Core.Path.{sym, ◌∙◌}
use native.Mathlib.Omega.{arith}
use Rattle.fields.proofs.Values.{level-fits, minus-fits, minus_is, plus-is, level-long, level-broken}
use Rattle.fields.proofs.value.level_from.Goals as goal

pub returns-then-text-gt9 : goal.returns-then-text-gt9
returns-then-text-gt9 c = sym (level-long _ _ (omega arith))

pub returns-in_err-size : goal.returns-in_err-size
returns-in_err-size c =
    c.from_residual.ensures ∙ sym (level-broken _ _ (omega arith) (sym c.figures.ensures ∙ c.in_err-size.was))

pub overflow_cast-size : goal.overflow_cast-size
overflow_cast-size c = level-fits _ c.in_ok-size.field-0 (omega arith) (sym c.figures.ensures ∙ c.in_ok-size.was)

pub overflow_sub-result : goal.overflow_sub-result
overflow_sub-result c = minus-fits _ c.in_ok-size.field-0 (omega arith) (sym c.figures.ensures ∙ c.in_ok-size.was)

pub returns-then-minus : goal.returns-then-minus
returns-then-minus c =
    rw c.if-minus.true (minus_is _ c.in_ok-size.field-0 (omega arith) (sym c.figures.ensures ∙ c.in_ok-size.was))

pub returns-else-minus : goal.returns-else-minus
returns-else-minus c =
    rw c.if-minus.false (plus-is _ c.in_ok-size.field-0 (omega arith) (sym c.figures.ensures ∙ c.in_ok-size.was))
