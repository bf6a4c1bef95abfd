-- `fields::pair::pair_in` meets its contract. By what each of the two was read as. Assumes nothing.
use mathlib.Core.Path.{sym, ◌∙◌}
use Rattle.fields.specs.Value.{pair_field}
use Rattle.fields.proofs.pair.pair_in.Goals as goal

pub returns-in_err-x : goal.returns-in_err-x
unfolding pair_field
returns-in_err-x c = rw (sym c.number_in.ensures ∙ c.in_err-x.was) c.from_residual.ensures

pub returns-in_err-y : goal.returns-in_err-y
unfolding pair_field
returns-in_err-y c =
    rw (sym c.number_in.ensures ∙ c.in_ok-x.was, sym c.number_in-2.ensures ∙ c.in_err-y.was) c.from_residual-in_err-y.ensures

pub returns : goal.returns
unfolding pair_field
returns c =
    rw (sym c.number_in.ensures ∙ c.in_ok-x.was, sym c.number_in-2.ensures ∙ c.in_ok-y.was)
