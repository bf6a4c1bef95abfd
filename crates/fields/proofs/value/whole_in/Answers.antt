-- `fields::value::whole_in` meets its contract. By whether the value was found. Assumes nothing.
use Rattle.fields.proofs.Values.{found_none, found-value}
use Rattle.fields.specs.Value.{whole_field}
use Rattle.fields.proofs.value.whole_in.Goals as goal

pub returns-in_err-value : goal.returns-in_err-value
unfolding whole_field
returns-in_err-value c = rw (found_none c.args.line.now c.args.k c.args.key.now c.value_at.result c.value_at.ensures c.in_err-value.was) c.from_residual.ensures

pub returns : goal.returns
unfolding whole_field
returns c =
    let v = c.in_ok-value.value in
    rw (found-value c.args.line.now c.args.k c.args.key.now c.value_at.result c.value_at.ensures v.from v.to c.in_ok-value.was) c.figures.ensures
