-- `fields::value::number_in` meets its contract. By whether the value was found. Assumes nothing.
use Rattle.fields.proofs.Values.{found_none, found-value}
use Rattle.fields.specs.Value.{number_field}
use Rattle.fields.proofs.value.number_in.Goals as goal

pub returns-in_err-number : goal.returns-in_err-number
unfolding number_field
returns-in_err-number c = rw (found_none c.args.line.now c.args.k c.args.key.now c.value_at.result c.value_at.ensures c.in_err-number.was) c.from_residual.ensures

pub returns : goal.returns
unfolding number_field
returns c =
    let v = c.in_ok-number.number in
    rw (found-value c.args.line.now c.args.k c.args.key.now c.value_at.result c.value_at.ensures v.from v.to c.in_ok-number.was) c.read.ensures
