-- `fields::value::shape_in` meets its contract. By whether the value was found, and whether it is empty. Assumes nothing.
use Rattle.std.specs.Prelude.{Some}
use Prim.Native.Nat.{◌-◌}
use mathlib.Core.Path.{ap}
use native.Mathlib.Omega.{arith}
use borrow.Author.Tests.{eq-eqb, ne_eqb}
use Rattle.naming.specs.declared.Name.{Name}
use Rattle.fields.proofs.Values.{found_none, found-value, found_inside, value-long}
use Rattle.fields.specs.Value.{shape_field}
use Rattle.fields.proofs.value.shape_in.Goals as goal

pub returns-in_err-value : goal.returns-in_err-value
unfolding shape_field
returns-in_err-value c = rw (found_none c.args.line.now c.args.k c.args.key.now c.value_at.result c.value_at.ensures c.in_err-value.was) c.from_residual.ensures

pub returns-then-value : goal.returns-then-value
unfolding shape_field
returns-then-value c =
    let v = c.in_ok-value.value in
    let inside = found_inside c.args.line.now c.args.k c.args.key.now c.value_at.result c.value_at.ensures v.from v.to c.in_ok-value.was in
    rw (
      found-value c.args.line.now c.args.k c.args.key.now c.value_at.result c.value_at.ensures v.from v.to c.in_ok-value.was,
      value-long c.args.line.now v.from v.to inside.0 inside.1,
      eq-eqb (v.to - v.from) 0 (omega arith),
    )

pub returns : goal.returns
unfolding shape_field
returns c =
    let v = c.in_ok-value.value in
    let inside = found_inside c.args.line.now c.args.k c.args.key.now c.value_at.result c.value_at.ensures v.from v.to c.in_ok-value.was in
    rw (
      found-value c.args.line.now c.args.k c.args.key.now c.value_at.result c.value_at.ensures v.from v.to c.in_ok-value.was,
      value-long c.args.line.now v.from v.to inside.0 inside.1,
      ne_eqb (v.to - v.from) 0 (λ e. c.if-value.false (omega (arith, inside.0))),
    )
    (ap (λ (n : Name). Some (Some n)) c.name_of.ensures)
