use mathlib.Core.Path.{◌≡◌, refl}
use native.Mathlib.Numerals.{add-one}
use native.Mathlib.Omega.{arith}
use lib.ListN.{take, drop, drop_of_length-le}
use lib.Seq.{length-take-le}
use Rattle.sheet.specs.Puts.{names_size}
use Rattle.sheet.specs.Sheet.{blank}
use Rattle.sheet.proofs.Parts.{few}
use Rattle.sheet.proofs.Printing.{size-next, size-most}
use Rattle.sheet.proofs.print.needed.Goals as goal

pub overflow_mul-size : goal.overflow_mul-size
overflow_mul-size c = omega (arith, few c.requires c.requires)

pub overflow_mul-size-2 : goal.overflow_mul-size-2
overflow_mul-size-2 c = omega (arith, few c.requires c.requires)

pub overflow_add-size : goal.overflow_add-size
overflow_add-size c = omega (arith, few c.requires c.requires)

pub loop-n-init : goal.loop-n-init
loop-n-init c = refl

pub overflow_add-size-in-loop-n : goal.overflow_add-size-in-loop-n
unfolding blank
overflow_add-size-in-loop-n c =
    let names = take c.args.count c.args.names in
    let next = size-next names c.loop-n.n-index blank (omega arith) in
    let all = size-most names in
    let long = length-take-le c.args.count c.args.names (omega arith) in
    omega (arith, few c.requires c.requires, c.two_lines-size.ensures)

pub loop-n-preserved : goal.loop-n-preserved
unfolding blank
loop-n-preserved c =
    let next = size-next (take c.args.count c.args.names) c.loop-n.n-index blank (omega arith) in
    rw add-one (omega (arith, c.two_lines-size.ensures))

pub returns : goal.returns
unfolding names_size
returns c =
    let names = take c.args.count c.args.names in
    let none : names_size (drop c.loop-n.n-index names) ≡ 0 = rw (drop_of_length-le names {i = c.loop-n.n-index} (omega arith)) in
    omega arith
