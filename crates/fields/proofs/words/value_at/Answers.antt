-- `fields::words::value_at` meets its contract. The word that begins there, parted at the key. Assumes nothing.
use mathlib.Core.Bool.{not}
use mathlib.Core.Path.{ap}
use native.Mathlib.Omega.{arith}
use Rattle.fields.proofs.Splitting.{reaches, found_at}
use Rattle.fields.proofs.words.value_at.Goals as goal

pub overflow_add-to : goal.overflow_add-to
overflow_add-to c =
    let line = c.args.line.now in
    let from = c.start-from.result in
    let p = c.place.result in
    omega (arith, reaches line c.args.k from p c.start-from.ensures c.place.ensures)

pub slice_bounds-starts-end : goal.slice_bounds-starts-end
slice_bounds-starts-end c =
    let line = c.args.line.now in
    let from = c.start-from.result in
    let p = c.place.result in
    omega (arith, reaches line c.args.k from p c.start-from.ensures c.place.ensures)

pub returns : goal.returns
returns c =
    let line = c.args.line.now in
    let from = c.start-from.result in
    let p = c.place.result in
    found_at line c.args.k from p c.start-from.ensures c.place.ensures c.args.key.now c.starts.result c.starts.ensures (ap not c.if-not-starts.false)
