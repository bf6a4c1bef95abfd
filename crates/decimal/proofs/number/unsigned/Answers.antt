-- `decimal::number::unsigned` meets its contract: by how the text begins. Assumes nothing.
use mathlib.Core.Path.{◌≡◌, sym, ◌∙◌}
use mathlib.Core.Bool.{true, false}
use native.Mathlib.Omega.{arith}
use Rattle.decimal.specs.Number.{is_hex, unsigned_of}
use Rattle.decimal.proofs.Hexing.{hex-long}
use Rattle.decimal.proofs.Places.{rest_part}
use Rattle.decimal.proofs.number.unsigned.Goals as goal

pub slice_bounds-hex_sized-count : goal.slice_bounds-hex_sized-count
slice_bounds-hex_sized-count c = omega (arith, hex-long c.args.text.now (sym c.is_hex.ensures ∙ c.if-is_hex.true))

pub slice_bounds-hex_sized-start : goal.slice_bounds-hex_sized-start
slice_bounds-hex_sized-start c = omega (arith, hex-long c.args.text.now (sym c.is_hex.ensures ∙ c.if-is_hex.true))

pub returns-then-is_hex : goal.returns-then-is_hex
unfolding unsigned_of
returns-then-is_hex c =
    let text = c.args.text.now in
    let yes : is_hex text ≡ true = sym c.is_hex.ensures ∙ c.if-is_hex.true in
    rw (yes, ← rest_part text 2) c.hex_sized.ensures

pub returns-else-is_hex : goal.returns-else-is_hex
unfolding unsigned_of
returns-else-is_hex c =
    let no : is_hex c.args.text.now ≡ false = sym c.is_hex.ensures ∙ c.if-is_hex.false in
    rw no c.sized.ensures
