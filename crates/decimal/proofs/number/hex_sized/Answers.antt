-- `decimal::number::hex_sized` meets its contract: the two sides of the mark. Assumes nothing.
use Rattle.std.specs.Prelude.{Some}
use mathlib.Core.Path.{sym, ap, ◌∙◌}
use lib.Dec.{lit<}
use lib.Seq.{length-take-le}
use Rattle.decimal.proofs.Marks.{mark-within, hex-size-at}
use Rattle.decimal.proofs.Reading.{power-up-small, power-down-small}
use Rattle.decimal.proofs.number.hex_sized.Goals as goal

pub returns-in_err-p : goal.returns-in_err-p
returns-in_err-p c =
    rw (hex-size-at c.args.minus c.args.text.now c.mark-e.result c.mark-e.ensures, sym c.power_at.ensures ∙ c.in_err-p.was) c.from_residual.ensures

pub slice_bounds-hex_scaled-end : goal.slice_bounds-hex_scaled-end
slice_bounds-hex_scaled-end c =
    sym (length-take-le c.mark-e.result c.args.text.now (mark-within 112 c.args.text.now c.mark-e.result c.mark-e.ensures))

pub hex_scaled-requires : goal.hex_scaled-requires
hex_scaled-requires c =
    (power-up-small c.mark-e.result c.args.text.now c.in-Up.p (sym c.power_at.ensures ∙ c.in_ok-p.was ∙ ap Some c.in-Up.is), lit< tt)

pub slice_bounds-hex_scaled-end-in-Down : goal.slice_bounds-hex_scaled-end-in-Down
slice_bounds-hex_scaled-end-in-Down c =
    sym (length-take-le c.mark-e.result c.args.text.now (mark-within 112 c.args.text.now c.mark-e.result c.mark-e.ensures))

pub hex_scaled-requires-in-Down : goal.hex_scaled-requires-in-Down
hex_scaled-requires-in-Down c =
    (lit< tt, power-down-small c.mark-e.result c.args.text.now c.in-Down.p (sym c.power_at.ensures ∙ c.in_ok-p.was ∙ ap Some c.in-Down.is))

pub returns-in-Up : goal.returns-in-Up
returns-in-Up c =
    rw (hex-size-at c.args.minus c.args.text.now c.mark-e.result c.mark-e.ensures, sym c.power_at.ensures ∙ c.in_ok-p.was, c.in-Up.is) c.hex_scaled.ensures

pub returns-in-Down : goal.returns-in-Down
returns-in-Down c =
    rw (hex-size-at c.args.minus c.args.text.now c.mark-e.result c.mark-e.ensures, sym c.power_at.ensures ∙ c.in_ok-p.was, c.in-Down.is) c.hex_scaled-in-Down.ensures
