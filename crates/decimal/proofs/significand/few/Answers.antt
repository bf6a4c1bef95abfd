-- `decimal::significand::few` meets its contract. The digits before the point, and from their number on those behind it. Assumes nothing.
use mathlib.Core.Path.{sym, ◌∙◌}
use native.Mathlib.Omega.{arith}
use Rattle.decimal.proofs.Cutting.{reach, front, cut-none, cut-many, room-first, room-second, cut-front, cut-back, cut-whole}
use Rattle.decimal.proofs.significand.few.Goals as goal

pub behind-next-requires : goal.behind-next-requires
behind-next-requires c = reach 46 c.args.text.now c.place-point.result c.place-point.ensures

pub returns-then-count-lt1 : goal.returns-then-count-lt1
returns-then-count-lt1 c =
    let s = c.args.text.now in
    let p = c.place-point.result in
    let q = c.behind-next.result in
    let e = c.place-point.ensures in
    let f = c.behind-next.ensures in
    sym (cut-none c.args.base c.args.most s p q e f (omega arith))

pub returns-then-most-count : goal.returns-then-most-count
returns-then-most-count c =
    let s = c.args.text.now in
    let p = c.place-point.result in
    let q = c.behind-next.result in
    let e = c.place-point.ensures in
    let f = c.behind-next.ensures in
    sym (cut-many c.args.base c.args.most s p q e f (omega arith))

pub slice_bounds-follow-end : goal.slice_bounds-follow-end
slice_bounds-follow-end c =
    front 46 c.args.text.now c.place-point.result c.place-point.ensures

pub follow-requires : goal.follow-requires
follow-requires c =
    let s = c.args.text.now in
    let p = c.place-point.result in
    let q = c.behind-next.result in
    let e = c.place-point.ensures in
    let f = c.behind-next.ensures in
    (c.requires.0, room-first c.args.base c.args.most s p q e f (omega arith) (omega arith) c.requires.0 c.requires.1)

pub returns-in_err-whole : goal.returns-in_err-whole
returns-in_err-whole c =
    let s = c.args.text.now in
    let p = c.place-point.result in
    let q = c.behind-next.result in
    let e = c.place-point.ensures in
    let f = c.behind-next.ensures in
    c.from_residual.ensures ∙ sym (cut-front c.args.base c.args.most s p q e f (omega arith) (omega arith) (sym c.follow.ensures ∙ c.in_err-whole.was))

pub follow-requires-2 : goal.follow-requires-2
follow-requires-2 c =
    let s = c.args.text.now in
    let p = c.place-point.result in
    let q = c.behind-next.result in
    let e = c.place-point.ensures in
    let f = c.behind-next.ensures in
    (c.requires.0, room-second c.args.base c.args.most s p q e f (omega arith) (omega arith) c.requires.0 c.requires.1 c.in_ok-whole.whole (sym c.follow.ensures ∙ c.in_ok-whole.was))

pub returns-in_err-digits : goal.returns-in_err-digits
returns-in_err-digits c =
    let s = c.args.text.now in
    let p = c.place-point.result in
    let q = c.behind-next.result in
    let e = c.place-point.ensures in
    let f = c.behind-next.ensures in
    c.from_residual-in_err-digits.ensures
    ∙ sym (cut-back c.args.base c.args.most s p q e f (omega arith) (omega arith) c.in_ok-whole.whole (sym c.follow.ensures ∙ c.in_ok-whole.was) (sym c.follow-2.ensures ∙ c.in_err-digits.was))

pub returns : goal.returns
returns c =
    let s = c.args.text.now in
    let p = c.place-point.result in
    let q = c.behind-next.result in
    let e = c.place-point.ensures in
    let f = c.behind-next.ensures in
    sym (cut-whole c.args.base c.args.most s p q e f (omega arith) (omega arith) c.in_ok-whole.whole (sym c.follow.ensures ∙ c.in_ok-whole.was)
    c.in_ok-digits.digits (sym c.follow-2.ensures ∙ c.in_ok-digits.was))
