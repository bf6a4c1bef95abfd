-- The rows that are looked through are the channel's.
use mathlib.Core.Path.{sym, ◌∙◌}
use Rattle.commands.proofs.Rows.{not_full, place-most, stored_is}
use Rattle.commands.proofs.play.store_at.Goals as goal

pub returns-then-is_full : goal.returns-then-is_full
returns-then-is_full c =
    let a = c.args in
    let r = c.requires in
    let is = stored_is a.t a.bins.now a.i _ a.c r.c_value c.min-many.ensures r.i_bound.0 r.i_bound.2 a.splines.now a.head a.spline _ c.place_with-at.ensures a.start.0 a.w in
    c.stops.ensures ∙ sym (is ∙ rw (sym c.is_full.ensures ∙ c.if-is_full.true))

pub stores-requires-clause-i_bound : goal.stores-requires-clause-i_bound
stores-requires-clause-i_bound c =
    let a = c.args in
    let r = c.requires in
    (r.i_bound.0, place-most a.t a.bins.now a.i _ a.c r.c_value c.min-many.ensures r.i_bound.0 r.i_bound.2 a.splines.now a.head a.spline _ c.place_with-at.ensures)

pub stores-requires-clause-bins_bound : goal.stores-requires-clause-bins_bound
stores-requires-clause-bins_bound c = not_full _ _ _ (sym c.is_full.ensures ∙ c.if-is_full.false)

pub returns : goal.returns
returns c =
    let a = c.args in
    let r = c.requires in
    let is = stored_is a.t a.bins.now a.i _ a.c r.c_value c.min-many.ensures r.i_bound.0 r.i_bound.2 a.splines.now a.head a.spline _ c.place_with-at.ensures a.start.0 a.w in
    c.stores.ensures ∙ sym (is ∙ rw (sym c.is_full.ensures ∙ c.if-is_full.false))
