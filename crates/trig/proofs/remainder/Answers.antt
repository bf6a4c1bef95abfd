-- By the sign of a finite x; what is not finite has a NaN for its remainder, as for its difference from itself.
use Rattle.std.proofs.Common.{sym, subst, T, inl, inr}
use Rattle.std.specs.Float.{binary64}
use Rattle.std.specs.Float.Ieee.{fits}
use Rattle.trig.proofs.Reducing.{tau_value, tau_some}
use Rattle.trig.proofs.Sides.{known, unknown, positive, negative, turned_round, neither}
use Rattle.trig.proofs.remainder.Goals as goal
use Rattle.trig.proofs.remainder.Goals.{else-x-via-then-x+else-x-2, else-x-via-else-x}

pub taken-requires-clause-above : goal.taken-requires-clause-above
taken-requires-clause-above c =
    positive c.args.x (subst T (sym c.well_formed.0.1) tt) (known c.args.x c.if-x.true c.if-x-2.true) c.if-x-3.true

pub taken-requires-clause-divisor : goal.taken-requires-clause-divisor
taken-requires-clause-divisor c = (tau_value, tau_some)

pub taken-requires-then-x-4-clause-above : goal.taken-requires-then-x-4-clause-above
taken-requires-then-x-4-clause-above c =
    negative c.args.x (subst T (sym c.well_formed.0.1) tt) (known c.args.x c.if-x.true c.if-x-2.true) c.if-x-4.true

pub taken-requires-then-x-4-clause-divisor : goal.taken-requires-then-x-4-clause-divisor
taken-requires-then-x-4-clause-divisor c = (tau_value, tau_some)

pub returns-then-x-4 : goal.returns-then-x-4
returns-then-x-4 c =
    let q = c.taken-then-x-4.result in
    let g : T (fits binary64 q) = subst T (sym c.taken-then-x-4.type_inv) tt in
    turned_round c.args.x (subst T (sym c.well_formed.0.1) tt) (known c.args.x c.if-x.true c.if-x-2.true) q g c.if-x-4.true c.taken-then-x-4.ensures

pub returns-else-x-4 : goal.returns-else-x-4
returns-else-x-4 c =
    neither c.args.x (subst T (sym c.well_formed.0.1) tt) (known c.args.x c.if-x.true c.if-x-2.true) c.if-x-3.false c.if-x-4.false

pub returns-else-x : goal.returns-else-x
returns-else-x c = unknown c.args.x (elim c.else-x.branch [ else-x-via-then-x+else-x-2 w ↦ inr w.if-x-2.false | else-x-via-else-x w ↦ inl w.if-x.false ])
