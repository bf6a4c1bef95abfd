-- Below TAU in size the angle is only wrapped; what `turned` gives is the reduced angle where it is less than PI in size and not zero; and else
-- the two steps of the definition are taken.
use Rattle.std.proofs.Common.{sym, ◌∙◌, subst, inl, inr, T, rules}
use Rattle.trig.specs.Reduce.{reduced}
use Rattle.trig.proofs.Reducing.{reduced-tested}
use Rattle.trig.proofs.reduce.Goals as goal
use Rattle.trig.proofs.reduce.Goals.{else-x-via-then-x+else-x-2, else-x-via-else-x}

pub returns-then-x-2 : goal.returns-then-x-2
returns-then-x-2 c =
    c.wrap.ensures ∙ sym (reduced-tested c.args.x (subst T (sym c.well_formed.0.1) tt) c.if-x.true c.if-x-2.true)

pub returns-then-r-3 : goal.returns-then-r-3
returns-then-r-3 c =
    c.turned-r.ensures (elim c.else-x.branch [ else-x-via-then-x+else-x-2 w ↦ inr w.if-x-2.false | else-x-via-else-x w ↦ inl w.if-x.false ])
    (record { below = c.if-r.true; above = c.if-r-2.true; some = c.if-r-3.true })

pub returns-else-r : goal.returns-else-r
unfolding reduced
returns-else-r c = search rules
