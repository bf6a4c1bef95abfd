use Rattle.std.proofs.Common.{◌≡◌, ◌-◌, T, sym, ap, ◌∙◌, arith, rules}
use lib.Ieee.{binary64, fits, lt}
use Rattle.spline.proofs.Rising.{next-knot, span-found}
use Rattle.spline.proofs.row.Spline.span_up.Goals as goal

pub returns-then-x-knot-clause-value : goal.returns-then-x-knot-clause-value
returns-then-x-knot-clause-value c =
    let s = c.args.self.now in
    let x = c.args.x in
    let fit : T (fits binary64 x) = search rules in
    let above = ap (lt x) (sym c.knot.ensures) ∙ c.if-x-knot.true in
    span-found s.row.now s.degree s.controls x fit c.requires.tame c.loop-k.k (omega arith) (omega arith) c.loop-k.invariant (λ _. above)

pub loop-k-preserved : goal.loop-k-preserved
loop-k-preserved c =
    let s = c.args.self.now in
    let x = c.args.x in
    let fit : T (fits binary64 x) = search rules in
    let not-above = ap (lt x) (sym c.knot.ensures) ∙ c.if-x-knot.false in
    next-knot s.row.now s.degree s.controls x fit c.requires.tame c.loop-k.k (omega arith) c.loop-k.invariant not-above

pub returns-clause-value : goal.returns-clause-value
returns-clause-value c =
    let s = c.args.self.now in
    let x = c.args.x in
    let fit : T (fits binary64 x) = search rules in
    let last : c.loop-k.k ≡ s.controls - 1 = omega arith in
    sym last
    ∙ span-found s.row.now s.degree s.controls x fit c.requires.tame c.loop-k.k (omega arith) (omega arith) c.loop-k.invariant (λ l. absurd (omega arith))
