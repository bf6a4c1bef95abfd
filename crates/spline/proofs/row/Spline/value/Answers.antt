use Rattle.std.proofs.Common.{sym, ◌∙◌}
use Rattle.spline.proofs.Span.{value-inside, value-outside}
use Rattle.spline.proofs.row.Spline.value.Goals as goal

pub returns-then-in_domain : goal.returns-then-in_domain
returns-then-in_domain c =
    let s = c.args.self.now in
    value-inside s.row.now s.degree s.controls c.args.x _ _ (sym c.in_domain.ensures ∙ c.if-in_domain.true) c.span.ensures.value c.de_boor.ensures

pub returns-else-in_domain : goal.returns-else-in_domain
returns-else-in_domain c =
    let s = c.args.self.now in
    value-outside s.row.now s.degree s.controls c.args.x (sym c.in_domain.ensures ∙ c.if-in_domain.false)
