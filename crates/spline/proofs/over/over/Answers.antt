use Rattle.std.proofs.Common.{map, sym, ◌∙◌}
use Rattle.exact.specs.Doubles.{nought}
use Rattle.rows.proofs.Valued.{constant}
use Rattle.spline.proofs.Told.{told-value, untold-value}
use Rattle.spline.proofs.over.over.Goals as goal

pub returns-in-Some : goal.returns-in-Some
returns-in-Some c =
    let part = c.args.part.now in
    c.over.ensures ∙ (λ i. map (λ x. told-value c.args.row.now x c.in-Some.ensures i) part)

pub returns-in-None : goal.returns-in-None
returns-in-None c =
    let part = c.args.part.now in
    c.fill.ensures.after (λ y h. h)
    ∙ sym (constant nought part)
    ∙ (λ i. map (λ x. untold-value c.args.row.now x c.in-None.ensures i) part)
