use Rattle.std.proofs.Common.{length, sym, ap, ◌∙◌}
use Rattle.pulse.specs.declared.envelope.Shape.{Shape}
use Rattle.shape.specs.Segment.{values}
use Rattle.shape.proofs.Shapes.{plain-values, hann-values, spline-values}
use Rattle.shape.proofs.segment.sample.Goals as goal

pub returns-in-Plain : goal.returns-in-Plain
returns-in-Plain c =
    let a = c.args in
    let n = length a.part.now in
    c.fill.ensures.after (λ y h. h)
    ∙ plain-values a.numbers.now n a.x a.dx
    ∙ ap (λ (s : Shape). values s a.numbers.now n 0 a.x a.dx) (sym c.in-Plain.is)

pub returns-in-Hann : goal.returns-in-Hann
returns-in-Hann c =
    let a = c.args in
    let n = length a.part.now in
    c.sample_hann.ensures ∙ hann-values a.numbers.now n a.x a.dx ∙ ap (λ (s : Shape). values s a.numbers.now n 0 a.x a.dx) (sym c.in-Hann.is)

pub returns-in-Spline : goal.returns-in-Spline
returns-in-Spline c =
    let a = c.args in
    let n = length a.part.now in
    c.sample_spline.ensures ∙ spline-values a.numbers.now n a.x a.dx ∙ ap (λ (s : Shape). values s a.numbers.now n 0 a.x a.dx) (sym c.in-Spline.is)
