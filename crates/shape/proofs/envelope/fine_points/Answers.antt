use Rattle.std.proofs.Common.{◌≡◌, true, sym, ap, ◌∙◌, ⊎_elim}
use Rattle.pulse.specs.declared.envelope.Shape.{Shape}
use Rattle.shape.specs.Envelope.{finite_points, fine_points}
use Rattle.shape.proofs.Shapes.{plain-judged, hann-judged, spline-judged}
use Rattle.shape.proofs.envelope.fine_points.Goals as goal

pub returns-in-Plain : goal.returns-in-Plain
returns-in-Plain c =
    let numbers = c.args.numbers.now in
    let p = c.args.p in
    let known : finite_points p ≡ true = sym c.if-finite_points.ensures in
    ⊎_elim
    (λ e. plain-judged numbers p known ∙ ap (λ (s : Shape). fine_points s numbers p) (sym e))
    (λ e. hann-judged numbers p known ∙ ap (λ (s : Shape). fine_points s numbers p) (sym e)) c.in-Plain.is

pub returns-in-Spline : goal.returns-in-Spline
returns-in-Spline c =
    let numbers = c.args.numbers.now in
    let p = c.args.p in
    let known : finite_points p ≡ true = sym c.if-finite_points.ensures in
    c.steps_fine.ensures ∙ spline-judged numbers p known ∙ ap (λ (s : Shape). fine_points s numbers p) (sym c.in-Spline.is)

pub returns-else-finite_points : goal.returns-else-finite_points
unfolding fine_points
returns-else-finite_points c = rw (← c.finite_points.ensures, c.if-finite_points.false)
