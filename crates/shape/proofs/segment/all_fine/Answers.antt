use Rattle.std.proofs.Common.{◌≡◌, ℕ, ◌+◌, ◌<◌, Bool, true, false, ◌&&◌, List, length, drop, sym, ap, ◌∙◌, zero-add, arith}
use lib.Seq.{drop-length}
use lib.Ieee.{Float}
use Rattle.points.specs.Points.{point_at, points}
use Rattle.points.proofs.Turns.{points-length, points-at}
use Rattle.pulse.specs.declared.envelope.Shape.TheVariants.{Spline}
use Rattle.spline.specs.Value.{fine_in}
use Rattle.shape.specs.Segment.{point_fine, all_fine}
use Rattle.shape.proofs.Shapes.{fine-next}
use Rattle.shape.proofs.segment.all_fine.Goals as goal

-- what is judged from the i-th point y on, with the answer b at it
judged : (numbers : List Float) (n i : ℕ) (x dx y : Float) (b : Bool) → i < n → y ≡ point_at x dx i → fine_in numbers y ≡ b
    → all_fine Spline numbers (drop i (points n 0 x dx)) ≡ (b && all_fine Spline numbers (drop (i + 1) (points n 0 x dx)))
unfolding point_fine
judged numbers n i x dx y b h e f =
    let all = points n 0 x dx in
    let here = points-at n 0 x dx i h ∙ ap (point_at x dx) (zero-add i) ∙ sym e in
    fine-next Spline numbers all i (omega (arith, points-length n 0 x dx))
    ∙ ap (λ (c : Bool). c && all_fine Spline numbers (drop (i + 1) all)) (ap (fine_in numbers) here ∙ f)

pub returns-then-not-is_fine : goal.returns-then-not-is_fine
returns-then-not-is_fine c =
    let a = c.args in
    sym (c.loop-i.invariant ∙ judged a.numbers.now a.count c.loop-i.i a.x a.dx _ false (omega arith) c.point.ensures (sym c.if-not-is_fine.ensures))

pub loop-i-preserved : goal.loop-i-preserved
loop-i-preserved c =
    let a = c.args in
    c.loop-i.invariant ∙ judged a.numbers.now a.count c.loop-i.i a.x a.dx _ true (omega arith) c.point.ensures (sym c.if-not-is_fine.ensures)

pub returns : goal.returns
unfolding all_fine
returns c =
    let a = c.args in
    let all = points a.count 0 a.x a.dx in
    let end : c.loop-i.i ≡ length all = omega (arith, points-length a.count 0 a.x a.dx) in
    sym (c.loop-i.invariant ∙ ap (λ (n : ℕ). all_fine Spline a.numbers.now (drop n all)) end ∙ ap (all_fine Spline a.numbers.now) (drop-length all))
