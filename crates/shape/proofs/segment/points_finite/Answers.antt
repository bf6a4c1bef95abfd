use Rattle.std.proofs.Common.{◌<◌, refl, sym, ◌∙◌, arith, rules}
use mathlib.Core.Bool.{false≢true}
use Rattle.rows.specs.Rows.{all_finite}
use Rattle.points.specs.Points.{points}
use Rattle.shape.proofs.Ends.{ends, moderate_ends}
use Rattle.shape.proofs.Bounds.{moderate-value}
use Rattle.shape.proofs.segment.points_finite.Goals as goal
use Rattle.shape.proofs.segment.points_finite.Goals.{then-count-eq0, else-count-eq0+then-is_within, else-count-eq0+else-is_within}

pub returns-then-is_within-2 : goal.returns-then-is_within-2
unfolding points all_finite
returns-then-is_within-2 c =
    let a = c.args in
    c.if-is_within-2.true
    ∙ elim c.if-count-eq0.branch [
      | then-count-eq0 w ↦ rw w.if-count-eq0.true
      | else-count-eq0+then-is_within w ↦
          moderate_ends a.x a.dx a.count (omega arith)
          (w.if-is_within.ensures refl _ moderate-value)
          (w.is_within-then-is_within.ensures (sym w.value-is ∙ c.if-is_within-2.true) _ moderate-value)
      | else-count-eq0+else-is_within w ↦ absurd (false≢true (sym w.if-is_within.false ∙ sym w.value-is ∙ c.if-is_within-2.true))
    ]

pub returns-then-is_finite : goal.returns-then-is_finite
returns-then-is_finite c =
    let a = c.args in
    let some : 0 < a.count = search rules in
    rw (← ends a.x a.dx a.count some c.requires, ← c.point.ensures, ← c.is_finite.ensures, c.if-is_finite.true, ← c.point-then-is_finite.ensures) c.is_finite-then-is_finite.ensures

pub returns-else-is_finite : goal.returns-else-is_finite
returns-else-is_finite c =
    let a = c.args in
    let some : 0 < a.count = search rules in
    rw (← ends a.x a.dx a.count some c.requires, ← c.point.ensures, ← c.is_finite.ensures, c.if-is_finite.false)
