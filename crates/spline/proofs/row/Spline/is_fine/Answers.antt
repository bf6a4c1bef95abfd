use Rattle.std.proofs.Common.{sym, ◌∙◌, arith}
use Rattle.spline.specs.Value.{spline_fine}
use Rattle.spline.specs.Walk.{Within}
use Rattle.spline.proofs.Judged.{judged}
use Rattle.spline.proofs.row.Spline.is_fine.Goals as goal

pub returns-then-all_wide : goal.returns-then-all_wide
unfolding spline_fine
returns-then-all_wide c =
    let s = c.args.self.now in
    let k = c.span-k in
    let inside = sym c.in_domain.ensures ∙ c.if-in_domain.true in
    let within : Within s.degree k.result = record { degree = omega arith; from = omega arith; below = omega arith } in
    rw (inside, ← k.ensures.value, judged s.row.now s.degree k.result c.args.x within, ← c.all_wide.ensures, c.if-all_wide.true, c.is_finite.ensures, c.de_boor.ensures)

pub returns-else-all_wide : goal.returns-else-all_wide
unfolding spline_fine
returns-else-all_wide c =
    let s = c.args.self.now in
    let k = c.span-k in
    let inside = sym c.in_domain.ensures ∙ c.if-in_domain.true in
    let within : Within s.degree k.result = record { degree = omega arith; from = omega arith; below = omega arith } in
    rw (inside, ← k.ensures.value, judged s.row.now s.degree k.result c.args.x within, ← c.all_wide.ensures, c.if-all_wide.false)

pub returns : goal.returns
unfolding spline_fine
returns c = let outside = sym c.in_domain.ensures ∙ c.if-in_domain.false in rw outside
