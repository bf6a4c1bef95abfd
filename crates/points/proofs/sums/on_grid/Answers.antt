-- `points::sums::on_grid` meets its contract. Assumes nothing.
use Rattle.std.proofs.Common.{◌≡◌, true, true≢false, not-le_of_lt, T, sym, ◌∙◌, subst}
use borrow.Author.Tests.{leb-true}
use lib.Ieee.{Float, binary64, lt, mul}
use Rattle.exact.specs.Doubles.{two}
use Rattle.points.proofs.Stepping.{stride, on-grid}
use Rattle.points.proofs.sums.on_grid.Goals as goal
use Rattle.points.proofs.sums.on_grid.Goals.{then-n-le65536, else-n-le65536, then-dx, else-dx, then-dx-2, else-dx-2}

pub returns-then-nearest_u64_to_f64-dx : goal.returns-then-nearest_u64_to_f64-dx
returns-then-nearest_u64_to_f64-dx c =
    let a = c.args in
    elim c.if-dx-2.branch [
      | else-dx-2 w ↦ absurd (true≢false (cc))
      | then-dx-2 w ↦ elim c.if-dx.branch [
        | else-dx v ↦ absurd (true≢false (cc))
        | then-dx v ↦ elim c.if-n-le65536.branch [
          | else-n-le65536 u ↦ absurd (not-le_of_lt u.if-n-le65536.false (leb-true a.n 65536 (sym u.value-is ∙ v.if-dx.true)))
          | then-n-le65536 u ↦
              let way : lt (mul binary64 w.nearest_u64_to_f64.result a.dx) two ≡ true = sym w.value-is ∙ c.if-nearest_u64_to_f64-dx.true in λ e.
              on-grid a.n a.x a.dx u.if-n-le65536.true
              (stride a.dx (subst T (sym c.well_formed.1.1.0.1) tt) (cc) (cc))
              (subst (λ (m : Float). lt (mul binary64 m a.dx) two ≡ true) w.nearest_u64_to_f64.ensures way)
              (c.is_stepped.ensures e)
        ]
      ]
    ]
