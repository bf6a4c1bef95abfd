-- `quick_fma::by_doubles` meets its contract: what either test settles is `fma`, and the rest goes to `fma::mul_add`. Assumes nothing.
use mathlib.Core.Path.{refl, sym, ◌∙◌, subst}
use lib.Dec.{T}
use Rattle.quick_fma.proofs.Settles.{tried, exactly-tried}
use Rattle.quick_fma.proofs.by_doubles.Goals as goal
use Rattle.quick_fma.proofs.by_doubles.Goals.{then-t-via-then-t, then-t-via-else-t+then-e}

pub returns-then-w : goal.returns-then-w
returns-then-w c =
    tried c.args.a c.args.x c.args.c (subst T (sym c.well_formed.0.1) tt) (subst T (sym c.well_formed.1.0.1) tt) (subst T (sym c.well_formed.1.1.0.1) tt) c.requires.0 c.requires.1 c.upper-h.result _ c.upper-g.result _ c.trial-w.result c.upper-h.ensures refl c.upper-g.ensures refl
    c.trial-w.ensures c.if-w.true

pub returns-then-is_finite : goal.returns-then-is_finite
returns-then-is_finite c =
    exactly-tried c.args.a c.args.x c.args.c (subst T (sym c.well_formed.0.1) tt) (subst T (sym c.well_formed.1.0.1) tt) (subst T (sym c.well_formed.1.1.0.1) tt) c.requires.0 c.requires.1 c.upper-h.result c.upper-g.result c.sum_off-t.result c.product_off-e.result
    c.upper-h.ensures c.upper-g.ensures c.sum_off-t.ensures c.product_off-e.ensures
    (elim c.then-t.branch [ then-t-via-then-t w ↦ rw w.if-t.true refl | then-t-via-else-t+then-e w ↦ rw (w.if-t.false, w.if-e.true) refl ])
    (sym c.is_finite.ensures ∙ c.if-is_finite.true)
