-- `tables::settle_shape` meets its contract: a place that was found is one of eight. Assumes nothing.
use Prim.Native.Nat.{◌<◌}
use native.Mathlib.Omega.{arith}
use mathlib.Core.Path.{sym, ◌∙◌}
use borrow.Author.Tests.{lt-ltb, le-ltb}
use Rattle.tables.specs.Tables.{settled_shape}
use Rattle.tables.proofs.Sizes.{eight-shapes}
use Rattle.tables.proofs.Finding.{shape-eight}
use Rattle.tables.proofs.settle_shape.Goals.{In-Some}
use Rattle.tables.proofs.settle_shape.Goals as goal

module _ (c : In-Some) where
  there : c.in-Some.i < 8
  there =
      let a = c.args in
      shape-eight a.t a.name _ (eight-shapes a.t _ c.well_formed.0) (sym c.requires.0 ∙ c.in-Some.is)

pub offset_bounds-splines-i : goal.offset_bounds-splines-i
offset_bounds-splines-i c = let below = there c in omega arith

pub bounds-splines-i : goal.bounds-splines-i
bounds-splines-i c = let below = there c in omega (arith, c.requires.1)

pub returns-then-t-ge8 : goal.returns-then-t-ge8
unfolding settled_shape
returns-then-t-ge8 c = rw (c.refused.ensures, c.in-None.is, le-ltb _ _ c.if-t-ge8.true)

pub returns-in-Some : goal.returns-in-Some
unfolding settled_shape
returns-in-Some c = rw (c.done.ensures, c.in-Some.is)

pub returns-else-t-ge8 : goal.returns-else-t-ge8
unfolding settled_shape
returns-else-t-ge8 c = rw (c.done-in-None.ensures, c.in-None.is, lt-ltb _ _ c.if-t-ge8.false)
