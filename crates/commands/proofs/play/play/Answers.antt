-- A shape that is found is one of the eight.
use Prim.Native.Nat.{◌<◌}
use native.Mathlib.Omega.{arith}
use mathlib.Core.Path.{sym, ◌∙◌}
use Rattle.tables.proofs.Finding.{shape-eight}
use Rattle.tables.proofs.Sizes.{eight-shapes}
use Rattle.commands.proofs.play.play.Goals as goal

pub kind_at-requires : goal.kind_at-requires
kind_at-requires c =
    let below : c.in-Some-find_shape.k < 8 = shape-eight c.args.t c.in-Some.name _ (eight-shapes c.args.t _ c.well_formed.0) (sym c.find_shape.ensures ∙ c.in-Some-find_shape.is) in
    omega (arith, c.requires.0)
