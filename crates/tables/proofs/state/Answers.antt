-- `tables::state` meets its contract. Assumes nothing.
use Prim.Native.Nat.{◌<◌}
use native.Mathlib.Omega.{arith}
use mathlib.Core.Path.{◌≡◌, sym, ◌∙◌}
use mathlib.Core.Bool.{true}
use Rattle.naming.specs.Name.{is_name}
use Rattle.tables.specs.Tables.{told_at}
use Rattle.tables.proofs.Sizes.{eight_channels}
use Rattle.tables.proofs.Finding.{found-eight}
use Rattle.tables.proofs.state.Goals.{In-Some}
use Rattle.tables.proofs.state.Goals as goal

module _ (c : In-Some) where
  there : c.in-Some.i < 8
  there =
      let a = c.args in
      found-eight a.t a.name _ (eight_channels a.t _ c.well_formed.0) (sym c.find.ensures ∙ c.in-Some.is)

pub offset_bounds-t-i : goal.offset_bounds-t-i
offset_bounds-t-i c = let below = there c in omega arith

pub bounds-t-i : goal.bounds-t-i
bounds-t-i c = there c

pub returns-in-Some : goal.returns-in-Some
unfolding told_at
returns-in-Some c =
    rw ((let it : is_name c.args.name ≡ true = sym c.is_name.ensures ∙ c.if-not-is_name.false in it), sym c.find.ensures ∙ c.in-Some.is)

pub returns-in-None : goal.returns-in-None
unfolding told_at
returns-in-None c = rw ((let it : is_name c.args.name ≡ true = sym c.is_name.ensures ∙ c.if-not-is_name.false in it), sym c.find.ensures ∙ c.in-None.is)
