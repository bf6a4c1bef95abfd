-- A channel that is found is one of the eight.
use Prim.Native.Nat.{◌<◌}
use native.Mathlib.Omega.{arith}
use mathlib.Core.Path.{sym, ◌∙◌}
use Rattle.tables.proofs.Finding.{found-eight}
use Rattle.tables.proofs.Sizes.{eight_channels}
use Rattle.commands.proofs.play.play_as.Goals as goal

pub bounds-t-i : goal.bounds-t-i
bounds-t-i c = found-eight c.args.t c.args.p.channel _ (eight_channels c.args.t _ c.well_formed.0) (sym c.find.ensures ∙ c.in-Some.is)

pub offset_bounds-t-i : goal.offset_bounds-t-i
offset_bounds-t-i c =
    let there : c.in-Some.i < 8 = found-eight c.args.t c.args.p.channel _ (eight_channels c.args.t _ c.well_formed.0) (sym c.find.ensures ∙ c.in-Some.is) in
    omega arith

pub push-requires-clause-i_bound : goal.push-requires-clause-i_bound
push-requires-clause-i_bound c =
    (found-eight c.args.t c.args.p.channel _ (eight_channels c.args.t _ c.well_formed.0) (sym c.find.ensures ∙ c.in-Some.is), c.requires.0, c.requires.1)
