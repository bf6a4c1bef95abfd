-- A channel that is found is one of the eight.
use mathlib.Core.Path.{sym, ◌∙◌}
use Rattle.tables.proofs.Finding.{found-eight}
use Rattle.tables.proofs.Sizes.{eight_channels}
use Rattle.commands.proofs.step.turn.Goals as goal

pub osc_at-requires : goal.osc_at-requires
osc_at-requires c = found-eight c.args.t c.args.name _ (eight_channels c.args.t _ c.well_formed.0) (sym c.find.ensures ∙ c.in-Some.is)

pub with_osc-requires : goal.with_osc-requires
with_osc-requires c = found-eight c.args.t c.args.name _ (eight_channels c.args.t _ c.well_formed.0) (sym c.find.ensures ∙ c.in-Some.is)
