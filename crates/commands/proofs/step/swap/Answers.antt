-- The channels that are found are two of the eight.
use mathlib.Core.Path.{sym, ◌∙◌}
use Rattle.tables.proofs.Finding.{found-eight}
use Rattle.tables.proofs.Sizes.{eight_channels}
use Rattle.commands.proofs.step.swap.Goals as goal

pub osc_at-requires : goal.osc_at-requires
osc_at-requires c = found-eight c.args.t c.args.n _ (eight_channels c.args.t _ c.well_formed.0) (sym c.find.ensures ∙ c.in-Some.is)

pub osc_at-requires-2 : goal.osc_at-requires-2
osc_at-requires-2 c = found-eight c.args.t c.args.m _ (eight_channels c.args.t _ c.well_formed.0) (sym c.find-2.ensures ∙ c.in-Some-find.is)

pub with_osc-requires : goal.with_osc-requires
with_osc-requires c = found-eight c.args.t c.args.n _ (eight_channels c.args.t _ c.well_formed.0) (sym c.find.ensures ∙ c.in-Some.is)

pub with_osc-requires-2 : goal.with_osc-requires-2
with_osc-requires-2 c = found-eight c.args.t c.args.m _ (eight_channels c.args.t _ c.well_formed.0) (sym c.find-2.ensures ∙ c.in-Some-find.is)
