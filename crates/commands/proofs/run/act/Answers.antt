-- A new row lies within the bins.
use Prim.Native.Nat.{◌<◌}
use native.Mathlib.Omega.{arith}
use mathlib.Core.Path.{sym, subst}
use Rattle.tables.proofs.Sizes.{eight_channels}
use Rattle.commands.proofs.Cases.{Within, step-within}
use Rattle.commands.proofs.run.act.Goals as goal

pub offset_bounds-bins-s : goal.offset_bounds-bins-s
offset_bounds-bins-s c =
    let a = c.args in
    let within = step-within a.t a.splines.now a.bins.now (eight_channels a.t _ c.well_formed.0) a.a in
    let below : c.step-s.result.at < 512 = (subst Within (sym c.step-s.ensures) within).row c.if-s.true in
    omega arith

pub bounds-bins-s : goal.bounds-bins-s
bounds-bins-s c =
    let a = c.args in
    let within = step-within a.t a.splines.now a.bins.now (eight_channels a.t _ c.well_formed.0) a.a in
    let below : c.step-s.result.at < 512 = (subst Within (sym c.step-s.ensures) within).row c.if-s.true in
    omega (arith, c.requires.1)
