use Rattle.mixdown.proofs.Ending.{end-over, end-within, ends-passed}
use Rattle.mixdown.proofs.Sizes.{eight-ends}
use mathlib.Core.Path.{sym, ◌∙◌}
use native.Mathlib.Omega.{arith}
use Rattle.mixdown.proofs.ends_fit.Goals as goal

pub returns-then-e-k-gt8192 : goal.returns-then-e-k-gt8192
returns-then-e-k-gt8192 c = let whole = eight-ends c.args.e _ c.well_formed.0 in sym (sym c.loop-k.invariant.1 ∙ end-over c.args.e.ends c.loop-k.k (omega (arith, whole)) c.if-e-k-gt8192.true)

pub loop-k-preserved : goal.loop-k-preserved
loop-k-preserved c = let whole = eight-ends c.args.e _ c.well_formed.0 in (omega arith, end-within c.args.e.ends c.loop-k.k (omega (arith, whole)) (omega (arith, c.if-e-k-gt8192.false)) ∙ c.loop-k.invariant.1)

pub returns : goal.returns
returns c = let whole = eight-ends c.args.e _ c.well_formed.0 in sym (sym c.loop-k.invariant.1 ∙ ends-passed c.args.e.ends c.loop-k.k (omega (arith, whole)))
