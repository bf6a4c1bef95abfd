-- `job_sheet::first::first_lines` meets its contract: line by line, until so many are gone over or the text ends. Assumes nothing.
use mathlib.Core.Path.{sym}
use native.Mathlib.Omega.{arith}
use Rattle.job_sheet.proofs.Firsts.{starts, goes_on, ran_out, gone-over}
use Rattle.job_sheet.proofs.first.first_lines.Goals as goal

pub loop-init : goal.loop-init
loop-init c = starts _ _

pub returns-then-text-at : goal.returns-then-text-at
returns-then-text-at c = sym (ran_out _ _ _ _ c.loop.invariant (omega arith) (omega arith))

pub loop-preserved : goal.loop-preserved
loop-preserved c = goes_on _ _ _ _ _ c.loop.invariant (omega arith) (omega arith) c.behind_line-at.ensures

pub returns : goal.returns
returns c = sym (gone-over _ _ _ _ c.loop.invariant (omega arith))
