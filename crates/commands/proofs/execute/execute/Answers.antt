-- Each turn is one command of what is left to run; a refused command leaves the bins and the pulses as they came.
use Rattle.std.proofs.Common.{◌≡◌, ◌∙◌, arith}
use Rattle.commands.specs.Step.{pulses_after}
use Rattle.commands.proofs.Turns.{at-end, stopped, turned}
use Rattle.commands.proofs.execute.execute.Goals as goal
use Rattle.commands.proofs.execute.execute.Goals.{then-s-2, else-s-2}

pub returns-then-s : goal.returns-then-s
returns-then-s c =
    rw c.refused.ensures
    (stopped _ _ _ _ _ _ _ c.loop-k-test.true _ _ c.act-s.ensures.value c.act-s.ensures.bins_after c.if-s.true ∙ c.loop-k.invariant)

pub loop-k-preserved : goal.loop-k-preserved
loop-k-preserved c =
    let put : c.if-s-2.pulses ≡ pulses_after c.act-s.result c.loop-k.pulses =
    elim c.if-s-2.branch [
      | then-s-2 w ↦ rw w.if-s-2.true (w.pulses-is ∙ w.store.ensures)
      | else-s-2 w ↦ rw w.if-s-2.false w.pulses-is
    ] in
    rw put (turned _ _ _ _ _ _ _ c.loop-k-test.true _ _ c.act-s.ensures.value c.act-s.ensures.bins_after c.if-s.false ∙ c.loop-k.invariant)

pub returns : goal.returns
returns c = rw c.done.ensures (at-end _ _ _ _ _ _ (omega arith) ∙ c.loop-k.invariant)
