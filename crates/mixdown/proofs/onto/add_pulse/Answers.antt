use Rattle.placing.proofs.Accepted.{curved-held}
use Rattle.std.proofs.Common.{length, sym, ◌∙◌}
use Rattle.mixdown.proofs.onto.add_pulse.Goals as goal

pub add_shaped-requires : goal.add_shaped-requires
add_shaped-requires c =
    let a = c.args in
    let is = sym c.judge.ensures ∙ c.in_ok-f.was in
    let held = curved-held a.s a.b a.numbers.now a.p (length a.i.now) _ (rw c.in-Shaped.is at is) in
    (held.fits, held.points, c.requires.1, c.requires.2)
