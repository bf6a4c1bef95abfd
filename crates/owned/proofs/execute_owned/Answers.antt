-- The call is `execute` of the commands handed on, and what that does is what the call does (`as_counted` in `proofs/First.antt`).
use Rattle.owned.proofs.First.{as_counted}
use Rattle.owned.proofs.execute_owned.Goals as goal

pub returns : goal.returns
returns c =
    let a = c.args in
    let e = c.execute-tabled in
    rw c.with_pulses.ensures
    (as_counted a.t a.splines.now a.commands a.count a.bins.now a.pulses e.result e.new.bins e.new.pulses (rw c.to_run-n.ensures at e.ensures))
