-- `job_sheet::first::first_lines`: the lines that are still to go over. Assumes nothing.
use Prim.Native.Nat.{◌-◌}
use Rattle.job_sheet.proofs.Firsts.{Going}
use Rattle.job_sheet.proofs.first.first_lines.Given as goal

abbrev pub invariant-loop : goal.invariant-loop
invariant-loop l = Going l.text l.count l.at (l.count - l.counter)
