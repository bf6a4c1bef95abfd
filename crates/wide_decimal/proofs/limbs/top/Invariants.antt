-- The bits are those of the digits from `i` on, or the leading ones of them.
use Rattle.wide_decimal.proofs.Leading.{Leads}
use Rattle.wide_decimal.proofs.limbs.top.Given as goal

abbrev pub invariant-loop-i : goal.invariant-loop-i
invariant-loop-i l = Leads l.a l.fn.front.bits l.fn.front.lost l.bits l.lost l.i
