-- Nothing is at fault so far. What is answered of the names from i on, behind those before, is the answer; whether name i stands from k on, before i,
-- is whether it stood before.
use Rattle.std.proofs.Common.{◌≡◌, [], take, drop}
use Rattle.std.specs.Prelude.{Ok}
use lib.ListN.{get_or}
use Rattle.naming.specs.Name.{is_in}
use Rattle.tables.specs.Tables.{no_name}
use Rattle.crosstalk.specs.Crosstalk.{names_in, names_judged}
use Rattle.crosstalk.proofs.names.names_judged.Given as goal

abbrev pub invariant-loop-k : goal.invariant-loop-k
invariant-loop-k l =
    let n = get_or l.c.names l.i no_name in
    (l.answer ≡ Ok 0) × (is_in n (drop l.k (take l.i l.c.names)) ≡ is_in n (take l.i l.c.names))

abbrev pub invariant-scan : goal.invariant-scan
invariant-scan l = (l.answer ≡ Ok 0) × (names_judged l.t (take l.i l.c.names) (drop l.i (names_in l.c)) ≡ names_judged l.t [] (names_in l.c))
