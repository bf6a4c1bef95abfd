-- `numbers::numbers` meets its contract. The invariant: the numbers laid and those from here on make up all, and the rest of the buffer is as it came. Assumes nothing.
use Prim.Native.Nat.{◌≤◌}
use lib.ListN.{length, drop}
use Rattle.fields.specs.Words.{words_of}
use Rattle.numbers.specs.Numbers.{numbers_of, listed}
use Rattle.numbers.proofs.Laying.{Laid}
use Rattle.numbers.proofs.numbers.Given as goal

abbrev pub invariant-loop-n : goal.invariant-loop-n
invariant-loop-n l = (l.at ≤ length l.line) × Laid (listed l.line l.k) l.initial.out l.out l.n (numbers_of (words_of (drop l.at l.line)))
