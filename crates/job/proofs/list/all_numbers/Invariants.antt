-- `job::list::all_numbers` meets its contract. The invariant: the words from here on, with `left` to pass over, are judged as those from word k on. Assumes nothing.
use Prim.Native.Nat.{◌+◌, ◌-◌, ◌≤◌}
use mathlib.Core.Path.{◌≡◌}
use lib.ListN.{length, drop}
use Rattle.fields.specs.Words.{words_of}
use Rattle.job.specs.List.{all_numbers, numbers_from}
use Rattle.job.proofs.list.all_numbers.Given as goal

abbrev pub invariant-loop-at : goal.invariant-loop-at
invariant-loop-at l = (l.at ≤ length l.line) × (all_numbers (drop l.left (words_of (drop l.at l.line))) ≡ numbers_from l.k (words_of l.line))

abbrev pub decreases-loop-at : goal.decreases-loop-at
decreases-loop-at l = length l.line + 1 - l.at
