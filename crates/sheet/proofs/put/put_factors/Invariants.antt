-- `sheet::put::put_factors` meets its contract. The invariant: putting the lines that are left comes to putting them all. Assumes nothing.
use mathlib.Core.Bool.{true}
use mathlib.Core.Path.{◌≡◌}
use lib.ListN.{drop}
use Rattle.sheet.specs.Sheet.{all_finite, factors_text, patterns}
use Rattle.sheet.proofs.Pasting.{Left}
use Rattle.sheet.proofs.put.put_factors.Given as goal

abbrev pub invariant-loop-x : goal.invariant-loop-x
invariant-loop-x l =
    (all_finite (drop l.x-index l.numbers) ≡ true)
    × Left (factors_text (patterns (drop l.x-index l.numbers))) (factors_text (patterns l.numbers)) l.initial.out l.from l.at l.out
