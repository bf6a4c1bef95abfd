-- Of both loops: `sum` is the sum over the first j slots.
use mathlib.Core.Path.{◌≡◌}
use mathlib.Core.List.{[], ◌∷◌}
use Rattle.ring.specs.Inside.{output_to}
use Rattle.ring.proofs.few.sum_one.Given as goal

abbrev pub invariant-loop-j : goal.invariant-loop-j
invariant-loop-j l = l.sum ≡ output_to l.taps l.ring l.s (l.x ∷ []) l.j 0

abbrev pub invariant-loop-j-2 : goal.invariant-loop-j-2
invariant-loop-j-2 l = l.sum ≡ output_to l.taps l.ring l.s (l.x ∷ []) l.j 0
