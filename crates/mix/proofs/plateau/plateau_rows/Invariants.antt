-- `mix::plateau::plateau_rows` meets its contract. The invariant is that of `plateau_row` for each row, and that the rows have one length. Assumes nothing.
use mathlib.Core.Path.{◌≡◌}
use lib.ListN.{length, drop}
use Rattle.mix.specs.Plateau.{carried, real, imaginary}
use Rattle.mix.proofs.Turns.{Laid}
use Rattle.mix.proofs.plateau.plateau_rows.Given as goal

abbrev pub invariant-loop-k : goal.invariant-loop-k
invariant-loop-k l = Laid (carried real l.initial.z l.rotation l.initial.i) l.initial.i l.i l.k (carried real l.z l.rotation (drop l.k l.i)) × Laid (carried imaginary l.initial.z l.rotation l.initial.q) l.initial.q l.q l.k (carried imaginary l.z l.rotation (drop l.k l.q)) × (length l.initial.i ≡ length l.initial.q)
