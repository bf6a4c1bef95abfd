-- A line of the bench examples, of whichever kind, and what it claims. Definitions only.
use Rattle.std.specs.Prelude.{List, [], ◌∷◌}
use Rattle.bench_table.specs.Pulses.{Placing, Places, Shaping, Shapes}
use Rattle.bench_table.specs.Steps.{Both, Filtering, Filters, Fusing, Fuses, Merging, Merges, Turning, Turns}

-- B1 to B4; B5; B6; B7; B8; B9
pub data Line : Type 0 where
  placing : Placing → Line
  filtering : Filtering → Line
  shaping : Shaping → Line
  fusing : Fusing → Line
  merging : Merging → Line
  turning : Turning → Line

-- what a line claims
abbrev pub Holds : Line → Type 0
Holds (placing l) = Places l
Holds (filtering l) = Filters l
Holds (shaping l) = Shapes l
Holds (fusing l) = Fuses l
Holds (merging l) = Merges l
Holds (turning l) = Turns l

-- every line of a list holds
abbrev pub Every : List Line → Type 0
Every [] = Unit {0}
Every (l ∷ ls) = Both (Holds l) (Every ls)
