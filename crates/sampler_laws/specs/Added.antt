-- Words for the laws of the sampling call: the pulses of a call in the order in which they are added, and the rows with the first of them. Definitions only.
use Rattle.quant.specs.Refusal.{Answer}
use Rattle.quant.specs.declared.refusal.Refusal.{Refusal}
use Rattle.std.specs.Prelude.{ℕ, List, [], ◌∷◌, ◌++◌, Float, length, Result, Ok, Err}
use Rattle.quant.specs.declared.settings.Settings.{Settings}
use Rattle.pulse.specs.declared.bin.Bin.{Bin}
use Rattle.pulse.specs.declared.list.Pulse.{Pulse}
use Rattle.pulse.specs.Bin.{bin_of, numbers_of}
use Rattle.placing.specs.declared.Judged.{Judged}
use Rattle.placing.specs.declared.Judged.TheVariants.{Plateau, Shaped}
use Rattle.placing.specs.Judged.{judged}
use Rattle.mixdown.specs.Sampled.{Rowed, added_to}

-- a pulse with its bin, and the numbers of the bin's spline
pub record Due : Type 0 where
  pub bin : Bin
  pub numbers : List Float
  pub pulse : Pulse

abbrev pub due : Bin → List Float → Pulse → Due
due b numbers p = record { bin = b; numbers = numbers; pulse = p }

unfoldable pub dues_of : Bin → List Float → List Pulse → List Due
dues_of b numbers [] = []
dues_of b numbers (p ∷ ps) = due b numbers p ∷ dues_of b numbers ps

-- bin by bin
unfoldable pub all_dues : (List Float → List Pulse) → List (List Float) → List Due
all_dues merged [] = []
all_dues merged (r ∷ rs) = dues_of (bin_of r) (numbers_of r) (merged r) ++ all_dues merged rs

-- the rows with some pulses added, one after another
unfoldable pub with_all : Settings → ℕ → List Due → Rowed → Rowed
with_all s rows [] st = st
with_all s rows (d ∷ ds) st = with_all s rows ds (added_to s d.bin d.numbers rows (judged s d.bin d.numbers d.pulse (length st.i)) st)

-- the count or the place of an answer
abbrev pub count_in : Answer → ℕ
count_in (Ok k) = k
count_in (Err e) = e.place

-- the samples that an accepted pulse is added onto: from where, and how many; of a refused one none
abbrev pub from_of : Result Judged Refusal → ℕ
from_of (Ok (Plateau f)) = f.start
from_of (Ok (Shaped c)) = c.start
from_of (Err r) = 0

abbrev pub length_of : Result Judged Refusal → ℕ
length_of (Ok (Plateau f)) = f.count
length_of (Ok (Shaped c)) = c.points
length_of (Err r) = 0
