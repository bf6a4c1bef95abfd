-- Document 01, "Lists and merging": the lists that take part in a sampling, each with its factor. Definitions only.
use Rattle.std.specs.Prelude.{ℕ, ◌*◌, ◌-◌, List, [], ◌∷◌, ◌++◌, map, length, take, drop, replicate, Float}
use Rattle.exact.specs.Doubles.{nought}
use Rattle.pulse.specs.declared.list.Pulse.{Pulse}
use Rattle.tables.specs.declared.Tables.{Tables}
use Rattle.tables.specs.Tables.{channel_at}
use Rattle.merge.specs.declared.taking.Taking.{Taking}
use Rattle.merge.specs.Sum.{summed}

-- one list: the place of its channel in the tables, and its factor
pub record Part : Type 0 where
  pub place : ℕ
  pub factor : Float

abbrev pub part : ℕ → Float → Part
part i f = record { place = i; factor = f }

abbrev pub place_of_part : Part → ℕ
place_of_part p = p.place

abbrev pub factor_of_part : Part → Float
factor_of_part p = p.factor

-- at most eight lists in the two arrays, the rest 0
unfoldable pub packed : List Part → Taking
packed ps =
    record {
      count = length ps;
      places = map place_of_part ps ++ replicate (8 - length ps) 0;
      factors = map factor_of_part ps ++ replicate (8 - length ps) nought;
    }

-- the records of channel i: 1,024 places a channel, of which the first so many are there
abbrev pub records_of : Tables → List Pulse → ℕ → List Pulse
records_of t pulses i = take (channel_at t i).pulses (take 1024 (drop (1024 * i) pulses))

-- channel i's list, summed with the tables' tolerance
abbrev pub list_of : Tables → List Pulse → ℕ → List Pulse
list_of t pulses i = summed t.time.0 (records_of t pulses i)

-- the lists that the two arrays hold; a count over 8 has the 8 that are there
unfoldable pub zipped : List ℕ → List Float → List Part
zipped [] fs = []
zipped (i ∷ is) [] = []
zipped (i ∷ is) (f ∷ fs) = part i f ∷ zipped is fs

abbrev pub parts_in : Taking → List Part
parts_in t = zipped (take t.count t.places) (take t.count t.factors)
