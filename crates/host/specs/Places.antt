-- Aligned indices and places over the C border: a code, the number of the answer that the case is, and numbers that are 0 where it is refused. Definitions only.
use Rattle.quant.specs.declared.aligned.Misplaced.{Misplaced}
use Rattle.quant.specs.declared.aligned.Start.{Start}
use Rattle.std.specs.Prelude.{ℕ, Float, Option, Some, None, Result, Err, Ok}
use Rattle.quant.specs.declared.aligned.Misplaced.TheVariants as placed
use Rattle.exact.specs.Doubles.{nought}
use Rattle.quant.specs.Aligned.{aligned_answer, placed_answer}
use Rattle.quant.specs.Refusal.{number_of, reply_of}
use Rattle.quant.specs.declared.refusal.Refusal.{Refusal}
use Rattle.host.specs.declared.Index.{Index}
use Rattle.host.specs.declared.Place.{Place}

abbrev pub index_in : Option Float → Float
index_in (Some a) = a
index_in None = nought

abbrev pub index_of : Option Float → Index
index_of a = record { code = (reply_of (aligned_answer a)).number; index = index_in a }

abbrev pub start_in : Result Start Misplaced → ℕ
start_in (Ok p) = p.index
start_in (Err placed.NotFinite) = 0
start_in (Err placed.Before) = 0
start_in (Err placed.Beyond) = 0

abbrev pub offset_in : Result Start Misplaced → Float
offset_in (Ok p) = p.offset
offset_in (Err placed.NotFinite) = nought
offset_in (Err placed.Before) = nought
offset_in (Err placed.Beyond) = nought

abbrev pub place_of : Result Start Misplaced → Place
place_of p = record { code = (reply_of (placed_answer p)).number; start = start_in p; offset = offset_in p }

-- where it is refused
abbrev pub refused_place : Refusal → Place
refused_place r = record { code = number_of r; start = 0; offset = nought }
