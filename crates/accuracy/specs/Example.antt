-- A call that demand 3 speaks of: a channel `q` with one stored pulse of no shape, three samples long, that turns by an eighth each sample; no
-- crosstalk; sampled at rate 1 onto two rows of five zeros, of both signs. Definitions only.
use Rattle.std.specs.Prelude.{◌*◌, ◌^◌, ◌≡◌, false, List, [], ◌∷◌, ◌++◌, pos, Float, get_or, replicate, Ok}
use Rattle.std.specs.Float.{nan, binary64}
use Rattle.std.specs.Float.Ieee.{of_bits}
use Rattle.exact.specs.Doubles.{nought, one}
use Rattle.exact.specs.Value.{value_of}
use Rattle.exact.specs.Signed.{Apart, times}
use Rattle.naming.specs.declared.Name.{Name}
use Rattle.pulse.specs.declared.envelope.Shape.TheVariants.{Plain}
use Rattle.pulse.specs.declared.list.Pulse.{Pulse}
use Rattle.pulse.specs.Bin.{no_numbers, bin_of}
use Rattle.tables.specs.declared.Tables.{Tables}
use Rattle.tables.specs.Tables.{no_name, at_rest, fresh}
use Rattle.crosstalk.specs.declared.names.Crosstalk.{Crosstalk}
use Rattle.commands.specs.Step.{no_pulse, no_head}
use Rattle.mixdown.specs.Sampled.{Rowed, rowed}
use Rattle.sampler.specs.declared.Request.{Request}
use Rattle.sampler.specs.Sampler.{Left, sampled}
use Rattle.accuracy.specs.Exact.{absolute}
use Rattle.accuracy.specs.Call.{Bounded, Zeros, AsSampled, amp_of, start_of, rotation_of, length_of, exact_of, Only, PlateauNear}

-- -0.0, 0.125, 3.0 and -9.0
abbrev pub minus-nought : Float
minus-nought = of_bits binary64 0x8000_0000_0000_0000

abbrev pub eighth : Float
eighth = of_bits binary64 0x3fc0_0000_0000_0000

abbrev pub three : Float
three = of_bits binary64 0x4008_0000_0000_0000

abbrev pub minus-nine : Float
minus-nine = of_bits binary64 0xc022_0000_0000_0000

-- ---- what is stored

abbrev pub channel : Name
channel = record { first = 0x71; second = 0; len = 1 }

abbrev pub tables : Tables
tables =
    record {
      amp = record { 0 = nought };
      time = record { 0 = nought };
      oversize = false;
      channels = record { name = channel; osc = at_rest; bins = 1; pulses = 1 } ∷ replicate 7 (fresh no_name at_rest);
      count = 1;
      shapes = replicate 8 no_name;
      named = 0;
    }

-- its bin: no shape, width 0, plateau 3, global frequency 0.125, local frequency 0; of a spline no numbers
abbrev pub row : List Float
row = nought ∷ nought ∷ three ∷ eighth ∷ nought ∷ no_numbers

-- it begins at 1, and its amplitude is 3 - 9 i
abbrev pub pulse : Pulse
pulse = record { bin = 0; time = record { 0 = one }; amp = record { re = three; im = minus-nine }; drag = record { re = nought; im = nought } }

abbrev pub bins : List (List Float)
bins = row ∷ replicate 511 (no_head ++ no_numbers)

abbrev pub pulses : List Pulse
pulses = pulse ∷ replicate 8191 no_pulse

-- ---- the call

abbrev pub request : Request
request = record { channel = channel; rate = record { 0 = one }; delay = record { 0 = nought }; level = pos 0; rows = 2 }

abbrev pub cross : Crosstalk
cross = record { count = 0; names = replicate 8 no_name }

abbrev pub rows : Rowed
rows =
    rowed (nought ∷ minus-nought ∷ nought ∷ minus-nought ∷ minus-nought ∷ []) (minus-nought ∷ nought ∷ minus-nought ∷ nought ∷ nought ∷ [])
    (replicate 5 nought)

abbrev pub left : Left
left = sampled tables request cross [] bins pulses rows (replicate 8192 no_head) (replicate 8192 0)

-- the pulse as sampled: it starts at sample 1
abbrev pub the_one : AsSampled
the_one =
    record {
      settings = record { rate = record { 0 = one }; dt = record { 0 = one }; delay = record { 0 = nought }; level = pos 0 };
      bin = bin_of row;
      pulse = pulse;
      start = 1;
      offset = nought;
    }

-- sample 0 of I lies within 2^-53·m of the exact product
abbrev pub Closer : Type 0
Closer = Apart (times (2 ^ 53 * 2 ^ 1074) (value_of (get_or left.rows.i 1 nan))) (times (2 ^ 53) (exact_of the_one 0).re) (absolute (amp_of the_one) * 2 ^ 1074)

-- ---- what holds of it: all that `plateau-near` asks for, and what follows. Its samples are not exact: of sample 0 a bound with 2^-53 is false.
pub record Shown : Type 0 where
  pub zeros : Zeros 2 5 rows
  pub done : left.answer ≡ Ok 1
  pub only : Only tables request cross [] bins pulses the_one
  pub plain : the_one.bin.envelope.shape ≡ Plain
  pub bounded : Bounded (amp_of the_one) (start_of the_one) (rotation_of the_one)
  pub long : length_of the_one ≡ 3
  pub near : PlateauNear the_one 2 5 rows left.rows
  pub not-closer : Closer → ⊥
