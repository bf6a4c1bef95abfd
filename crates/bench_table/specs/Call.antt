-- A pulse of the bench examples, and a sampling call: "Rate 1, delay 0", one channel, no crosstalk, one row of zeros. Where the lines name neither
-- amplitude nor frequency, the amplitude is 1 and all else 0. Definitions only.
use Rattle.std.specs.Prelude.{ℕ, ◌-◌, false, List, [], ◌∷◌, ◌++◌, ℤ, Float, length, replicate}
use Rattle.naming.specs.declared.Name.{Name}
use Rattle.quant.specs.declared.settings.Settings.{Settings}
use Rattle.pulse.specs.declared.bin.Bin.{Bin}
use Rattle.pulse.specs.declared.envelope.Shape.{Shape}
use Rattle.pulse.specs.declared.list.Pulse.{Pulse}
use Rattle.pulse.specs.Bin.{no_numbers, row_of}
use Rattle.pulse.specs.Envelope.{envelope_of}
use Rattle.executor.specs.declared.osc.OscState.{OscState}
use Rattle.tables.specs.declared.Tables.{Tables}
use Rattle.tables.specs.Tables.{no_name, at_rest, fresh}
use Rattle.crosstalk.specs.declared.names.Crosstalk.{Crosstalk}
use Rattle.commands.specs.Step.{no_pulse, no_head}
use Rattle.mixdown.specs.Sampled.{rowed}
use Rattle.sampler.specs.declared.Request.{Request}
use Rattle.sampler.specs.Sampler.{Left, sampled}
use Rattle.bench_table.specs.Numbers.{whole}

-- ---- the pulse

-- rate 1, so dt 1, and delay 0, at an align level
abbrev pub clock : ℤ → Settings
clock level = record { rate = record { 0 = whole 1 }; dt = record { 0 = whole 1 }; delay = record { 0 = whole 0 }; level = level }

-- a shape, a width and a plateau; global and local frequency 0
abbrev pub bin_with : Shape → Float → Float → Bin
bin_with shape width plateau = record { envelope = envelope_of shape width plateau; global = record { 0 = whole 0 }; local = record { 0 = whole 0 } }

-- a time; amplitude 1, drag 0
abbrev pub pulse_at : Float → Pulse
pulse_at time = record { bin = 0; time = record { 0 = time }; amp = record { re = whole 1; im = whole 0 }; drag = record { re = whole 0; im = whole 0 } }

-- ---- the call

-- the channel's name is `q`
abbrev pub channel : Name
channel = record { first = 0x71; second = 0; len = 1 }

-- a time tolerance, and one channel, with an oscillator and so many pulses stored, all of one bin
abbrev pub tables_with : Float → OscState → ℕ → Tables
tables_with tolerance osc pulses =
    record {
      amp = record { 0 = whole 0 };
      time = record { 0 = tolerance };
      oversize = false;
      channels = record { name = channel; osc = osc; bins = 1; pulses = pulses } ∷ replicate 7 (fresh no_name at_rest);
      count = 1;
      shapes = replicate 8 no_name;
      named = 0;
    }

-- what is lent: the bin, no spline, and the pulses stand first, and the rest is not read
abbrev pub bins_lent : Bin → List (List Float)
bins_lent b = row_of b no_numbers ∷ replicate 511 (no_head ++ no_numbers)

abbrev pub pulses_lent : List Pulse → List Pulse
pulses_lent ps = ps ++ replicate (8192 - length ps) no_pulse

-- one row, with the clock as above
abbrev pub request : ℤ → Request
request level = record { channel = channel; rate = record { 0 = whole 1 }; delay = record { 0 = whole 0 }; level = level; rows = 1 }

-- no crosstalk names
abbrev pub no_crosstalk : Crosstalk
no_crosstalk = record { count = 0; names = replicate 8 no_name }

-- what `sample` leaves: the pulses ps of the bin b, at a time tolerance and an align level, on a row of n samples
abbrev pub sampled_on : Float → Bin → List Pulse → ℤ → ℕ → Left
sampled_on tolerance b ps level n =
    sampled (tables_with tolerance at_rest (length ps)) (request level) no_crosstalk [] (bins_lent b) (pulses_lent ps)
    (rowed (replicate n (whole 0)) [] (replicate n (whole 0)))
    (replicate 8192 no_head)
    (replicate 8192 0)
